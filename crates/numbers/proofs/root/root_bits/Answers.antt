-- `numbers::root::root_bits` meets its contract. Assumes nothing.
use Rattle.std.proofs.Common.{◌≡◌, ℕ, ◌+◌, ◌*◌, ◌/◌, ◌%◌, ◌^◌, ap, ◌∙◌, subst, arith}
use Rattle.numbers_spec.specs.Root.{NearRoot}
use Rattle.numbers_spec.proofs.Rooted.{c_le, root_bits_is}
use Rattle.numbers.proofs.root.root_bits.Goals as goal

-- the digits that were found are those of the normalised number
near : (a b : ℕ) (d e : ℕ) (r : ℕ) → a ≡ b → d ≡ e → NearRoot (a * 2 ^ (52 + d % 2)) r → NearRoot (b * 2 ^ (52 + e % 2)) r
near a b d e r p q h = subst (λ (k : ℕ). NearRoot (b * 2 ^ (52 + k % 2)) r) q (subst (λ (k : ℕ). NearRoot (k * 2 ^ (52 + d % 2)) r) p h)

pub overflow_add-result-2 : goal.overflow_add-result-2
overflow_add-result-2 c =
    let p = c.args.p in
    let n = c.normalise-n.ensures in
    let d = c.root_digits in
    let small = c_le p.sig p.exp c.requires p.sig_lt p.exp_le d.result (near _ _ _ _ d.result n.full_is n.scale_is d.ensures) in
    let low = n.scale_is in
    let most = p.exp_le in
    omega arith

pub returns : goal.returns
returns c =
    let p = c.args.p in
    let n = c.normalise-n.ensures in
    let d = c.root_digits in
    ap (λ (k : ℕ). (k / 2 + 485) * 4503599627370496 + d.result) n.scale_is
    ∙ root_bits_is p.sig p.exp c.requires p.sig_lt p.exp_le d.result (near _ _ _ _ d.result n.full_is n.scale_is d.ensures)
