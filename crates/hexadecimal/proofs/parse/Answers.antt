use Rattle.std.proofs.Common.{◌≡◌, ℕ, ◌+◌, ◌*◌, ◌^◌, ◌<◌, ◌≤◌, ◌==◌, if◌then◌else◌, List, length, drop, slice_index_or, None, Some, sym, ◌∙◌, arith, add-one, drop-cons, drop_of_length-le, lt_of_lt_of_le}
use Rattle.std.proofs.lemmas.Grind.{common_steps}
use lib.Pow.{pow-add, pow_mono}
use Rattle.hexadecimal.specs.Hexadecimal.{digit_of, word_from}
use Rattle.hexadecimal.proofs.parse.Goals as goal

digit_le : (b : ℕ) → digit_of b ≤ 16
unfolding digit_of
digit_le b = grind (arith, common_steps)

module _ (v : ℕ) (l : List ℕ) (i : ℕ) (h : i < length l) where
  stops : None ≡ (if digit_of (slice_index_or l i 0) == 16 then None else Some (digit_of (slice_index_or l i 0))) → word_from v (drop i l) ≡ None
  unfolding word_from
  stops e = rw (drop-cons l i 0) (grind (arith, common_steps))

  goes : (k : ℕ) → Some k ≡ (if digit_of (slice_index_or l i 0) == 16 then None else Some (digit_of (slice_index_or l i 0))) → (k < 16) × (word_from v (drop i l) ≡ word_from (v * 16 + k) (drop (i + 1) l))
  unfolding word_from
  goes k e = (grind (arith, common_steps, digit_le), rw (add-one, drop-cons l i 0) (grind (arith, common_steps)))

-- one digit more
longer : (v k i : ℕ) → v < 2 ^ (4 * i) → k < 16 → v * 16 + k < 2 ^ (4 * (i + 1))
longer v k i h w =
    let e : 4 * (i + 1) ≡ 4 * i + 4 = omega arith in
    rw (e, pow-add 2 (4 * i) 4) (omega arith)

fits : (n i : ℕ) → n < 2 ^ (4 * (i + 1)) → i < 16 → n < 2 ^ 64
fits n i h k =
    let most : 4 * (i + 1) ≤ 64 = omega arith in
    lt_of_lt_of_le h (pow_mono most)

pub overflow_mul-value : goal.overflow_mul-value
overflow_mul-value c =
    let l = c.loop-byte in
    let h = longer l.value 0 l.byte-index l.invariant.below (omega arith) in record { fits = fits _ l.byte-index (omega (arith, h)) (omega arith) }

pub returns-in_err-value : goal.returns-in_err-value
returns-in_err-value c =
    let l = c.loop-byte in
    c.from_residual.ensures ∙ sym (l.invariant.same ∙ stops l.value _ l.byte-index c.loop-byte-test.true (c.in_err-value.ensures))

pub overflow_add-value : goal.overflow_add-value
overflow_add-value c =
    let l = c.loop-byte in
    let d = goes l.value _ l.byte-index c.loop-byte-test.true _ (c.in_ok-value.ensures) in
    record { fits = fits _ l.byte-index (longer l.value _ l.byte-index l.invariant.below d.0) (omega arith) }

pub loop-byte-preserved : goal.loop-byte-preserved
loop-byte-preserved c =
    let l = c.loop-byte in
    let d = goes l.value _ l.byte-index c.loop-byte-test.true _ (c.in_ok-value.ensures) in
    record { below = longer l.value _ l.byte-index l.invariant.below d.0; same = l.invariant.same ∙ d.1 }

done : (v : ℕ) (l : List ℕ) (i : ℕ) → length l ≤ i → word_from v (drop i l) ≡ Some v
unfolding word_from
done v l i h = rw (drop_of_length-le l h)

pub returns : goal.returns
returns c = let l = c.loop-byte in sym (l.invariant.same ∙ done l.value _ l.byte-index c.loop-byte-test.false)
