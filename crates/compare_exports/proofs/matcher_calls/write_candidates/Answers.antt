-- One more candidate's numbers are written. Assumes nothing.
use Rattle.std.proofs.Common.{◌≡◌, ℕ, ◌+◌, ◌-◌, ◌*◌, ◌<◌, List, [], ◌∷◌, ◌++◌, length, get_or, take, drop, Float, arith, refl, ap, ◌∙◌, rules, add-one, append_assoc}
use borrow.Rule.Slice.PartMut.{put_mid}
use lib.Seq.{take-suc, take_at, drop_at, drop-drop, length-take-le}
use Rattle.matcher_spec.specs.declared.types.Candidate.{Candidate}
use Rattle.compare_exports.specs.MatcherCalls.{numbers_of}
use Rattle.compare_exports.proofs.matcher_calls.write_candidates.Goals as goal

abbrev numbers : Candidate → List Float
numbers c = c.offset_ms ∷ c.score ∷ c.first_half_score ∷ c.second_half_score ∷ c.recent_score ∷ []

numbers_more : (l : List Candidate) (c : Candidate) → numbers_of (l ++ (c ∷ [])) ≡ numbers_of l ++ numbers c
unfolding numbers_of
numbers_more [] c = refl
numbers_more (d ∷ ds) c = rw (numbers_more ds c)

length_numbers : (l : List Candidate) → length (numbers_of l) ≡ length l * 5
unfolding numbers_of
length_numbers [] = refl
length_numbers (c ∷ cs) = rw (length_numbers cs) (omega arith)

more : (cs : List Candidate) (z : Candidate) (old out : List Float) (i : ℕ) → i < length cs → out ≡ numbers_of (take i cs) ++ drop (i * 5) old
    → put_mid (i * 5) (i * 5 + 5 - i * 5) out (numbers (get_or cs i z)) ≡ numbers_of (take (i + 1) cs) ++ drop ((i + 1) * 5) old
more cs z old out i h e =
    let first = numbers_of (take i cs) in
    let n : length first ≡ i * 5 = length_numbers (take i cs) ∙ ap (λ (m : ℕ). m * 5) (length-take-le i cs (omega arith)) in
    let five : i * 5 + 5 - i * 5 ≡ 5 = omega arith in
    let next : (i + 1) * 5 ≡ i * 5 + 5 = omega arith in
    rw (
      e,
      five,
      take_at first (drop (i * 5) old) (i * 5) n,
      drop_at first (drop (i * 5) old) (i * 5) n,
      drop-drop 5 (i * 5) old,
      next,
      add-one,
      take-suc cs i z h,
      numbers_more,
      append_assoc,
    )

pub loop-i-init : goal.loop-i-init
unfolding numbers_of
loop-i-init c = refl

pub loop-i-preserved : goal.loop-i-preserved
loop-i-preserved c =
    let l = c.loop-i in
    rw (c.copy_from_slice.ensures.after, c.numbers_of.ensures) (more c.eight_of-eight.result _ c.args.out.now l.out l.i (search rules) l.invariant)
