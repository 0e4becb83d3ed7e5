-- What is left of eight blank candidates stands behind those found. Assumes nothing.
use Rattle.std.proofs.Common.{◌≡◌, ◌∙◌, ap, List, ◌++◌, length}
use Rattle.std.proofs.lemmas.List.{drop-replicate}
use lib.Ieee.{of_bits}
use Rattle.matcher_spec.specs.Candidates.{blank}
use Rattle.matcher_spec.specs.declared.types.Candidate.{Candidate}
use Rattle.matcher_picks.proofs.candidates.eight_of.Goals as goal

pub returns : goal.returns
unfolding of_bits
returns c =
    let found = c.args.found.now.items in
    let e = c.default-eight.ensures in
    let empty : c.default-eight.result ≡ blank = (λ i. record { offset_ms = e.0 i; score = e.1.0 i; first_half_score = e.1.1.0 i; second_half_score = e.1.1.1.0 i; recent_score = e.1.1.1.1 i }) in
    let front : c.copy_from_slice.new.self ≡ found = c.copy_from_slice.ensures.after ∙ c.deref.ensures.0 in
    rw (front, c.len.ensures.value, empty) (ap (λ (l : List Candidate). found ++ l) (drop-replicate (length found) 8 blank))
