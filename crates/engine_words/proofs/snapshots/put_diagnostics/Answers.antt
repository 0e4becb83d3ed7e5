-- `engine_words::snapshots::put_diagnostics` meets its contract. Assumes nothing.
use lib.ListN.{length}
use native.Mathlib.Omega.{arith}
use Prim.Native.Nat.{ℕ, ◌+◌, ◌≤◌}
use mathlib.Core.List.{List, ◌++◌}
use mathlib.Core.Path.{refl}
use Rattle.matcher_spec.specs.Limits.{candidates_most}
use Rattle.engine_layout.specs.Written.{diagnostics_numbers, diagnostics_words, candidates_to, spectral_words}
use Rattle.engine_layout.specs.Layout.{diagnostics_with, spectral_of}
use Rattle.engine_layout.proofs.Laws.{Laid, first_laid, next_laid}
use Rattle.engine_words.proofs.ReadBack.{given_back, diagnostics_back}
use Rattle.engine_layout.proofs.Lengths.{numbers_long, candidates_long, spectral_long}
use Rattle.engine_words.proofs.snapshots.put_diagnostics.Goals as goal

pub returns : goal.returns
unfolding diagnostics_words
returns c =
    let a = c.args in
    let w0 : List ℕ = a.words.now in
    let h : a.at + 61 ≤ length w0 = c.requires in
    let numbers = c.diagnostics_words in
    let spectral = c.spectral_words in
    let l1 : Laid a.at 12 (diagnostics_numbers a.d) w0 c.put.new.words = first_laid numbers.ensures.value (numbers_long a.d) c.put.ensures in
    let l2 : Laid a.at 52 (diagnostics_numbers a.d ++ candidates_to candidates_most a.d.candidates) w0 c.put_candidates.new.words =
    next_laid l1 refl (candidates_long a.d.candidates) refl (omega arith) c.put_candidates.ensures.words_after in
    let l3 : Laid a.at 61 (diagnostics_numbers a.d ++ candidates_to candidates_most a.d.candidates ++ spectral_words a.d.spectral) w0 c.put-2.new.words =
    next_laid l2 spectral.ensures.value (spectral_long a.d.spectral) refl (omega arith) c.put-2.ensures in
    let bn = given_back (λ (r : List ℕ). diagnostics_with r a.d.candidates a.d.spectral) numbers.ensures.value numbers.ensures.back in
    let bs = given_back spectral_of spectral.ensures.value spectral.ensures.back in
    record { words_after = l3.there; back = diagnostics_back a.d _ _ _ (numbers_long a.d) (candidates_long a.d.candidates) (spectral_long a.d.spectral) bn c.put_candidates.ensures.back bs }
