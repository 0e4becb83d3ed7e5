-- How many words each value takes. Assumes nothing.
use Prim.Native.Nat.{ℕ, ◌+◌}
use mathlib.Core.Path.{◌≡◌, refl, ap, ◌∙◌}
use mathlib.Core.List.{List, [], ◌∷◌, ◌++◌}
use lib.ListN.{length, length-append}
use Rattle.std.specs.Prelude.{Option, None, Some}
use Rattle.matcher_spec.specs.Limits.{candidates_most}
use Rattle.engine_spec.specs.declared.types.Diagnostics.{Diagnostics}
use Rattle.engine_spec.specs.declared.types.SpectralDiagnostics.{SpectralDiagnostics}
use Rattle.engine_spec.specs.declared.types.CandidateDiagnostics.{CandidateDiagnostics}
use Rattle.engine_spec.specs.declared.types.Milestones.{Milestones}
use Rattle.engine_spec.specs.declared.types.Snapshot.{Snapshot}
use Rattle.engine_spec.specs.Milestones.{milestones_shown}
use Rattle.engine_spec.specs.declared.types.Configuration.{Configuration}
use Rattle.engine_spec.specs.declared.types.Settings.{Settings}
use Rattle.engine_spec.specs.declared.types.Lock.{Lock}
use Rattle.engine_spec.specs.declared.types.Last.{Last}
use Rattle.engine_spec.specs.declared.types.Engine.{Engine}
use Rattle.engine_spec.specs.declared.types.Estimate.{Estimate}
use Rattle.engine_spec.specs.declared.types.Hypothesis.{Hypothesis}
use Rattle.engine_layout.specs.Layout.{word}
use Rattle.engine_layout.specs.Written.{bool_word, state_word, phase_word, stage_word, reason_word, tag, word_or_zero, recorded_word, estimate_words, hypothesis_words, milestones_words, spectral_words, candidate_words, candidates_to, diagnostics_numbers, diagnostics_words, shown_words, configuration_words, settings_words, lock_words, last_words, engine_words}

pub both_long : {n m : ℕ} (xs ys : List ℕ) → length xs ≡ n → length ys ≡ m → length (xs ++ ys) ≡ n + m
both_long {m = m} xs ys p q = length-append xs ys ∙ ap (λ (k : ℕ). length xs + k) q ∙ ap (λ (k : ℕ). k + m) p

pub estimate_long : (e : Option Estimate) → length (estimate_words e) ≡ 4
unfolding estimate_words
estimate_long None = refl
estimate_long (Some e) = refl

pub hypothesis_long : (h : Option Hypothesis) → length (hypothesis_words h) ≡ 5
unfolding hypothesis_words
hypothesis_long None = refl
hypothesis_long (Some h) = refl

pub milestones_long : (m : Milestones) → length (milestones_words m) ≡ 6
unfolding milestones_words
milestones_long m = refl

pub spectral_long : (s : SpectralDiagnostics) → length (spectral_words s) ≡ 9
unfolding spectral_words
spectral_long s = refl

pub candidates_long : (l : List CandidateDiagnostics) → length (candidates_to candidates_most l) ≡ 40
unfolding candidates_to candidate_words
candidates_long l = refl

pub numbers_long : (d : Diagnostics) → length (diagnostics_numbers d) ≡ 12
unfolding diagnostics_numbers
numbers_long d = refl

pub diagnostics_long : (d : Diagnostics) → length (diagnostics_words d) ≡ 61
unfolding diagnostics_words
diagnostics_long d =
    let n = diagnostics_numbers d in
    let c = candidates_to candidates_most d.candidates in
    both_long (n ++ c) (spectral_words d.spectral) (both_long n c (numbers_long d) (candidates_long d.candidates)) (spectral_long d.spectral)

pub shown_long : (s : Snapshot) → length (shown_words s) ≡ 76
unfolding shown_words
shown_long s =
    let a : List ℕ = state_word s.state ∷ phase_word s.phase ∷ stage_word s.stage ∷ [] in
    let e = estimate_words s.estimate in
    let r : List ℕ = reason_word s.withhold_reason ∷ word s.confidence ∷ [] in
    let d = diagnostics_words s.diagnostics in
    both_long (a ++ e ++ r ++ d) (milestones_words (milestones_shown s)) (both_long (a ++ e ++ r) d (both_long (a ++ e) r (both_long a e refl (estimate_long s.estimate)) refl) (diagnostics_long s.diagnostics)) (milestones_long (milestones_shown s))

pub configuration_long : (c : Configuration) → length (configuration_words c) ≡ 5
unfolding configuration_words
configuration_long c = refl

pub settings_long : (s : Settings) → length (settings_words s) ≡ 4
unfolding settings_words
settings_long s = refl

pub lock_long : (l : Lock) → length (lock_words l) ≡ 11
unfolding lock_words
lock_long l =
    let p = hypothesis_words l.pending in
    let a = hypothesis_words l.accepted in
    both_long (p ++ a) (word l.last_global_search_ms.0 ∷ []) (both_long p a (hypothesis_long l.pending) (hypothesis_long l.accepted)) refl

pub last_long : (l : Last) → length (last_words l) ≡ 79
unfolding last_words
last_long l = both_long (tag l.endpoint_ms ∷ word_or_zero recorded_word l.endpoint_ms ∷ bool_word l.has_snapshot ∷ []) (shown_words l.snapshot) refl (shown_long l.snapshot)

pub engine_long : (e : Engine) → length (engine_words e) ≡ 105
unfolding engine_words
engine_long e =
    let c = configuration_words e.configuration in
    let s = settings_words e.settings in
    let l = lock_words e.lock in
    let m = milestones_words e.milestones in
    let fixed = both_long c s (configuration_long e.configuration) (settings_long e.settings) in
    both_long (c ++ s ++ l ++ m) (last_words e.last) (both_long (c ++ s ++ l) m (both_long (c ++ s) l fixed (lock_long e.lock)) (milestones_long e.milestones)) (last_long e.last)
