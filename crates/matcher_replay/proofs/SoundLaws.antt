-- Bands of elements, and the front of a list by a rule. Assumes nothing.
use Rattle.std.proofs.Common.{◌≡◌, ℕ, ◌+◌, ◌/◌, ◌%◌, ◌<◌, ◌≤◌, List, take, ap, ◌∙◌, lt_of_le_of_lt, div-le_self, arith}
use lib.Ieee.{Float, nan}
use Rattle.numbers_spec.specs.Arithmetic.{◌⊕◌, ◌⊗◌, real}
use Rattle.numbers_spec.specs.Rows.{tabulate}
use Rattle.matcher_bands.proofs.CentringLaws.{tabulate_part}
use Rattle.numbers_spec.proofs.RowLaws.{tabulate_ext}
use Rattle.matcher_replay.specs.Sounds.{heard_at, reference_values, sound_at, window_values}
use Rattle.replays.specs.Sounds.{times_from}

-- an element's band is no further than the element
pub band_of_lem : (i n : ℕ) {m : ℕ} → i < m → i / n < m
band_of_lem i n h = lt_of_le_of_lt (div-le_self i n) h

-- the front of a list by a rule is the shorter list by it
front_of : (f : ℕ → Float) (n m : ℕ) {l : List Float} → l ≡ tabulate f n → m ≤ n → take m l ≡ tabulate f m
front_of f n m e h = ap (take m) e ∙ tabulate_part f nan n 0 m (omega arith) ∙ tabulate_ext _ _ m (λ i w. ap f (omega arith))

pub times_front : (start hop : Float) (n m : ℕ) {l : List Float} → l ≡ times_from start hop n → m ≤ n → take m l ≡ times_from start hop m
times_front start hop = front_of (λ (i : ℕ). start ⊕ real i ⊗ hop)

pub reference_front : (seed period frames n m : ℕ) {l : List Float} → l ≡ reference_values seed period frames n → m ≤ n → take m l ≡ reference_values seed period frames m
reference_front seed period frames = front_of (λ (i : ℕ). sound_at seed period (i / frames) (i % frames))

pub window_front : (seed period frames from n m : ℕ) {l : List Float} → l ≡ window_values seed period frames from n → m ≤ n → take m l ≡ window_values seed period frames from m
window_front seed period frames from = front_of (λ (i : ℕ). heard_at seed period (i / frames) (from + i % frames))
