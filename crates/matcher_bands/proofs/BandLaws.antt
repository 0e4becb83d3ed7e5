-- What a loop over bands shares: one more row of a flat list made into its own part of another. Assumes nothing.
use mathlib.Core.Path.{◌≡◌, refl, sym, ap, ◌∙◌}
use Prim.Native.Nat.{ℕ, ◌+◌, ◌-◌, ◌*◌, ◌≤◌, ◌<◌}
use native.Mathlib.Nat.{zero-mul}
use native.Mathlib.Omega.{arith}
use mathlib.Core.List.{List, ◌++◌}
use lib.ListN.{length, take, drop, length-take, length-drop}
use lib.Ieee.{Float}
use borrow.Rule.Slice.PartMut.{put_mid}
use Rattle.numbers_spec.specs.Rows.{rows, row}
use Rattle.numbers_spec.proofs.RowLaws.{row_within, next_row, Rowed, rowed_none, rowed_more, rowed_length}

-- a part of n elements has n
pub part_length : {A : Type 0} (at n : ℕ) (l : List A) → at + n ≤ length l → length (take (at + n - at) (drop at l)) ≡ n
part_length at n l h = simp (length-take, length-drop) (omega arith)

-- Bands of n values each in v, of which f makes `size` elements each, one after the other in d.
module _ {A : Type 0} (f : List Float → List A) (n size bands : ℕ) (v : List Float) (d : List A) where
  -- after b of the bands: what f makes of them stands at the front, and the rest is as it was
  pub record Banded (b : ℕ) (whole : List A) : Type 0 where
    pub passed : b ≤ bands
    pub long : length whole ≡ length d
    pub front : Rowed (λ (k : ℕ). f (row n v k)) d b (b * size) whole

  pub banded_none : Banded 0 d
  banded_none = record { passed = omega arith; long = refl; front = rw zero-mul (rowed_none _ _) }

  module _ (values : bands * n ≤ length v) (room : bands * size ≤ length d) where
    -- the next band ends within v, and what f makes of it within d
    pub band_within : (b : ℕ) → b < bands → (b * n + n ≤ length v) × (b * size + size ≤ length d)
    band_within b h = omega (arith, row_within b bands n h, row_within b bands size h)

    -- its stretch was lent with the band, and came back as f makes it
    pub banded_more : (b : ℕ) {whole part : List A} → b < bands → length part ≡ size → Banded b whole
        → part ≡ f (take (b * n + n - b * n) (drop (b * n) v)) → Banded (b + 1) (put_mid (b * size) (b * size + size - b * size) whole part)
    banded_more b h s p q =
        let w = band_within b h in
        let same : b * n + n - b * n ≡ n = omega arith in
        let g : ℕ → List A = λ k. f (row n v k) in
        let came = q ∙ ap (λ (k : ℕ). f (take k (drop (b * n) v))) same in
        let more = rowed_more g d b (b * size) (b * size + size) p.front came (sym (ap length came) ∙ s ∙ omega arith) (omega arith) w.1 in
        record {
          passed = omega arith;
          long = rowed_length g d (b + 1) (b * size + size) more w.1;
          front = (more.0 ∙ next_row b size, more.1 ∙ ap (λ (e : ℕ). rows g (b + 1) ++ drop e d) (next_row b size));
        }

  pub banded_all : (b : ℕ) {whole : List A} → bands ≤ b → Banded b whole → whole ≡ rows (λ (k : ℕ). f (row n v k)) bands ++ drop (bands * size) d
  banded_all b h p =
      let e : b ≡ bands = let k = p.passed in omega arith in
      rw e at p.front.1
