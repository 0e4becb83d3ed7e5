-- The laws of specs/Scores.antt that the loops cite: one more chunk, one more product. Assumes nothing.
use mathlib.Core.Path.{◌≡◌, ap, sym, ◌∙◌}
use Prim.Native.Nat.{ℕ, suc, ◌+◌, ◌-◌, ◌*◌, ◌<◌, ◌≤◌}
use native.Mathlib.Numerals.{add-one}
use native.Mathlib.Omega.{arith}
use mathlib.Core.List.{List}
use lib.ListN.{length, get_or}
use lib.Seq.{ext_get_or}
use lib.Ieee.{Float, nan}
use Rattle.std.specs.List.{fold}
use Rattle.numbers_spec.specs.Rows.{tabulate}
use Rattle.numbers_spec.proofs.RowLaws.{length_tabulate, get_d_tabulate}
use Rattle.matcher_spec.specs.Energy.{zero_f32, ◌+₃₂◌}
use Rattle.matcher_spec.specs.Scores.{product, lane, lanes, onward}

-- a list whose elements are known
pub tabulated : (f : ℕ → Float) (n : ℕ) (s : List Float) → length s ≡ n → ((j : ℕ) → j < n → get_or s j nan ≡ f j) → s ≡ tabulate f n
tabulated f n s long each = ext_get_or nan s (tabulate f n) (long ∙ sym (length_tabulate f n)) (λ i h. each i (omega arith) ∙ sym (get_d_tabulate f n i nan (omega arith)))

module _ (l r : List Float) where
  -- a lane after one more chunk
  pub lane_more : (j k : ℕ) {s x : Float} → s ≡ lane l r j k → x ≡ product l r (k * 8 + j) → s +₃₂ x ≡ lane l r j (k + 1)
  unfolding lane
  lane_more j k p q = rw add-one (λ i. p i +₃₂ q i)

  -- the lanes, added in order
  pub lanes_added : (n : ℕ) (s : List Float) → length s ≡ 8 → ((j : ℕ) → j < 8 → get_or s j nan ≡ lane l r j n) → fold ◌+₃₂◌ zero_f32 s ≡ lanes l r n
  unfolding lanes tabulate
  lanes_added n s long each = ap (fold ◌+₃₂◌ zero_f32) (tabulated (λ j. lane l r j n) 8 s long each)

  pub onward_none : (from : ℕ) (s : Float) → s ≡ onward l r from s (from - from)
  unfolding onward
  onward_none from s =
      let e : from - from ≡ 0 = omega arith in
      rw e

  -- one more product
  pub onward_more : (from : ℕ) (s : Float) (i : ℕ) {sum x : Float} → from ≤ i → sum ≡ onward l r from s (i - from) → x ≡ product l r i
      → sum +₃₂ x ≡ onward l r from s (i + 1 - from)
  unfolding onward
  onward_more from s i h p q =
      let e : i + 1 - from ≡ suc (i - from) = omega arith in
      let f : i ≡ from + (i - from) = omega arith in
      rw e (λ k. p k +₃₂ (q ∙ ap (product l r) f) k)
