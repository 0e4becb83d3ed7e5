-- Lists that are built from rows: how long they are, their rows and elements, and what holds of every value. Assumes nothing.
use mathlib.Core.Path.{◌≡◌, sym, ap, ◌∙◌}
use mathlib.Core.Logic.{⊎_elim, inl, inr}
use Prim.Native.Nat.{ℕ, zero, suc, ◌+◌, ◌-◌, ◌*◌, ◌/◌, ◌≤◌, ◌<◌}
use native.Mathlib.Nat.{suc-mul, zero-mul, not-suc-le-zero, eq-or-lt_of_le, eq-zero-or-pos}
use native.Mathlib.Omega.{arith}
use mathlib.Core.List.{List, ◌++◌}
use lib.ListN.{length, get_or, take, drop, length-append, length-take, length-drop, get_or-append}
use lib.Seq.{take-append-le, drop-append-le, drop_at, take_all, get_or-take, get_or-drop, get_or-append-add}
use lib.Ieee.{Float, nan}
use Rattle.numbers_spec.specs.Rows.{tabulate, rows, row, Every}
use Rattle.matcher_spec.specs.Centring.{logs, centred_at, centred, kept}
use Rattle.matcher_spec.specs.Energy.{energy_to, energies, average, averages, all_energies, all_averages, with_energies, whole_energies}
use Rattle.matcher_spec.specs.Index.{fine_values}
use Rattle.matcher_spec.specs.Search.{query_values}
use Rattle.numbers_spec.proofs.RowLaws.{row_within, length_tabulate, get_d_tabulate}

module _ {A : Type 0} (g : ℕ → List A) (n : ℕ) where
  -- Rows of n elements each, `bands` of them, are bands * n elements.
  pub length_rows : (bands : ℕ) → ((b : ℕ) → b < bands → length (g b) ≡ n) → length (rows g bands) ≡ bands * n
  unfolding rows
  length_rows zero h = sym (zero-mul n)
  length_rows (suc k) h = rw (length-append, length_rows k (λ b w. h b (omega arith)), h k (omega arith), suc-mul)

  -- Row b of the rows g 0, g 1, .. is g b.
  pub row_of_rows : (bands b : ℕ) → b < bands → ((c : ℕ) → c < bands → length (g c) ≡ n) → row n (rows g bands) b ≡ g b
  unfolding rows
  row_of_rows zero b w h = absurd (not-suc-le-zero w)
  row_of_rows (suc k) b w h = ⊎_elim
      (λ (e : b ≡ k). rw e (ap (take n) (drop_at (rows g k) (g k) (k * n) size) ∙ take_all n (g k) (let last = h k (omega arith) in omega arith)))
      (λ (l : b < k).
      ap (take n) (drop-append-le (b * n) (rows g k) (g k) (within b l))
      ∙ take-append-le n (drop (b * n) (rows g k)) (g k) (rw length-drop (rw size (let i = row_within b k n l in omega arith)))
      ∙ row_of_rows k b l (λ c v. h c (omega arith)))
      (eq-or-lt_of_le (omega arith))
    where
      size : length (rows g k) ≡ k * n
      size = length_rows k (λ c v. h c (omega arith))

      within : (b : ℕ) → b < k → b * n ≤ length (rows g k)
      within b l = rw size (let i = row_within b k n l in omega arith)

-- A part of a list, such as a row: its length, and its elements.
pub length_part : {A : Type 0} (k from : ℕ) (l : List A) → from + k ≤ length l → length (take k (drop from l)) ≡ k
length_part k from l h = simp (length-take, length-drop) (omega arith)

pub length_row : {A : Type 0} (bands n : ℕ) (l : List A) (b : ℕ) → bands * n ≤ length l → b < bands → length (row n l b) ≡ n
length_row bands n l b h w = length_part n (b * n) l (let i = row_within b bands n w in omega arith)

pub get_d_part : {A : Type 0} (k from : ℕ) (l : List A) (i : ℕ) (d : A) → i < k → get_or (take k (drop from l)) i d ≡ get_or l (from + i) d
get_d_part k from l i d h = rw (get_or-take, get_or-drop)

-- ---- the lengths of centred rows, of what a window keeps, of averages and of energies
pub length_centred : (r : ℕ) (v : List Float) → length (centred r v) ≡ length v
unfolding centred
length_centred r v = length_tabulate (centred_at r (logs v)) (length v)

pub length_kept : (r : ℕ) (v : List Float) → length (kept r v) ≡ length v - 2 * r
length_kept r v = simp (length-take, length-drop) (omega arith)

pub length_energies : (v : List Float) → length (energies v) ≡ suc (length v)
length_energies v = length_tabulate (energy_to v) (length v + 1) ∙ omega arith

-- lengths and elements of `bands` rows of n values each
module _ (bands n : ℕ) (v : List Float) (h : bands * n ≤ length v) where
  row_size : (b : ℕ) → b < bands → length (row n v b) ≡ n
  row_size b w = length_row bands n v b h w

  centred_size : (r b : ℕ) → b < bands → length (centred r (row n v b)) ≡ n
  centred_size r b w = length_centred r (row n v b) ∙ row_size b w

  energies_size : (b : ℕ) → b < bands → length (energies (row n v b)) ≡ suc n
  energies_size b w = length_energies (row n v b) ∙ ap suc (row_size b w)

  pub length_fine : (r : ℕ) → length (fine_values r bands n v) ≡ bands * n
  length_fine r = length_rows (λ (b : ℕ). centred r (row n v b)) n bands (centred_size r)

  pub length_query : (r : ℕ) → length (query_values r bands n v) ≡ bands * (n - 2 * r)
  length_query r =
      length_rows (λ (b : ℕ). kept r (centred r (row n v b))) (n - 2 * r) bands
      (λ b w. length_kept r (centred r (row n v b)) ∙ ap (λ (k : ℕ). k - 2 * r) (centred_size r b w))

  pub length_averages : length (all_averages bands n v) ≡ bands * (n / 4)
  length_averages =
      length_rows (λ (b : ℕ). averages (row n v b)) (n / 4) bands
      (λ b w. length_tabulate (λ (k : ℕ). average (row n v b) (k * 4)) (length (row n v b) / 4) ∙ ap (λ (k : ℕ). k / 4) (row_size b w))

  pub length_energy : length (all_energies bands n v) ≡ bands * suc n
  length_energy = length_rows (λ (b : ℕ). energies (row n v b)) (suc n) bands energies_size

  -- ---- bands with their energies
  -- The energies of band b are those of its row.
  pub energies_row : (b : ℕ) → b < bands → row (suc n) (all_energies bands n v) b ≡ energies (row n v b)
  energies_row b w = row_of_rows (λ (c : ℕ). energies (row n v c)) (suc n) bands b w energies_size

-- A row's energy at i.
pub energy_at : (v : List Float) (i : ℕ) → i ≤ length v → get_or (energies v) i nan ≡ energy_to v i
energy_at v i h = get_d_tabulate (energy_to v) (length v + 1) i nan (omega arith)

-- A band's whole energy.
pub whole_energy_at : (bands n : ℕ) (v : List Float) → bands * n ≤ length v → (b : ℕ) → b < bands → get_or (whole_energies bands (with_energies bands n v)) b nan ≡ energy_to (row n v b) n
unfolding whole_energies
whole_energy_at bands n v h b w =
    get_d_tabulate (λ (c : ℕ). get_or (all_energies bands n v) (c * suc n + n) nan) bands b nan w
    ∙ sym (get_d_part (suc n) (b * suc n) (all_energies bands n v) n nan (omega arith))
    ∙ ap (λ (l : List Float). get_or l n nan) (energies_row bands n v h b w)
    ∙ energy_at (row n v b) n (let i = length_row bands n v b h w in omega arith)

-- ---- what holds of every value of a list
module _ (P : Float → Type 0) where
  pub every_part : (k from : ℕ) (v : List Float) → Every P v → Every P (take k (drop from v))
  every_part k from v h i l = let m = simp (length-take, length-drop) at l in rw (get_d_part k from v i nan (omega arith)) (h (from + i) (omega arith))

  every_append : (v w : List Float) → Every P v → Every P w → Every P (v ++ w)
  every_append v w h k i l = elim (eq-zero-or-pos (length v - i)) [
    | inl m ↦ let e : i ≡ length v + (i - length v) = omega arith in let z = rw length-append at l in rw e (rw get_or-append-add (k (i - length v) (omega arith)))
    | inr m ↦ let z : i < length v = omega arith in rw (get_or-append v w nan i z) (h i z)
  ]

  pub every_tabulate : (f : ℕ → Float) (n : ℕ) → ((i : ℕ) → i < n → P (f i)) → Every P (tabulate f n)
  every_tabulate f n h i l = let m : i < n = rw (length_tabulate f n) at l in rw (get_d_tabulate f n i nan m) (h i m)

  pub every_rows : (g : ℕ → List Float) (n : ℕ) → ((b : ℕ) → b < n → Every P (g b)) → Every P (rows g n)
  unfolding rows
  every_rows g zero h i l = absurd (not-suc-le-zero l)
  every_rows g (suc n) h i l = every_append (rows g n) (g n) (every_rows g n (λ b m. h b (omega arith))) (h n (omega arith)) i l
