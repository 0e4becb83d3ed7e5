-- Rows, element by element. Assumes nothing.
use mathlib.Core.Path.{◌≡◌, sym, subst, ap, ◌∙◌}
use Prim.Native.Nat.{ℕ, ◌+◌, ◌-◌, ◌<◌, ◌≤◌}
use native.Mathlib.Omega.{arith}
use borrow.Rule.Slice.PartMut.{put_mid}
use mathlib.Core.List.{List, ◌++◌, map}
use lib.ListN.{length, get_or, drop, length-append, length-drop, length-take, take}
use lib.Seq.{ext_get_or, take-add}
use Rattle.std.proofs.lemmas.List.{map-append, take-append-drop}
use Rattle.std.proofs.lemmas.Slice.{take-put_mid}
use lib.Ieee.{Float, nan}
use Rattle.numbers_spec.specs.Narrow.{nearest_f32}
use Rattle.numbers_spec.specs.Root.{root_of}
use Rattle.numbers_spec.specs.Logarithm.{log1p_of}
use Rattle.numbers_spec.specs.Rows.{tabulate, logs_of, narrowed_of, roots_of}
use Rattle.numbers_spec.proofs.RowLaws.{length_tabulate, get_d_tabulate, length_logs, length_narrowed, length_roots, log_at_lem, narrowed_at, root_at}

-- ---- a row of which each place holds what a rule gives of the place, whatever is read past its end
pub tabulated : {A : Type 0} (g : ℕ → A) (n : ℕ) {row : List A} → length row ≡ n → ((d : A) (k : ℕ) → k < n → get_or row k d ≡ g k) → row ≡ tabulate g n
tabulated g n {row} e h =
    ext_get_or (g 0) row (tabulate g n) (e ∙ sym (length_tabulate g n)) (λ k b. h (g 0) k (subst (λ (m : ℕ). k < m) e b) ∙ sym (get_d_tabulate g n k (g 0) (subst (λ (m : ℕ). k < m) e b)))

-- ---- a row of which each place holds what a function gives of that of x
module _ (x row : List Float) (e : length row ≡ length x) where
  all_places : (l : List Float) → length l ≡ length x → ((k : ℕ) → k < length x → get_or row k nan ≡ get_or l k nan) → row ≡ l
  all_places l d h = ext_get_or nan row l (e ∙ sym d) (λ k b. h k (subst (λ (n : ℕ). k < n) e b))

  pub all_narrowed : ((k : ℕ) → k < length x → get_or row k nan ≡ nearest_f32 (get_or x k nan)) → row ≡ narrowed_of x
  all_narrowed h = all_places (narrowed_of x) (length_narrowed x) (λ k b. h k b ∙ sym (narrowed_at x k))

  pub all_rooted : ((k : ℕ) → k < length x → get_or row k nan ≡ root_of (get_or x k nan)) → row ≡ roots_of x
  all_rooted h = all_places (roots_of x) (length_roots x) (λ k b. h k b ∙ sym (root_at x k))

  pub all_logged : ((k : ℕ) → k < length x → get_or row k nan ≡ log1p_of (get_or x k nan)) → row ≡ logs_of x
  all_logged h = all_places (logs_of x) (length_logs x) (λ k b. h k b ∙ sym (log_at_lem x k))

-- ---- block after block
-- the next block of logarithms is written, up to `end`
pub block_more : (w logs next : List Float) (at end : ℕ) → at ≤ end → end ≤ length w → length logs ≡ length w → take at logs ≡ logs_of (take at w) → next ≡ logs_of (take (end - at) (drop at w))
    → take end (put_mid at (end - at) logs next) ≡ logs_of (take end w)
unfolding logs_of
block_more w logs next at end a b e p q =
    take-put_mid at (end - at) logs next end (omega (arith, size)) (omega arith)
    ∙ (λ i. p i ++ q i)
    ∙ sym (map-append log1p_of (take at w) (take (end - at) (drop at w)))
    ∙ ap (map log1p_of) (sym (take-add at (end - at) w) ∙ ap (λ n. take n w) (omega arith))
  where
    size : length next ≡ end - at
    size = ap length q ∙ length_logs (take (end - at) (drop at w)) ∙ simp (length-take, length-drop) (omega arith)

-- a row whose front was lent is as long as it was
pub room_kept : (front row : List Float) (n : ℕ) → length front ≡ length (take n row) → length (front ++ drop n row) ≡ length row
room_kept front row n h = length-append front (drop n row) ∙ ap (λ k. k + length (drop n row)) h ∙ sym (length-append (take n row) (drop n row)) ∙ ap length (take-append-drop n row)
