-- The laws of specs/Rows.antt that the loops cite: one more element, one more row, one more term. Assumes nothing.
use mathlib.Core.Path.{◌≡◌, refl, sym, subst, ap, ◌∙◌}
use Prim.Native.Nat.{ℕ, zero, suc, ◌+◌, ◌-◌, ◌*◌, ◌<◌, ◌≤◌}
use native.Mathlib.Nat.{suc-mul, mul-le-mul_right, not-suc-le-zero, eq-or-lt_of_le}
use mathlib.Core.Bool.{Bool, true, false, cond, ◌&&◌}
use mathlib.Core.Logic.{⊎_elim}
use lib.Dec.{T}
use lib.Ieee.{Float, nan, add, le, of_bits}
use Rattle.numbers_spec.specs.Arithmetic.{◌⊕◌}
use native.Mathlib.Numerals.{add-one}
use native.Mathlib.Omega.{arith}
use mathlib.Core.List.{List, [], ◌∷◌, ◌++◌, append_assoc, append-nil}
use lib.ListN.{length-map, get_or-map, length, get_or, set, take, drop, length-append, length-drop, drop_of_length-le, get_or-append}
use borrow.Rule.Slice.PartMut.{put_mid}
use lib.Seq.{drop-length, get_or_at, drop-cons, set_at, append_snoc, take_at, drop_at, drop-drop, take-suc-set}
use Rattle.numbers_spec.specs.Logarithm.{log_of, log1p_of}
use Rattle.numbers_spec.specs.Narrow.{nearest_f32}
use Rattle.numbers_spec.specs.Root.{root_of}
use Rattle.numbers_spec.specs.Rows.{tabulate, rows, row, all_to, sum_to, tally, every, narrowed_of, roots_of, logs_of}

module _ {A : Type 0} (f : ℕ → A) where
  pub length_tabulate : (n : ℕ) → length (tabulate f n) ≡ n
  unfolding tabulate
  length_tabulate zero = refl
  length_tabulate (suc n) = length-append (tabulate f n) (f n ∷ []) ∙ ap (λ (k : ℕ). k + 1) (length_tabulate n) ∙ add-one n

  -- the list d with its first n elements by the rule f
  abbrev pub Filled : List A → ℕ → List A → Type 0
  Filled d n row = row ≡ tabulate f n ++ drop n d

  pub filled_none : (d : List A) → Filled d 0 d
  unfolding tabulate
  filled_none d = refl

  pub filled_length : (d : List A) (n : ℕ) {row : List A} → Filled d n row → n ≤ length d → length row ≡ length d
  filled_length d n p h = ap length p ∙ simp (length-append, length_tabulate, length-drop) (omega arith)

  -- a store of the next element
  pub filled_more : (d : List A) (n : ℕ) {row : List A} {v : A} → Filled d n row → v ≡ f n → n < length d → Filled d (n + 1) (set row n v)
  unfolding tabulate
  filled_more d n {row} {v} p q h =
      (λ i. set (p i) n (q i))
      ∙ ap (λ (l : List A). set (tabulate f n ++ l) n (f n)) (drop-cons d n (f n) h)
      ∙ set_at (tabulate f n) (get_or d n (f n)) (drop (suc n) d) (f n) n (length_tabulate n)
      ∙ rw add-one (sym (append_snoc (tabulate f n) (f n) (drop (suc n) d)))

  -- the next element is still as it was
  pub filled_next : (d : List A) (n : ℕ) (z : A) {row : List A} → Filled d n row → n < length d → get_or row n z ≡ get_or d n z
  filled_next d n z p h =
      ap (λ (l : List A). get_or l n z) p
      ∙ ap (λ (l : List A). get_or (tabulate f n ++ l) n z) (drop-cons d n z h)
      ∙ get_or_at (tabulate f n) (get_or d n z) (drop (suc n) d) z n (length_tabulate n)

  -- all of d is filled
  pub filled_all : (d : List A) {row : List A} → Filled d (length d) row → row ≡ tabulate f (length d)
  filled_all d p = p ∙ ap (λ (l : List A). tabulate f (length d) ++ l) (drop-length d) ∙ append-nil (tabulate f (length d))

  pub get_d_tabulate : (n i : ℕ) (z : A) → i < n → get_or (tabulate f n) i z ≡ f i
  unfolding tabulate
  get_d_tabulate zero i z h = absurd (not-suc-le-zero h)
  get_d_tabulate (suc n) i z h = ⊎_elim
      (λ (e : i ≡ n). rw e (get_or_at (tabulate f n) (f n) [] z n (length_tabulate n)))
      (λ (w : i < n). get_or-append (tabulate f n) (f n ∷ []) z i (rw length_tabulate w) ∙ get_d_tabulate n i z w)
      (eq-or-lt_of_le (omega arith))

-- two rules that agree below n
pub tabulate_ext : {A : Type 0} (f g : ℕ → A) (n : ℕ) → ((i : ℕ) → i < n → f i ≡ g i) → tabulate f n ≡ tabulate g n
unfolding tabulate
tabulate_ext f g zero h = refl
tabulate_ext f g (suc n) h = (λ k. tabulate_ext f g n (λ i w. h i (omega arith)) k ++ (h n (omega arith) k ∷ []))

-- what a writer that fills all of its row leaves of the row: nothing
pub whole_row : {A : Type 0} (x l : List A) (k : ℕ) → length l ≤ k → x ++ drop k l ≡ x
whole_row x l k h = ap (λ (z : List _). x ++ z) (drop_of_length-le l h) ∙ append-nil x

-- a row ends within the rows
pub row_within : (b bands n : ℕ) → b < bands → b * n + n ≤ bands * n
row_within b bands n h = rw suc-mul at (mul-le-mul_right n h)

pub next_row : (b n : ℕ) → b * n + n ≡ (b + 1) * n
next_row b n = sym (rw add-one (suc-mul b n))

pub rows_more : {A : Type 0} (g : ℕ → List A) (b : ℕ) → rows g (b + 1) ≡ rows g b ++ g b
unfolding rows
rows_more g b = rw add-one

-- the list d with a front written, which ends at `at`: the next `size` elements were lent, and came back as `next`
pub put_next : {A : Type 0} (front next d : List A) (at size : ℕ) {whole : List A} → length front ≡ at → whole ≡ front ++ drop at d
    → put_mid at size whole next ≡ front ++ next ++ drop (at + size) d
put_next front next d at size e p =
    (λ i. put_mid at size (p i) next)
    ∙ (λ i. take_at front (drop at d) at e i ++ (next ++ (ap (drop size) (drop_at front (drop at d) at e) ∙ drop-drop size at d) i))
    ∙ sym (append_assoc front next (drop (at + size) d))

module _ {A : Type 0} (g : ℕ → List A) (d : List A) where
  -- the list d with the rows g 0 .. g (b - 1) at its front, which end at `at`
  abbrev pub Rowed : ℕ → ℕ → List A → Type 0
  Rowed b at whole = (length (rows g b) ≡ at) × (whole ≡ rows g b ++ drop at d)

  pub rowed_none : Rowed 0 0 d
  unfolding rows
  rowed_none = (refl, refl)

  pub rowed_length : (b at : ℕ) {whole : List A} → Rowed b at whole → at ≤ length d → length whole ≡ length d
  rowed_length b at p h = ap length p.1 ∙ simp (length-append, p.0, length-drop) (omega arith)

  -- the part from `at` to `e` was lent, and came back as the next row
  pub rowed_more : (b at e : ℕ) {whole part : List A} → Rowed b at whole → part ≡ g b → length (g b) ≡ e - at → at ≤ e → e ≤ length d
      → Rowed (b + 1) e (put_mid at (e - at) whole part)
  rowed_more b at e {whole} {part} p q s h k =
      let end : at + (e - at) ≡ e = omega arith in (
        ap length (rows_more g b) ∙ length-append (rows g b) (g b) ∙ omega arith,
        (λ i. put_mid at (e - at) whole (q i)) ∙ put_next (rows g b) (g b) d at (e - at) p.0 p.1 ∙ (λ i. sym (rows_more g b) i ++ drop (end i) d),
      )

-- ---- sums and tests
-- one more term
pub sum_more : (t : ℕ → Float) (n : ℕ) {s x : Float} → s ≡ sum_to t n → x ≡ t n → s ⊕ x ≡ sum_to t (n + 1)
unfolding sum_to
sum_more t n p q = rw add-one (λ k. p k ⊕ q k)

-- one more that holds
pub all_more : (p : ℕ → Bool) (n : ℕ) → all_to p n ≡ true → p n ≡ true → all_to p (n + 1) ≡ true
unfolding all_to
all_more p n h q = rw add-one (rw (h, q))

-- one more test, in a loop that goes on where one failed
pub all_next : (p : ℕ → Bool) (n : ℕ) {b c : Bool} → b ≡ all_to p n → c ≡ p n → b && c ≡ all_to p (n + 1)
unfolding all_to
all_next p n h q = rw add-one (rw (h, q) refl)

-- one that does not hold
pub all_fails : (p : ℕ → Bool) (n i : ℕ) → i < n → p i ≡ false → all_to p n ≡ false
unfolding all_to
all_fails p zero i h q = absurd (not-suc-le-zero h)
all_fails p (suc n) i h q = ⊎_elim
    (λ (e : i ≡ n). rw (sym (ap p e) ∙ q) (and_false (all_to p n)))
    (λ (w : i < n). rw (all_fails p n i w q))
    (eq-or-lt_of_le (omega arith))
  where
    and_false : (b : Bool) → b && false ≡ false
    and_false true = refl
    and_false false = refl

-- what passes everywhere passes at each place
pub every_at : (p : Float → Bool) (l : List Float) (i : ℕ) → T (every p l) → i < length l → T (p (get_or l i nan))
unfolding every
every_at p l i h w = go (p (get_or l i nan)) refl
  where
    go : (b : Bool) → p (get_or l i nan) ≡ b → T b
    go true e = tt
    go false e = subst T (all_fails (λ (k : ℕ). p (get_or l k nan)) (length l) i w e) h

-- at most n of n
pub tally_few : (p : ℕ → Bool) (n : ℕ) → tally p n ≤ n
unfolding tally
tally_few p zero = omega arith
tally_few p (suc n) = one_more (p n) (tally p n) (tally_few p n)
  where
    one_more : (b : Bool) (k : ℕ) → k ≤ n → cond b (suc k) k ≤ suc n
    one_more true k h = omega arith
    one_more false k h = omega arith

-- ---- a loop that fills a list by a rule
-- a store of the next element, where only the front is known
pub taken_more : {A : Type 0} (f : ℕ → A) (n : ℕ) (l : List A) {v : A} → take n l ≡ tabulate f n → v ≡ f n → n < length l → take (n + 1) (set l n v) ≡ tabulate f (n + 1)
unfolding tabulate
taken_more f n l {v} p q h = rw add-one (take-suc-set l n v h ∙ (λ k. p k ++ (q k ∷ [])))

-- a list whose first i elements are filled by the rule f, the others as d has them
pub record Filling {A : Type 0} (f : ℕ → A) (d : List A) (i : ℕ) (row : List A) : Type 0 where
  pub within : i ≤ length d
  pub size : length row ≡ length d
  pub front : Filled f d i row

pub filling_none : {A : Type 0} (f : ℕ → A) (d : List A) → Filling f d 0 d
filling_none f d = record { within = omega arith; size = refl; front = filled_none f d }

pub filling_more : {A : Type 0} {f : ℕ → A} {d : List A} {i : ℕ} {row : List A} {v : A} → Filling f d i row → v ≡ f i → i < length d → Filling f d (i + 1) (set row i v)
filling_more {f = f} {d = d} {i = i} p q h =
    let more = filled_more f d i p.front q h in
    record { within = omega arith; size = filled_length f d (i + 1) more (omega arith); front = more }

pub filling_next : {A : Type 0} {f : ℕ → A} {d : List A} {i : ℕ} {row : List A} (z : A) → Filling f d i row → i < length d → get_or row i z ≡ get_or d i z
filling_next {f = f} {d = d} {i = i} z p h = filled_next f d i z p.front h

pub filling_all : {A : Type 0} {f : ℕ → A} {d : List A} {i : ℕ} {row : List A} → Filling f d i row → length d ≤ i → row ≡ tabulate f (length d)
filling_all {f = f} {d = d} {i = i} p h =
    let all : i ≡ length d = omega arith in
    filled_all f d (rw all at p.front)

-- a list by a rule, and then each element by another
pub tabulate_then : {A B : Type 0} (f : ℕ → A) (g : ℕ → A → B) (z : A) (n : ℕ) {l : List A} → l ≡ tabulate f n
    → tabulate (λ (i : ℕ). g i (get_or l i z)) (length l) ≡ tabulate (λ (i : ℕ). g i (f i)) n
tabulate_then f g z n {l} p =
    ap (tabulate (λ (i : ℕ). g i (get_or l i z))) (ap length p ∙ length_tabulate f n)
    ∙ tabulate_ext _ _ n (λ i h. ap (g i) (ap (λ (x : List _). get_or x i z) p ∙ get_d_tabulate f n i z h))

-- ---- roots and logarithms of a row, element by element
pub length_roots : (l : List Float) → length (roots_of l) ≡ length l
unfolding roots_of
length_roots [] = refl
length_roots (x ∷ l) = ap suc (length_roots l)

-- past the end too: the root of a NaN is a NaN
pub root_at : (l : List Float) (i : ℕ) → get_or (roots_of l) i nan ≡ root_of (get_or l i nan)
unfolding roots_of root_of
root_at [] i = refl
root_at (x ∷ l) zero = refl
root_at (x ∷ l) (suc i) = root_at l i

pub length_narrowed : (x : List Float) → length (narrowed_of x) ≡ length x
unfolding narrowed_of
length_narrowed x = length-map x nearest_f32

-- past the end too
pub narrowed_at : (x : List Float) (k : ℕ) → get_or (narrowed_of x) k nan ≡ nearest_f32 (get_or x k nan)
unfolding narrowed_of nearest_f32
narrowed_at x k = get_or-map nearest_f32 x k nan

pub length_logs : (w : List Float) → length (logs_of w) ≡ length w
unfolding logs_of
length_logs w = length-map w log1p_of

log1p_nan : log1p_of nan ≡ nan
unfolding log1p_of nearest_f32 log_of le add of_bits
log1p_nan = refl

-- past the end too
pub log_at_lem : (w : List Float) (k : ℕ) → get_or (logs_of w) k nan ≡ log1p_of (get_or w k nan)
unfolding logs_of
log_at_lem w k = subst (λ (x : Float). get_or (logs_of w) k x ≡ log1p_of (get_or w k nan)) log1p_nan (get_or-map log1p_of w k nan)
