-- The laws that the functions of src/centring.rt cite. Assumes nothing.
use mathlib.Core.Path.{◌≡◌, refl, sym, subst, ap, ◌∙◌}
use mathlib.Core.List.{List, ◌++◌, append_assoc}
use Prim.Native.Nat.{ℕ, ◌+◌, ◌-◌, ◌*◌, ◌<◌, ◌≤◌, min}
use native.Mathlib.Nat.{zero-mul}
use native.Mathlib.Numerals.{add-one}
use native.Mathlib.Omega.{arith}
use lib.Ieee.{Float, nan, binary32, sub}
use lib.ListN.{length, get_or, take, drop, length-take, length-drop}
use lib.Seq.{length-take-le, take_at, drop_at, take-append-le, take-append-add, drop-append-le, drop-append-add, get_or-append-add, get_or-take, get_or-drop, drop-drop, ext_get_or}
use borrow.Rule.Slice.PartMut.{put_mid, post_of, same_len_mid, mid_len, drop_put}
use Rattle.numbers_spec.specs.Rows.{tabulate, rows, row, narrowed_of, logs_of}
use Rattle.matcher_spec.specs.Centring.{sum_of, mean_around, centred_at, centred}
use Rattle.matcher_bands.specs.Centring.{prefix_sums, last_or, wide_mean}
use Rattle.numbers_spec.specs.Arithmetic.{◌⊕◌, ◌⊖◌, ◌⊗◌, ◌⊘◌, real}
use Rattle.numbers_spec.specs.Narrow.{nearest_f32}
use Rattle.numbers_spec.proofs.RowLaws.{length_narrowed, length_tabulate, get_d_tabulate, narrowed_at, tabulate_ext, whole_row, Filled, Filling, filled_length, next_row}
use Rattle.numbers_spec.proofs.PartLaws.{rest, row_at, row_length, tabulate_add}

module _ {A : Type 0} (f : ℕ → A) where
  -- what lies behind the filled part is still as it was
  pub filled_ahead : (d : List A) (n k : ℕ) (z : A) {row : List A} → Filled f d n row → get_or row (n + k) z ≡ get_or d (n + k) z
  filled_ahead d n k z p =
      ap (λ (l : List A). get_or l (n + k) z) p
      ∙ ap (λ (m : ℕ). get_or (tabulate f n ++ drop n d) (m + k) z) (sym (length_tabulate f n))
      ∙ get_or-append-add (tabulate f n) (drop n d) k z
      ∙ get_or-drop n d k z

  -- so is the list from there on
  filled_rest : (d : List A) (n : ℕ) {row : List A} → Filled f d n row → take (length row - n) (drop n row) ≡ drop n d
  filled_rest d n {row} p = rest row n ∙ ap (drop n) p ∙ drop_at (tabulate f n) (drop n d) n (length_tabulate f n)

  -- it was lent, and came back with m elements more filled
  filled_block : (d : List A) (n m : ℕ) {row part : List A} → Filled f d n row → part ≡ tabulate (λ (k : ℕ). f (n + k)) m ++ drop m (drop n d)
      → Filled f d (n + m) (put_mid n (length row - n) row part)
  filled_block d n m {row} {part} p q =
      let front = ap (take n) p ∙ take_at (tabulate f n) (drop n d) n (length_tabulate f n) in
      let back = whole_row part (drop n row) (length row - n) (simp length-drop (omega arith)) ∙ q in
      (λ i. front i ++ back i)
      ∙ sym (append_assoc (tabulate f n) (tabulate (λ (k : ℕ). f (n + k)) m) (drop m (drop n d)))
      ∙ (λ i. sym (tabulate_add f n m) i ++ drop-drop m n d i)

  -- a part of a list by a rule
  pub tabulate_part : (z : A) (n from count : ℕ) → from + count ≤ n → take count (drop from (tabulate f n)) ≡ tabulate (λ (i : ℕ). f (from + i)) count
  tabulate_part z n from count h = ext_get_or z _ _ (long ∙ sym (length_tabulate (λ (i : ℕ). f (from + i)) count)) (λ i w. same i (omega (arith, long)))
    where
      long : length (take count (drop from (tabulate f n))) ≡ count
      long = simp (length-take, length-drop, length_tabulate) (omega arith)

      same : (i : ℕ) → i < count → get_or (take count (drop from (tabulate f n))) i z ≡ get_or (tabulate (λ (k : ℕ). f (from + k)) count) i z
      same i w = get_or-take count (drop from (tabulate f n)) i z w
          ∙ get_or-drop from (tabulate f n) i z
          ∙ get_d_tabulate f n (from + i) z (omega arith)
          ∙ sym (get_d_tabulate (λ (k : ℕ). f (from + k)) count i z w)

-- a list filled so far, where that is said in other words
pub filling_at : {A : Type 0} {f : ℕ → A} {d row : List A} {i j : ℕ} → Filling f d i row → i ≡ j → Filling f d j row
filling_at {f = f} {d = d} {row = row} p e = subst (λ (k : ℕ). Filling f d k row) e p

-- the mean as an f32
narrowed_mean : (sums : List Float) (first last : Float) (r i : ℕ) → nearest_f32 (wide_mean sums first last r i) ≡ mean_around (λ (k : ℕ). get_or sums k nan) (length sums - 1) first last r i
unfolding wide_mean mean_around
narrowed_mean sums first last r i = refl

-- The mean around i asks for no sums but those of the first n values.
mean_same : (s t : ℕ → Float) (n : ℕ) (first last : Float) (r i : ℕ) → i ≤ n → ((k : ℕ) → k ≤ n → s k ≡ t k)
    → mean_around s n first last r i ≡ mean_around t n first last r i
unfolding mean_around
mean_same s t n first last r i h same = rw (same (min n (i + r + 1)) (omega arith), same (i - r) (omega arith))

-- the centred value, by the prefix sums
centred_by : (v sums : List Float) (r i : ℕ) → i < length v → sums ≡ prefix_sums v
    → sub binary32 (get_or v i nan) (nearest_f32 (wide_mean sums (get_or v 0 nan) (get_or v (length v - 1) nan) r i)) ≡ centred_at r v i
unfolding centred_at
centred_by v sums r i h e =
    let long : length sums - 1 ≡ length v = omega (arith, ap length e, length_tabulate (sum_of v) (length v + 1)) in
    let same : (k : ℕ) → k ≤ length v → get_or sums k nan ≡ sum_of v k = λ k w. rw e (get_d_tabulate (sum_of v) (length v + 1) k nan (omega arith)) in
    ap (sub binary32 (get_or v i nan)) (narrowed_mean sums (get_or v 0 nan) (get_or v (length v - 1) nan) r i
    ∙ rw long (mean_same (λ (k : ℕ). get_or sums k nan) (sum_of v) (length v) (get_or v 0 nan) (get_or v (length v - 1) nan) r i (omega arith) same))

-- the means, by the rule w, were worked out in f64, narrowed, and taken off
pub taken_off : (w : ℕ → Float) (n from : ℕ) (row : List Float) {wide means out : List Float} → wide ≡ tabulate w n → means ≡ narrowed_of wide
    → out ≡ tabulate (λ (k : ℕ). sub binary32 (get_or row (from + k) nan) (get_or means k nan)) (length means) ++ drop (length means) row
    → out ≡ tabulate (λ (k : ℕ). sub binary32 (get_or row (from + k) nan) (nearest_f32 (w k))) n ++ drop n row
taken_off w n from row {wide} {means} p q e =
    let long : length means ≡ n = ap length q ∙ length_narrowed wide ∙ row_length w n p in
    let mean : (k : ℕ) → k < n → get_or means k nan ≡ nearest_f32 (w k) = λ k h. ap (λ (l : List Float). get_or l k nan) q ∙ narrowed_at wide k ∙ ap nearest_f32 (row_at w n k nan p h) in
    e
    ∙ ap (λ (m : ℕ). tabulate (λ (k : ℕ). sub binary32 (get_or row (from + k) nan) (get_or means k nan)) m ++ drop m row) long
    ∙ ap (λ (l : List Float). l ++ drop n row) (tabulate_ext _ _ n (λ k h. ap (sub binary32 (get_or row (from + k) nan)) (mean k h)))

-- ---- a row's frames from `from` on, less their means, at its front
module _ (w : ℕ → Float) (from : ℕ) (v : List Float) where
  -- frame from + i of the row, less the mean around it
  abbrev pub smoothed : ℕ → Float
  smoothed i = sub binary32 (get_or v (from + i) nan) (nearest_f32 (w (from + i)))

  -- The row from `at` on was lent, and came back with n more frames so.
  pub smoothed_block : (at n next : ℕ) {m : ℕ} {row part : List Float} → Filling smoothed v at row → m ≡ n → at + n ≡ next → next ≤ length v
      → part ≡ tabulate (λ (k : ℕ). sub binary32 (get_or (take (length row - at) (drop at row)) (from + k) nan) (nearest_f32 (w (from + at + k)))) m ++ drop m (take (length row - at) (drop at row))
      → Filling smoothed v next (put_mid at (length row - at) row part)
  smoothed_block at n next {m} {row} {part} p size end h q =
      record { within = h; size = filled_length smoothed v next (rw end at front) h; front = rw end at front }
    where
      block_of : List Float → ℕ → List Float
      block_of l j = tabulate (λ (k : ℕ). sub binary32 (get_or l (from + k) nan) (nearest_f32 (w (from + at + k)))) j ++ drop j l

      value : (k : ℕ) → k < n → sub binary32 (get_or (drop at v) (from + k) nan) (nearest_f32 (w (from + at + k))) ≡ smoothed (at + k)
      value k _ =
          let here : at + (from + k) ≡ from + (at + k) = omega arith in
          let there : from + at + k ≡ from + (at + k) = omega arith in
          λ j. sub binary32 ((get_or-drop at v (from + k) nan ∙ ap (λ (l : ℕ). get_or v l nan) here) j) (nearest_f32 (w (there j)))

      came : part ≡ tabulate (λ (k : ℕ). smoothed (at + k)) n ++ drop n (drop at v)
      came = q ∙ (λ j. block_of (filled_rest smoothed v at p.front j) (size j)) ∙ ap (λ (l : List Float). l ++ drop n (drop at v)) (tabulate_ext _ _ n value)

      front : Filled smoothed v (at + n) (put_mid at (length row - at) row part)
      front = filled_block smoothed v at n p.front came

-- with the row's own prefix sums and ends, that is the centred row
pub smoothed_row : (r from count : ℕ) (v sums : List Float) (first last : Float) → sums ≡ prefix_sums v → first ≡ get_or v 0 nan → last ≡ get_or v (length v - 1) nan → from + count ≤ length v
    → tabulate (smoothed (wide_mean sums first last r) from v) count ≡ tabulate (λ (i : ℕ). centred_at r v (from + i)) count
smoothed_row r from count v sums first last e f l h = rw (f, l) (tabulate_ext _ _ count (λ i w. centred_by v sums r (from + i) (omega arith) e))

pub last_more : {A : Type 0} (z : A) (f : ℕ → A) (n : ℕ) → last_or z f (n + 1) ≡ f n
unfolding last_or
last_more z f n = rw add-one

-- Rows of `count` elements, each worked out in `tail` places more than it keeps.
module _ {A : Type 0} (g t : ℕ → List A) (count tail : ℕ) (d : List A) where
  -- the list d after b rows: they stand at its front, then what the last one left, and what lies past the places used is as it was
  pub record Fronted (b : ℕ) (whole : List A) : Type 0 where
    pub size : length whole ≡ length d
    pub front : take (b * count) whole ≡ rows g b
    pub left : take tail (drop (b * count) whole) ≡ last_or (take tail d) t b
    pub rest : drop (b * count + tail) whole ≡ drop (b * count + tail) d

  pub fronted_none : Fronted 0 d
  unfolding rows last_or
  fronted_none = record { size = refl; front = rw zero-mul; left = rw zero-mul; rest = refl }

  -- the part up to `e` was lent, and came back with the next row at its front
  pub fronted_more : (b e : ℕ) (whole part : List A) → Fronted b whole → e ≡ b * count + (count + tail) → e ≤ length d
      → length part ≡ e - b * count → take count part ≡ g b → drop count part ≡ t b → Fronted (b + 1) (put_mid (b * count) (e - b * count) whole part)
  unfolding rows
  fronted_more b e whole part p q h l s r =
      record { size = same_len_mid at (e - at) whole part (l ∙ sym (mid_len at e whole (omega (arith, p.size)))) ∙ p.size; front = front ∙ (rw add-one); left = left; rest = rest }
    where
      at : ℕ
      at = b * count

      next : (b + 1) * count ≡ at + count
      next = sym (next_row b count)

      start : length (take at whole) ≡ at
      start = length-take-le at whole (omega (arith, p.size))

      front : take ((b + 1) * count) (put_mid at (e - at) whole part) ≡ rows g b ++ g b
      front = ap (λ (n : ℕ). take n (put_mid at (e - at) whole part)) (next ∙ ap (λ (n : ℕ). n + count) (sym start))
          ∙ take-append-add (take at whole) (part ++ post_of at (e - at) whole) count
          ∙ (λ i. p.front i ++ (take-append-le count part (post_of at (e - at) whole) (omega arith) ∙ s) i)

      past : drop ((b + 1) * count) (put_mid at (e - at) whole part) ≡ drop count part ++ post_of at (e - at) whole
      past = ap (λ (n : ℕ). drop n (put_mid at (e - at) whole part)) (next ∙ ap (λ (n : ℕ). n + count) (sym start))
          ∙ drop-append-add (take at whole) (part ++ post_of at (e - at) whole) count
          ∙ drop-append-le count part (post_of at (e - at) whole) (omega arith)

      left : take tail (drop ((b + 1) * count) (put_mid at (e - at) whole part)) ≡ last_or (take tail d) t (b + 1)
      left = ap (take tail) past
          ∙ take_at (drop count part) (post_of at (e - at) whole) tail (length-drop count part ∙ omega arith)
          ∙ r ∙ sym (last_more (take tail d) t b)

      end : (b + 1) * count + tail ≡ e
      end = omega (arith, next)

      all : at + tail + count ≡ e
      all = omega arith

      rest : drop ((b + 1) * count + tail) (put_mid at (e - at) whole part) ≡ drop ((b + 1) * count + tail) d
      rest = rw end (drop_put at e whole part (omega arith) (omega (arith, p.size)) l
          ∙ rw (← all, ← drop-drop count (at + tail) whole, ← drop-drop count (at + tail) d) (ap (drop count) p.rest))

-- ---- bands centred one after the other, at the front of d; the sums stand in s
-- a row that holds the logs of v, centred: its front is part of v's centred row, the other logs stay
centred_row : (radius from count : ℕ) (v : List Float) {row out : List Float} → from + count ≤ length v → row ≡ logs_of v
    → out ≡ tabulate (λ (i : ℕ). centred_at radius row (from + i)) count ++ drop count row
    → (take count out ≡ take count (drop from (centred radius v))) × (drop count out ≡ drop count (logs_of v))
unfolding centred
centred_row radius from count v {row} {out} h e p =
    let f : List Float → ℕ → Float = λ l i. centred_at radius l (from + i) in
    let all : out ≡ tabulate (f (logs_of v)) count ++ drop count (logs_of v) = p ∙ ap (λ (l : List Float). tabulate (f l) count ++ drop count l) e in
    let long = length_tabulate (f (logs_of v)) count in (
      ap (take count) all ∙ take_at (tabulate (f (logs_of v)) count) (drop count (logs_of v)) count long ∙ sym (tabulate_part (centred_at radius (logs_of v)) nan (length v) from count h),
      ap (drop count) all ∙ drop_at (tabulate (f (logs_of v)) count) (drop count (logs_of v)) count long,
    )

module _ (frames radius from count : ℕ) (v d s : List Float) where
  abbrev band_of : ℕ → List Float
  band_of b = take count (drop from (centred radius (row frames v b)))

  abbrev left_of : ℕ → List Float
  left_of b = drop count (logs_of (row frames v b))

  abbrev sums_of : ℕ → List Float
  sums_of b = prefix_sums (logs_of (row frames v b))

  pub record Centred (b : ℕ) (out sums : List Float) : Type 0 where
    pub bands : Fronted band_of left_of count (frames - count) d b out
    pub last : sums ≡ last_or s sums_of b

  pub centred_none : Centred 0 d s
  unfolding last_or
  centred_none = record { bands = fronted_none band_of left_of count (frames - count) d; last = refl }

  -- the part from b * count on was lent: it was filled with the logs of band b, and came back with these centred
  pub centred_more : (b n : ℕ) {out sums logs part next : List Float} → from + count ≤ frames → b * frames + frames ≤ length v → b * count + frames ≤ length d
      → n ≡ b * count + frames - b * count → Centred b out sums → logs ≡ logs_of (take (b * frames + frames - b * frames) (drop (b * frames) v))
      → part ≡ tabulate (λ (i : ℕ). centred_at radius logs (from + i)) count ++ drop count logs → next ≡ prefix_sums logs → length part ≡ n → Centred (b + 1) (put_mid (b * count) n out part) next
  centred_more b n {out} {logs = logs} {part = part} h k w e p lent given told long =
      let at : ℕ = b * count in
      let size : b * frames + frames - b * frames ≡ frames = omega arith in
      let band : length (row frames v b) ≡ frames = simp (length-take, length-drop) (omega arith) in
      let held : logs ≡ logs_of (row frames v b) = lent ∙ ap (λ (j : ℕ). logs_of (take j (drop (b * frames) v))) size in
      let done = centred_row radius from count (row frames v b) (rw band h) held given in
      record {
        bands = rw e (fronted_more band_of left_of count (frames - count) d b (at + frames) out part p.bands (omega arith) w (long ∙ e) done.0 done.1);
        last = told ∙ ap prefix_sums held ∙ sym (last_more s sums_of b);
      }

-- ---- the mean over frames that lie within the row
pub inside : (sums : List Float) (first last : Float) (r i : ℕ) → r ≤ i → i + r + 1 < length sums
    → wide_mean sums first last r i ≡ ((get_or sums (i + r + 1) nan ⊖ get_or sums (i - r) nan) ⊕ real 0 ⊗ first ⊕ real 0 ⊗ last) ⊘ real (2 * r + 1)
unfolding wide_mean
inside sums first last r i h k =
    let m : min (length sums - 1) (i + r + 1) ≡ i + r + 1 = omega (arith, k) in
    let b : r - i ≡ 0 = omega (arith, h) in
    let a : i + r + 1 - (length sums - 1) ≡ 0 = omega (arith, k) in
    rw (m, b, a) refl
