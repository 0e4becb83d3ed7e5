-- Filling: what an accepted reference and a searchable window tell, centred rows with their ends cut off, and fronts of buffers with what lies behind. Assumes nothing.
use mathlib.Core.Path.{◌≡◌, sym, ap, subst, ◌∙◌}
use Prim.Native.Nat.{ℕ, ◌+◌, ◌-◌, ◌*◌, ◌/◌, ◌<◌, ◌≤◌}
use native.Mathlib.Nat.{mul-add, mul-le-mul_left}
use native.Mathlib.Numerals.{add-one}
use native.Mathlib.Omega.{arith}
use mathlib.Core.Bool.{true, ◌&&◌}
use mathlib.Core.List.{List, ◌++◌}
use borrow.Author.Tests.{ltb-true, leb-true, eqb-true}
use lib.Dec.{eqb, ltb, leb}
use lib.Ieee.{Float}
use lib.ListN.{length, take, drop, length-append, length-drop}
use lib.Seq.{drop-drop, drop_at, length-take-le, take_all}
use Rattle.matcher_spec.specs.Centring.{centred, kept, radius}
use Rattle.matcher_spec.specs.Energy.{all_energies, bands_of}
use Rattle.matcher_spec.specs.Index.{accepts_reference, fine_values, lent_bands}
use Rattle.numbers_spec.specs.Rows.{row, rows}
use Rattle.matcher_spec.specs.Search.{InRange, QueryIn, query_of, query_start, query_values, searchable}
use Rattle.matcher_spec.specs.Features.{Features}
use Rattle.matcher_spec.specs.Timeline.{accepts, regular, valid_values}
use Rattle.matcher_spec.specs.declared.types.Reference.{Reference}
use Rattle.matcher_filling.specs.Queries.{QueryFilled}
use Rattle.matcher_filling.specs.declared.query.Query.{Query}
use Rattle.numbers_spec.proofs.RowLaws.{row_within}
use Rattle.numbers_spec.proofs.PartLaws.{front_and_rest, front_length, drop_past, rows_ext}
use Rattle.matcher_spec.proofs.Cases.{and_true_l, and_true_r, and_last}
use Rattle.matcher_spec.proofs.RowAccess.{length_centred, length_row}

-- ---- what tests tell
-- an accepted reference has bands and frames
pub accepted_room : (hop : Float) (bands : ℕ) (times values : List Float) → accepts_reference hop bands times values ≡ true → (0 < bands) × (1 < length times)
unfolding accepts_reference regular
accepted_room hop bands times values h =
    let rest = ltb 0 bands && valid_values values in (
      ltb-true 0 bands (and_true_l (ltb 0 bands) (valid_values values) (and_true_r (regular hop times) rest h)),
      ltb-true 1 (length times) (and_true_l (ltb 1 (length times)) _ (and_true_l (regular hop times) rest h)),
    )

-- a window that is searchable has the reference's bands, more frames than centring takes away, and no more left than the reference has
pub searchable_room : (x : Reference) (w : Features) → searchable x w ≡ true
    → (w.bands ≡ x.bands) × (2 * radius x.hop_ms + 16 < length w.times) × (length w.times - 2 * radius x.hop_ms ≤ x.frames)
unfolding searchable accepts
searchable_room x w h =
    let r = radius x.hop_ms in
    let frames = length w.times in
    let timely = eqb w.bands x.bands && regular x.hop_ms w.times in
    let fits = leb (frames - 2 * r) x.frames in
    let rest = valid_values w.values && fits in (
      eqb-true w.bands x.bands (and_true_l (eqb w.bands x.bands) (regular x.hop_ms w.times) (and_true_l timely (ltb (2 * r + 16) frames && rest) h)),
      ltb-true (2 * r + 16) frames (and_true_l (ltb (2 * r + 16) frames) rest (and_true_r timely (ltb (2 * r + 16) frames && rest) h)),
      leb-true (frames - 2 * r) x.frames (and_last timely (ltb (2 * r + 16) frames) (valid_values w.values) fits h),
    )

-- ---- fronts
-- lists that agree from a place on agree from a later one on
pub later : {A : Type 0} (m k : ℕ) (x y : List A) → m ≤ k → drop m x ≡ drop m y → drop k x ≡ drop k y
later m k x y h e =
    let s : m + (k - m) ≡ k = omega arith in
    rw s at (sym (drop-drop (k - m) m x) ∙ ap (drop (k - m)) e ∙ drop-drop (k - m) m y)

-- a list of which the front is p, and what lies behind it is as in d
pub front_written : {A : Type 0} {p : List A} (e d : List A) (k : ℕ) → k ≤ length e → take k e ≡ p → drop k e ≡ drop k d → e ≡ p ++ drop (length p) d
front_written {p = p} e d k h q s = front_and_rest e d k q s ∙ ap (λ (j : ℕ). p ++ drop j d) (sym (ap length (sym q) ∙ length-take-le k e h))

-- ---- centred rows
-- The query's bands with n of the window's frames, with what the last band needs besides, and their averages by fours take no more than the window's.
pub query_room : {bands : ℕ} (frames n : ℕ) → 0 < bands → n ≤ frames
    → (frames + 1 ≤ bands * (frames + 1))
    × (bands * n ≤ bands * frames)
    × (bands * (n + 1) ≤ bands * (frames + 1))
    × (bands * (n / 4) ≤ bands * n)
    × (bands * (n / 4 + 1) ≤ bands * (n + 1))
    × (bands * n + (frames - n) ≤ bands * frames)
query_room {bands} frames n h w =
    let e : frames ≡ n + (frames - n) = omega arith in (
      omega (arith, row_within 0 bands (frames + 1) h),
      mul-le-mul_left bands w,
      mul-le-mul_left bands (omega arith),
      mul-le-mul_left bands (omega arith),
      mul-le-mul_left bands (omega arith),
      omega (arith, ap (λ (k : ℕ). bands * k) e ∙ mul-add bands n (frames - n), row_within 0 bands (frames - n) h),
    )

-- what is kept of centred rows is a part of each that is as long as what is left of its frames
pub kept_rows : (r cut bands n : ℕ) (v : List Float) → bands * n ≤ length v
    → rows (λ (b : ℕ). take (n - 2 * cut) (drop cut (centred r (row n v b)))) bands ≡ rows (λ (b : ℕ). kept cut (centred r (row n v b))) bands
kept_rows r cut bands n v h =
    rows_ext _ _ bands (λ b w. ap (λ (k : ℕ). take (k - 2 * cut) (drop cut (centred r (row n v b)))) (sym (length_centred r (row n v b) ∙ length_row bands n v b h w)))

-- rows of which nothing is cut off, and their energies
pub uncut : (r bands n : ℕ) (v fine energy : List Float) → take (bands * (n - 2 * 0)) fine ≡ rows (λ (b : ℕ). kept 0 (centred r (row n v b))) bands
    → take (bands * (n - 2 * 0 + 1)) energy ≡ all_energies bands (n - 2 * 0) (take (bands * (n - 2 * 0)) fine)
    → (take (bands * n) fine ≡ fine_values r bands n v) × (take (bands * (n + 1)) energy ≡ all_energies bands n (fine_values r bands n v))
uncut r bands n v fine energy p q =
    let s : n - 2 * 0 ≡ n = omega arith in
    let whole : (x : List Float) → kept 0 x ≡ x = λ x. take_all (length x - 2 * 0) x (omega arith) in
    let front = rw s at p ∙ (λ i. rows (λ (b : ℕ). whole (centred r (row n v b)) i) bands) in
    (front, rw s at q ∙ ap (all_energies bands n) front)

-- the energies were written over the sums of the last band, and nothing behind the bands' room
pub energies_rest : (frames n : ℕ) {bands : ℕ} (p sums d : List Float) {energy : List Float} → 0 < bands → n ≤ frames → bands * (frames + 1) ≤ length d → length sums ≡ length (take (frames + 1) d)
    → energy ≡ p ++ drop (bands * (n + 1)) (sums ++ drop (frames + 1) d) → length energy ≡ length (sums ++ drop (frames + 1) d)
    → drop (bands * (frames + 1)) energy ≡ drop (bands * (frames + 1)) d
energies_rest frames n {bands} p sums d {energy} some few fits same q long =
    let room = query_room {bands = bands} frames n some few in
    let size = same ∙ length-take-le (frames + 1) d (omega arith) in
    let over = length-append sums (drop (frames + 1) d) ∙ ap (λ (k : ℕ). length sums + k) (length-drop (frames + 1) d) in
    let front = front_length p (sums ++ drop (frames + 1) d) (bands * (n + 1)) q long (omega arith) in
    later (bands * (n + 1)) (bands * (frames + 1)) energy (sums ++ drop (frames + 1) d) room.2 (ap (drop (bands * (n + 1))) q ∙ drop_at p _ (bands * (n + 1)) front)
    ∙ drop_past sums d (frames + 1) (bands * (frames + 1)) size (omega arith)

-- ---- a query at the fronts of two buffers
-- what filling answers and leaves where the window is searchable
pub query_told : (x : Reference) (w : Features) (work32 work64 : List Float) {r : ℕ} → r ≡ radius x.hop_ms → searchable x w ≡ true
    → take (w.bands * (length w.times - 2 * r)) work32 ≡ query_values r w.bands (length w.times) w.values
    → take (w.bands * (length w.times - 2 * r + 1)) work64 ≡ all_energies w.bands (length w.times - 2 * r) (take (w.bands * (length w.times - 2 * r)) work32)
    → InRange x → (q : Query) → q.frames ≡ length w.times - 2 * r → q.start ≡ query_start r w
    → QueryFilled x w q work32 work64
unfolding query_of
query_told x w work32 work64 {r} e h p q in_range given f start =
    let n = length w.times - 2 * r in
    let room = searchable_room x w h in
    let energy = rw add-one at q ∙ ap (all_energies w.bands n) p in
    let t : lent_bands w.bands n work32 work64 ≡ query_of r w = (λ i. bands_of n (p i) (energy i)) in
    let held : QueryIn x w work32 work64 =
    subst (λ (b : ℕ). lent_bands b (length w.times - 2 * radius x.hop_ms) work32 work64 ≡ query_of (radius x.hop_ms) w) room.0
    (subst (λ (k : ℕ). lent_bands w.bands (length w.times - 2 * k) work32 work64 ≡ query_of k w) e t) in
    record {
      filled = record { told = sym h; query = λ _. held };
      frames = f ∙ ap (λ (k : ℕ). length w.times - 2 * k) e;
      start = start ∙ ap (λ (k : ℕ). query_start k w) e;
      fits = record { few = in_range.few; short = in_range.short; some = omega (arith, f, e, room); within = omega (arith, f, e, room) };
      within = omega (arith, f);
      bands = room.0;
    }
