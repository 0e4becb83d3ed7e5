-- The laws that the functions of src/tiles.rt cite: what one more value, or one more lane, does to a place's sum. Assumes nothing.
use mathlib.Core.Path.{◌≡◌, refl, sym, ap, subst, ◌∙◌}
use Prim.Native.Nat.{ℕ, zero, suc, ◌+◌, ◌-◌, ◌*◌, ◌/◌, ◌<◌, ◌≤◌}
use native.Mathlib.Omega.{arith}
use mathlib.Core.List.{List}
use lib.ListN.{length, get_or, take, drop, length-take, length-drop}
use lib.Ieee.{Float, nan, binary32, mul}
use lib.Seq.{get_or-take, get_or-drop, drop-drop}
use borrow.Rule.Slice.PartMut.{put_mid}
use Rattle.numbers_spec.specs.Rows.{tabulate}
use Rattle.matcher_spec.specs.Energy.{zero_f32, ◌+₃₂◌}
use Rattle.numbers_spec.proofs.RowLaws.{tabulate_ext, Filling}
use Rattle.matcher_spec.specs.Scores.{product, lanes, onward, dot}
use Rattle.matcher_dots.specs.Tiles.{lane_at, tile}
use Rattle.matcher_dots.proofs.DotLaws.{lane_more, onward_none, onward_more}
use Rattle.numbers_spec.proofs.PartLaws.{rest, filling_part}

module _ (row query : List Float) where
  -- what the query meets at place p
  abbrev pub placed : ℕ → List Float
  placed p = take (length query) (drop p row)

  -- a product at place p reads the row's value from b on
  product_at : (b p : ℕ) → b < length query → mul binary32 (get_or row (b + p) nan) (get_or query b nan) ≡ product (placed p) query b
  product_at b p h =
      let e : b + p ≡ p + b = omega arith in
      ap (λ (x : Float). mul binary32 x (get_or query b nan)) (ap (λ (i : ℕ). get_or row i nan) e ∙ sym (get_or-take (length query) (drop p row) b nan h ∙ get_or-drop p row b nan))

  -- ---- the lanes
  -- the lane of a place after one more chunk
  pub lane_next : (j k b p : ℕ) {s x : Float} → s ≡ lane_at row query p j k → x ≡ mul binary32 (get_or row (b + p) nan) (get_or query b nan) → b ≡ k * 8 + j → b < length query
      → s +₃₂ x ≡ lane_at row query p j (k + 1)
  lane_next j k b p before value e h = lane_more (placed p) query j k before (value ∙ product_at b p h ∙ ap (product (placed p) query) e)

  -- The first j lanes at place p after n chunks, added from 0.0 on.
  unfoldable pub first_lanes : ℕ → ℕ → ℕ → Float
  first_lanes n zero p = zero_f32
  first_lanes n (suc j) p = first_lanes n j p +₃₂ lane_at row query p j n

  pub first_none : (n p : ℕ) → zero_f32 ≡ first_lanes n 0 p
  unfolding first_lanes
  first_none n p = refl

  -- two more lanes
  pub first_more : (n pair p : ℕ) {s : Float} → s ≡ first_lanes n (2 * pair) p
      → s +₃₂ lane_at row query p (2 * pair) n +₃₂ lane_at row query p (2 * pair + 1) n ≡ first_lanes n (2 * (pair + 1)) p
  unfolding first_lanes
  first_more n pair p before =
      let one : 2 * pair + 1 ≡ suc (2 * pair) = omega arith in
      let two : 2 * (pair + 1) ≡ suc (suc (2 * pair)) = omega arith in
      rw (two, one, before)

  -- ---- the products behind the chunks
  -- The dot product at place p as far as the products before i.
  abbrev pub dot_to : ℕ → ℕ → Float
  dot_to i p = onward (placed p) query (length query / 8 * 8) (lanes (placed p) query (length query / 8)) (i - length query / 8 * 8)

  -- all eight lanes are in
  pub dot_begins : (pair p : ℕ) {s : Float} → pair ≡ 4 → s ≡ first_lanes (length query / 8) (2 * pair) p → s ≡ dot_to (length query / 8 * 8) p
  unfolding first_lanes lanes
  dot_begins pair p e before =
      (rw e at before) ∙ onward_none (placed p) query (length query / 8 * 8) (lanes (placed p) query (length query / 8))

  -- one more product
  pub dot_more : (i p : ℕ) {s x : Float} → s ≡ dot_to i p → x ≡ mul binary32 (get_or row (i + p) nan) (get_or query i nan) → length query / 8 * 8 ≤ i → i < length query
      → s +₃₂ x ≡ dot_to (i + 1) p
  dot_more i p before value g h =
      onward_more (placed p) query (length query / 8 * 8) (lanes (placed p) query (length query / 8)) i g before (value ∙ product_at i p h)

  -- all the products are in
  pub dot_ends : length query + tile ≤ length row + 1 → (p : ℕ) → p < tile → dot_to (length query) p ≡ dot (placed p) query
  unfolding dot
  dot_ends h p w =
      let long : length (placed p) ≡ length query = simp (length-take, length-drop) (omega arith) in
      rw long

  -- ---- one more tile of places, of the row that is lent from its first place on
  pub tile_more : (t : ℕ) (d : List Float) {out part : List Float} → Filling (λ (i : ℕ). dot (placed i) query) d (t * tile) out
      → part ≡ tabulate (λ (p : ℕ). dot (take (length query) (drop p (take (length row - t * tile) (drop (t * tile) row)))) query) tile → t * tile + tile ≤ length d
      → Filling (λ (i : ℕ). dot (placed i) query) d ((t + 1) * tile) (put_mid (t * tile) (t * tile + tile - t * tile) out part)
  tile_more t d {out} {part} before came h =
      let at : ℕ = t * tile in
      let size : at + tile - at ≡ tile = omega arith in
      let next : at + tile ≡ (t + 1) * tile = omega arith in
      let places : part ≡ tabulate (λ (p : ℕ). dot (placed (at + p)) query) (at + tile - at) =
      came
      ∙ tabulate_ext _ _ tile (λ p _. ap (λ (l : List Float). dot (take (length query) l) query) (ap (drop p) (rest row at) ∙ drop-drop p at row))
      ∙ ap (tabulate (λ (p : ℕ). dot (placed (at + p)) query)) (sym size) in
      subst (λ (i : ℕ). Filling (λ (j : ℕ). dot (placed j) query) d i (put_mid at (at + tile - at) out part)) next
      (filling_part (λ (i : ℕ). dot (placed i) query) d at (at + tile) before places (omega arith) h)
