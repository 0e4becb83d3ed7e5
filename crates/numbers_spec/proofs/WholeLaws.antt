-- Rounding to whole, floor and ceiling give what specs/WholeLaws.antt says, for every finite f64. Assumes nothing.
use mathlib.Core.Path.{◌≡◌, refl, sym, ap, ◌∙◌, subst}
use Prim.Native.Nat.{ℕ, zero, suc, ◌+◌, ◌*◌, ◌/◌, ◌%◌, ◌^◌, ◌≤◌, ◌<◌}
use native.Mathlib.Nat.{le-mul_of_pos_right, le_of_suc-le-suc, le_trans, le_of_eq, le_antisymm, lt_irrefl, lt_of_lt_of_le, lt_of_not-le, le_of_lt, mul-one, mul_assoc, mul-le-mul_right, mul-lt-mul_of_pos_right, mul-pos, zero-lt-suc, div-add-mod', mod-lt}
use native.Mathlib.Omega.{arith}
use mathlib.Core.Bool.{Bool, true, false, not, cond, false≢true}
use lib.IntN.{ℤ, pos, negsuc}
use lib.Dec.{T, lit<, eqb-suc-zero, eqb}
use lib.Pow.{pow-add, pow_pos}
use lib.Ieee.{Float, add, nan, inf, fin, binary64, up, down, round, neg, fits, le, of_bits}
use lib.Ieee.Fits.{down_pos, round-fits, neg-fits}
use lib.Ieee.Exact.{HasValue, round_exact}
use lib.Ieee.Back.{round_whole, whole_unique}
use lib.Ieee.Scale.{finite}
use lib.Ieee.Order.{transfer, le_of_values}
use Rattle.numbers_spec.specs.Whole.{half_up, upward, whole_nearest, whole_below, whole_above}
use Rattle.numbers_spec.proofs.Sign.{neg_neg, neg_round}
use Rattle.numbers_spec.specs.Values.{Number, Monotone}
use Rattle.numbers_spec.specs.WholeLaws.{Nearest, Cut, Raised, RoundsTo, FloorsTo, CeilsTo, WholeFrom, ToWhole, RoundLaws, FloorLaws, CeilLaws, FloorLargest, CeilSmallest, MinusZero, NotFloorOfSum}
use Rattle.numbers_spec.proofs.Order.{P, N, le→below, below→le, monotone_of_finite, neg_le, neg_finite}
use Rattle.numbers_spec.proofs.Rounding.{signed_mono, round_sided, sided_number, is_own}
use Rattle.numbers_spec.proofs.Placed.{fits_few, fits_under}

-- ---- the ceiling is the floor from the other side of zero
pub above_is : (x : Float) → neg (whole_below (neg x)) ≡ whole_above x
unfolding whole_below whole_above neg
above_is nan = refl
above_is (inf true) = refl
above_is (inf false) = refl
above_is (fin false m e) =
    let n = upward (m * up e) (down e) in
    ap neg (sym (neg_round binary64 n 1)) ∙ neg_neg (round binary64 false n 1)
above_is (fin true m e) = neg_round binary64 (m * up e / down e) 1

-- ---- n less than one from a / c
abbrev Close : ℕ → ℕ → ℕ → Type 0
Close a c n = (n * c < a + c) × (a < n * c + c)

-- ---- such an n is an f64
exact : (s : Bool) (m : ℕ) (e : ℤ) (n : ℕ) → T (fits binary64 (fin s m e)) → Close (m * up e) (down e) n → HasValue (round binary64 s n 1) s n 1
exact s m (pos k) n F h = subst (λ (z : ℕ). HasValue (round binary64 s z 1) s z 1) (same (m * 2 ^ k) n h.0 h.1) own
  where
    same : (a n : ℕ) → n * 1 < a + 1 → a < n * 1 + 1 → a ≡ n
    same a n g l = omega arith

    shifted : m * 2 ^ k * 2 ^ 1074 ≡ m * 2 ^ (k + 1074)
    shifted = mul_assoc m (2 ^ k) (2 ^ 1074) ∙ ap (λ (z : ℕ). m * z) (sym (pow-add 2 k 1074))

    room : m * 2 ^ (k + 1074) < 2 ^ (1074 + 1024)
    room = subst (λ (z : ℕ). z < 2 ^ (1074 + 1024)) shifted (subst (λ (z : ℕ). m * 2 ^ k * 2 ^ 1074 < z) (sym (pow-add 2 1024 1074)) (mul-lt-mul_of_pos_right (subst (λ (z : ℕ). m * 2 ^ k < z) (mul-one (2 ^ 1024)) (fits_under binary64 s m (pos k) F)) (pow_pos 1074)))

    own : HasValue (round binary64 s (m * 2 ^ k) 1) s (m * 2 ^ k) 1
    own = round_exact binary64 s (m * 2 ^ k) 1 m (k + 1074) (lit< tt) (fits_few binary64 s m (pos k) F) room (shifted ∙ sym (mul-one (m * 2 ^ (k + 1074))))
exact s m (negsuc k) n F h = round_whole binary64 s n (le_trans (less n m (2 ^ suc k) (pow_pos (suc k)) h.0) (le_of_lt (fits_few binary64 s m (negsuc k) F)))
  where
    less : (n m c : ℕ) → 0 < c → n * c < m * 1 + c → n ≤ m
    less zero m c C g = omega arith
    less (suc n) m c C g =
        let l : n ≤ n * c = le-mul_of_pos_right n C in
        omega arith

-- ---- half_up, / and upward keep to their rules
nearest_is : (a c : ℕ) → 0 < c → Nearest a c (half_up a c)
nearest_is a c C =
    let q = half_up a c in
    let r = (2 * a + c) % (2 * c) in
    let e : q * (2 * c) + r ≡ 2 * a + c = div-add-mod' (2 * a + c) (2 * c) in
    let l : r < 2 * c = mod-lt (2 * a + c) (mul-pos (zero-lt-suc 1) C) in
    omega arith

cut_is : (a c : ℕ) → 0 < c → Cut a c (a / c)
cut_is a c C =
    let e = div-add-mod' a c in
    let l = mod-lt a C in
    omega arith

raised_is : (a c : ℕ) → 0 < c → Raised a c (upward a c)
raised_is a c C = go (a % c) (div-add-mod' a c) (mod-lt a C)
  where
    go : (r : ℕ) → a / c * c + r ≡ a → r < c → Raised a c (cond (eqb r 0) (a / c) (suc (a / c)))
    go zero e l = omega arith
    go (suc r) e l = subst (λ (b : Bool). Raised a c (cond b (a / c) (suc (a / c)))) (sym (eqb-suc-zero r)) (omega arith)

-- ---- a larger fraction has no smaller whole number
pub record Rule (rule : Bool → ℕ → ℕ → ℕ → Type 0) : Type 0 where
  pub close : (s : Bool) (a c n : ℕ) → 0 < c → rule s a c n → Close a c n
  pub grows : (s : Bool) (a c n b d k : ℕ) → 0 < c → 0 < d → rule s a c n → rule s b d k → a * d ≤ b * c → n ≤ k

apart_left : (a b c d p q : ℕ) → 0 < c → p ≤ a → b < q → p * d ≡ q * c → a * d ≤ b * c → ⊥
apart_left a b c d p q C h k e l = lt_irrefl (b * c) (lt_of_lt_of_le (mul-lt-mul_of_pos_right k C) (le_trans (le_of_eq (sym e)) (le_trans (mul-le-mul_right d h) l)))

apart_right : (a b c d p q : ℕ) → 0 < d → p < a → b ≤ q → p * d ≡ q * c → a * d ≤ b * c → ⊥
apart_right a b c d p q D h k e l = lt_irrefl (p * d) (lt_of_lt_of_le (mul-lt-mul_of_pos_right h D) (le_trans l (le_trans (mul-le-mul_right c k) (le_of_eq (sym e)))))

not_more : (n k : ℕ) → (suc k ≤ n → ⊥) → n ≤ k
not_more n k h = le_of_suc-le-suc (lt_of_not-le h)

nearest_grows : (a c n b d k : ℕ) → 0 < c → 0 < d → Nearest a c n → Nearest b d k → a * d ≤ b * c → n ≤ k
nearest_grows a c n b d k C D h g l = not_more n k (λ m.
    let t : suc k * c ≤ n * c = mul-le-mul_right c m in
    let h₀ = h.0 in
    let g₁ = g.1 in
    apart_left (2 * a) (2 * b) c d (2 * (k * c) + c) (2 * (k * d) + d) C (omega arith) (omega arith) (omega arith) (omega arith))

cut_grows : (a c n b d k : ℕ) → 0 < c → 0 < d → Cut a c n → Cut b d k → a * d ≤ b * c → n ≤ k
cut_grows a c n b d k C D h g l = not_more n k (λ m.
    let t : suc k * c ≤ n * c = mul-le-mul_right c m in
    apart_left a b c d (k * c + c) (k * d + d) C (omega arith) (omega arith) (omega arith) l)

raised_grows : (a c n b d k : ℕ) → 0 < c → 0 < d → Raised a c n → Raised b d k → a * d ≤ b * c → n ≤ k
raised_grows a c n b d k C D h g l = not_more n k (λ m.
    let t : suc k * c ≤ n * c = mul-le-mul_right c m in
    apart_right a b c d (k * c) (k * d) D (omega arith) (omega arith) (omega arith) l)

rounds_rule : Rule RoundsTo
rounds_rule = record { close = λ s a c n C h. omega arith; grows = λ s. nearest_grows }

floors_rule : Rule FloorsTo
floors_rule = record { close = close; grows = grows }
  where
    close : (s : Bool) (a c n : ℕ) → 0 < c → FloorsTo s a c n → Close a c n
    close true a c n C h = omega arith
    close false a c n C h = omega arith

    grows : (s : Bool) (a c n b d k : ℕ) → 0 < c → 0 < d → FloorsTo s a c n → FloorsTo s b d k → a * d ≤ b * c → n ≤ k
    grows true = raised_grows
    grows false = cut_grows

ceils_rule : Rule CeilsTo
ceils_rule = record { close = λ s. floors_rule.close (not s); grows = λ s. floors_rule.grows (not s) }

-- ---- a function that rounds by a rule: it picks the number of `pick`, and gives an infinity back
pub record Rounder (rule : Bool → ℕ → ℕ → ℕ → Type 0) (f : Float → Float) : Type 0 where
  pub lawful : Rule rule
  pub pick : Bool → ℕ → ℕ → ℕ
  pub picks : (s : Bool) (a c : ℕ) → 0 < c → rule s a c (pick s a c)
  pub at_finite : (s : Bool) (m : ℕ) (e : ℤ) → f (fin s m e) ≡ round binary64 s (pick s (m * up e) (down e)) 1
  pub at_infinite : (s : Bool) → f (inf s) ≡ inf s

-- ---- the order of what is rounded
round_ordered : (s t : Bool) (n k : ℕ) → P s n + N t k ≤ P t k + N s n → T (le (round binary64 s n 1) (round binary64 t k 1))
round_ordered s t n k h = signed_mono binary64 s n (P s n) (N s n) 1 t k (P t k) (N t k) 1 (lit< tt) (lit< tt) (is_own s n) (is_own t k) (omega arith)

-- no whole number is beside 0 / c but 0
none : (a c n d : ℕ) → 0 < d → a * d ≡ 0 → Close a c n → n ≡ 0
none zero c zero d D e h = refl
none zero c (suc n) d D e h = absurd (lt_irrefl 0 (omega arith))
none (suc a) c n d D e h = absurd (lt_irrefl 0 (omega arith))

module _ (rule : Bool → ℕ → ℕ → ℕ → Type 0) (f : Float → Float) (r : Rounder rule f) where
  abbrev at : Bool → ℕ → ℤ → ℕ
  at s m e = r.pick s (m * up e) (down e)

  near_at : (s : Bool) (m : ℕ) (e : ℤ) → rule s (m * up e) (down e) (at s m e)
  near_at s m e = r.picks s (m * up e) (down e) (down_pos e)

  close_at : (s : Bool) (m : ℕ) (e : ℤ) → Close (m * up e) (down e) (at s m e)
  close_at s m e = r.lawful.close s (m * up e) (down e) (at s m e) (down_pos e) (near_at s m e)

  gives : (s : Bool) (m : ℕ) (e : ℤ) → T (fits binary64 (fin s m e)) → WholeFrom rule s (m * up e) (down e) (f (fin s m e))
  gives s m e F = rw (r.at_finite s m e) (record { n = at s m e; value = exact s m e (at s m e) F (close_at s m e); held = round-fits binary64 s (at s m e) 1; near = near_at s m e })

  ordered : (s : Bool) (m : ℕ) (e : ℤ) (t : Bool) (n : ℕ) (d : ℤ) → P s (m * up e) * down d + N t (n * up d) * down e ≤ P t (n * up d) * down e + N s (m * up e) * down d → P s (at s m e) + N t (at t n d) ≤ P t (at t n d) + N s (at s m e)
  ordered false m e false n d h = let l = r.lawful.grows false (m * up e) (down e) (at false m e) (n * up d) (down d) (at false n d) (down_pos e) (down_pos d) (near_at false m e) (near_at false n d) (omega arith) in omega arith
  ordered true m e true n d h = let l = r.lawful.grows true (n * up d) (down d) (at true n d) (m * up e) (down e) (at true m e) (down_pos d) (down_pos e) (near_at true n d) (near_at true m e) (omega arith) in omega arith
  ordered true m e false n d h = omega arith
  ordered false m e true n d h =
      let p = none (m * up e) (down e) (at false m e) (down d) (down_pos d) (omega arith) (close_at false m e) in
      let q = none (n * up d) (down d) (at true n d) (down e) (down_pos e) (omega arith) (close_at true n d) in
      omega arith

  mono : Monotone f
  mono = monotone_of_finite f r.at_infinite number finite_mono
    where
      number : (x : Float) → T (finite x) → Number (f x)
      number nan X = absurd X
      number (inf s) X = absurd X
      number (fin s m e) X = rw (r.at_finite s m e) (sided_number s _ (round_sided binary64 s (at s m e) 1))

      finite_mono : (x y : Float) → T (finite x) → T (finite y) → T (le x y) → T (le (f x) (f y))
      finite_mono nan y X Y h = absurd X
      finite_mono (inf s) y X Y h = absurd X
      finite_mono (fin s m e) nan X Y h = absurd Y
      finite_mono (fin s m e) (inf t) X Y h = absurd Y
      finite_mono (fin s m e) (fin t n d) X Y h = rw (r.at_finite s m e, r.at_finite t n d) (round_ordered s t (at s m e) (at t n d) (ordered s m e t n d (le→below (fin s m e) (fin t n d) tt tt h)))

  keeps : (x : Float) (s : Bool) (n : ℕ) → T (fits binary64 x) → HasValue x s n 1 → f x ≡ x
  keeps nan s n F v = absurd v
  keeps (inf t) s n F v = absurd v
  keeps (fin t m e) s n F v =
      let k = at t m e in
      let own : m * up e * 1 ≡ k * down e = v.1 ∙ ap (λ (z : ℕ). z * down e) (same n k (m * up e) (down e) v.1 (close_at t m e)) in
      r.at_finite t m e ∙ whole_unique binary64 (round binary64 t k 1) (fin t m e) t k (round-fits binary64 t k 1) F (exact t m e k F (close_at t m e)) (refl, own)
    where
      same : (n k a c : ℕ) → a * 1 ≡ n * c → Close a c k → n ≡ k
      same n k a c u h = le_antisymm (less n k c (omega arith)) (less k n c (omega arith))
        where
          less : (x y c : ℕ) → x * c < y * c + c → x ≤ y
          less x y c l = not_more x y (λ g. let z : suc y * c ≤ x * c = mul-le-mul_right c g in lt_irrefl 0 (omega arith))

  pub to_whole : ToWhole rule f
  to_whole = record { gives_whole = gives; keeps_whole = keeps; keeps_zero = λ s. keeps (fin s 0 (pos 0)) s 0 (unfold fits in tt) (refl, refl); monotone = mono }

-- ---- values of one sign, in order
in_order : (s : Bool) (x y : Float) (a c b d : ℕ) → 0 < c → 0 < d → HasValue x s a c → HasValue y s b d → P s a * d + N s b * c ≤ P s b * c + N s a * d → T (le x y)
in_order false x y a c b d C D h k l = le_of_values x y a c b d C D h k (omega arith)
in_order true nan y a c b d C D h k l = absurd h
in_order true (inf t) y a c b d C D h k l = absurd h
in_order true (fin t m e) nan a c b d C D h k l = absurd k
in_order true (fin t m e) (inf u) a c b d C D h k l = absurd k
in_order true (fin false m e) (fin u n g) a c b d C D h k l = absurd (false≢true h.0)
in_order true (fin true m e) (fin false n g) a c b d C D h k l = absurd (false≢true k.0)
in_order true (fin true m e) (fin true n g) a c b d C D h k l =
    let z = transfer (n * up g) (m * up e) (down g) (down e) b a d c D C k.1 h.1 (omega arith) in
    below→le (fin true m e) (fin true n g) tt tt (omega arith)

-- ---- the three
rounds : Rounder RoundsTo whole_nearest
unfolding whole_nearest
rounds = record { lawful = rounds_rule; pick = λ s. half_up; picks = λ s. nearest_is; at_finite = λ s m e. refl; at_infinite = λ s. refl }

floors : Rounder FloorsTo whole_below
unfolding whole_below
floors = record { lawful = floors_rule; pick = λ s a c. cond s (upward a c) (a / c); picks = picks; at_finite = λ s m e. refl; at_infinite = λ s. refl }
  where
    picks : (s : Bool) (a c : ℕ) → 0 < c → FloorsTo s a c (cond s (upward a c) (a / c))
    picks true = raised_is
    picks false = cut_is

ceils : Rounder CeilsTo whole_above
unfolding whole_above
ceils = record { lawful = ceils_rule; pick = λ s a c. cond s (a / c) (upward a c); picks = picks; at_finite = λ s m e. refl; at_infinite = λ s. refl }
  where
    picks : (s : Bool) (a c : ℕ) → 0 < c → CeilsTo s a c (cond s (a / c) (upward a c))
    picks true = cut_is
    picks false = raised_is

pub round_laws : RoundLaws
round_laws = to_whole RoundsTo whole_nearest rounds

pub floor_laws : FloorLaws
floor_laws = to_whole FloorsTo whole_below floors

pub ceil_laws : CeilLaws
ceil_laws = to_whole CeilsTo whole_above ceils

-- ---- by the order
pub floor_largest : FloorLargest
floor_largest nan F X = absurd X
floor_largest (inf s) F X = absurd X
floor_largest (fin s m e) F X =
    let w = floor_laws.gives_whole s m e F in
    record {
      below = in_order s (whole_below (fin s m e)) (fin s m e) w.n 1 (m * up e) (down e) (lit< tt) (down_pos e) w.value (refl, refl) (side s w.n (m * up e) (down e) w.near);
      largest = λ y t k G v h. subst (λ (z : Float). T (le z (whole_below (fin s m e)))) (floor_laws.keeps_whole y t k G v) (floor_laws.monotone y (fin s m e) h);
    }
  where
    side : (s : Bool) (n a c : ℕ) → FloorsTo s a c n → P s n * c + N s a * 1 ≤ P s a * 1 + N s n * c
    side true n a c h = omega arith
    side false n a c h = omega arith

-- the ceiling is the floor from the other side of zero
pub ceil_smallest : CeilSmallest
ceil_smallest x F X =
    let l = floor_largest (neg x) (neg-fits binary64 x F) (neg_finite x X) in
    rw (← above_is x)
    (record {
      above = rw neg_neg at (neg_le (whole_below (neg x)) (neg x) l.below);
      smallest = λ y t k G v h. rw neg_neg at (neg_le (neg y) (whole_below (neg x)) (l.largest (neg y) (not t) k (neg-fits binary64 y G) (neg_value y t k v) (neg_le x y h)));
    })
  where
    neg_value : (y : Float) (t : Bool) (k : ℕ) → HasValue y t k 1 → HasValue (neg y) (not t) k 1
    neg_value nan t k v = absurd v
    neg_value (inf u) t k v = absurd v
    neg_value (fin u n d) t k v = unfold neg in (ap not v.0, v.1)

-- ---- the two examples
pub minus_zero : MinusZero
unfolding whole_nearest whole_above round of_bits
minus_zero = record { rounded = refl; ceiling = refl }

pub not_floor_of_sum : NotFloorOfSum
unfolding whole_nearest whole_below round of_bits add
not_floor_of_sum = record { rounded = refl; floor_of_sum = refl }
