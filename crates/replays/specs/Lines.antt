-- Lists of lines of so many bytes, each of which agrees with what is answered to it or not. Definitions only.
use Rattle.std.specs.Prelude.{ℕ, zero, suc, ◌+◌, ◌-◌, ◌/◌, ◌≡◌, Bool, false, cond, List, ltb, length, take, drop}

-- Whatever a line may be found to be, the test says the same.
abbrev pub Decides : (List ℕ → Bool) → (List ℕ → Bool → Type 0) → Type 0
Decides agrees MayAgree = (line : List ℕ) (b : Bool) → MayAgree line b → b ≡ agrees line

module _ (width : ℕ) where
  -- the number of lines, one that is cut off at the end included
  abbrev pub lines : List ℕ → ℕ
  lines list = (length list + (width - 1)) / width

  module _ (agrees : List ℕ → Bool) where
    -- the first line of what is left is whole and agrees
    unfoldable pub first_agrees : List ℕ → Bool
    first_agrees list = cond (ltb (length list) width) false (agrees (take width list))

    -- how many of the first n lines do not agree
    unfoldable pub differing : ℕ → List ℕ → ℕ
    differing zero list = 0
    differing (suc n) list = cond (first_agrees list) 0 1 + differing n (drop width list)
