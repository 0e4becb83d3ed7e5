-- What is read of an input, replayed: its lines, and how many of them differ. Definitions only.
use Rattle.std.specs.Prelude.{ℕ, ◌≡◌, ◌<◌, Bool, List, Option, length}
use Rattle.std.specs.Io.KnownBytes.{Consumes, IsAtEnd}
use Rattle.hexadecimal.specs.Hexadecimal.{list_most}
use Rattle.replays.specs.Lines.{Decides, differing, lines}
use Rattle.replays.specs.declared.lines.Count.{Count}

-- Between what an input has left before and what it has after lies the list, which is all of it unless it is as long as a list can be.
pub record Counts (width : ℕ) (MayAgree : List ℕ → Bool → Type 0) (old new : Option (List ℕ)) (count : Count) : Type 0 where
  pub list : List ℕ
  pub read : Consumes old new list
  pub all : length list < list_most → IsAtEnd new
  pub lines_are : count.lines ≡ lines width list
  pub differ_are : (agrees : List ℕ → Bool) → Decides agrees MayAgree → count.differ ≡ differing width agrees (lines width list) list
