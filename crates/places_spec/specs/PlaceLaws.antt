-- What is proved of named places. Definitions only.
use Rattle.std.specs.Prelude.{ℕ, ◌≤◌, true, false, List, ◌≡◌, length, drop, replicate, None, Some}
use Rattle.engine_spec.specs.Windows.{Submission}
use Rattle.engine_spec.specs.Refusals.{refuses}
use Rattle.engine_spec.specs.Lists.{answers_to}
use Rattle.engine_spec.specs.declared.types.Engine.{Engine}
use Rattle.engine_spec.specs.declared.types.Refusal.TheVariants as refusal
use Rattle.engine_layout.specs.Written.{ReadsBack}
use Rattle.places_spec.specs.Places.{is_name, store_words, place_in, keep_refusal, kept, restored}

-- A store of zeros keeps nothing under any name.
abbrev pub NothingInZeros : Type 0
NothingInZeros = (running : Engine) (name n : ℕ) → is_name name ≡ true → store_words ≤ n → restored running name (replicate n 0) ≡ record { refusal = Some refusal.NothingKept; engine = running }

-- What was kept is given back, whatever runs then and whatever stood there.
abbrev pub GivenBack : Type 0
GivenBack = (running e : Engine) (name : ℕ) (store : List ℕ) → refuses (keep_refusal name (length store)) ≡ false → ReadsBack e → restored running name (kept e name store) ≡ record { refusal = None; engine = e }

-- All that keeping leaves as it was: the words of the other places, and so what they give back; what lies behind the places; the length.
pub record OthersStay (e : Engine) (name : ℕ) (store : List ℕ) : Type 0 where
  pub places : (other : ℕ) → is_name other ≡ true → (other ≡ name → ⊥) → place_in other (kept e name store) ≡ place_in other store
  pub given : (running : Engine) (other : ℕ) → (other ≡ name → ⊥) → restored running other (kept e name store) ≡ restored running other store
  pub tail : drop store_words (kept e name store) ≡ drop store_words store
  pub long : length (kept e name store) ≡ length store

abbrev pub KeepingLeaves : Type 0
KeepingLeaves = (e : Engine) (name : ℕ) (store : List ℕ) → OthersStay e name store

-- Submissions after a restore answer as they did after the mark.
abbrev pub AsAtTheMark : Type 0
AsAtTheMark =
    (running e : Engine) (name : ℕ) (store : List ℕ) → refuses (keep_refusal name (length store)) ≡ false → ReadsBack e
    → (l : List Submission) → answers_to (restored running name (kept e name store)).engine l ≡ answers_to e l
