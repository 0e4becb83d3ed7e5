-- Numbers written in lowercase hexadecimal digits. Definitions only.
use Rattle.std.specs.Prelude.{ℕ, ◌+◌, ◌-◌, ◌*◌, cond, List, [], ◌∷◌, eqb, ltb, drop, take, Option, None, Some}
use Rattle.std.specs.Option.{unwrap_or}

-- 0 to 9 for the bytes 48 to 57, 10 to 15 for 97 to 102 ('a' to 'f'), and 16 for any other
unfoldable pub digit_of : ℕ → ℕ
digit_of byte = cond (ltb byte 48) 16 (cond (ltb byte 58) (byte - 48) (cond (ltb byte 97) 16 (cond (ltb byte 103) (byte - 87) 16)))

-- the number whose first digits write n and whose others are the bytes
unfoldable pub word_from : ℕ → List ℕ → Option ℕ
word_from n [] = Some n
word_from n (byte ∷ bytes) = cond (eqb (digit_of byte) 16) None (word_from (n * 16 + digit_of byte) bytes)

-- ---- lists of lines
-- The bytes of a list, at most: as many as a program that replays one reads (its constant LIST).
abbrev pub list_most : ℕ
list_most = 65536

-- the digits of a word, and its bytes with the one after it
abbrev pub digits : ℕ
digits = 16

abbrev pub spaced : ℕ
spaced = 17

-- a malformed word counts as the largest
unfoldable pub word_of : Option ℕ → ℕ
word_of word = unwrap_or word 0xffffffffffffffff

-- word k of a line
unfoldable pub word_at : ℕ → List ℕ → ℕ
word_at k line = word_of (word_from 0 (take digits (drop (k * spaced) line)))
