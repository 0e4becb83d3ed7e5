-- What a line of the list says, and whether the crate `numbers` agrees with it. Definitions only.
use Rattle.std.specs.Prelude.{ℕ, Bool, false, not, ◌&&◌, cond, List, Option, None, Some, eqb, take, drop, get_or, codes, Float}
use Rattle.std.specs.Str.{bytes_eq}
use Rattle.std.specs.Float.{binary64}
use Rattle.std.specs.Float.Ieee.{of_bits, to_bits}
use Rattle.numbers_spec.specs.Exponential.{exp_of, ten_to}
use Rattle.numbers_spec.specs.Logarithm.{log10_of, log1p_of, log_of}
use Rattle.numbers_spec.specs.Narrow.{nearest_f32}
use Rattle.numbers_spec.specs.Root.{root_of}
use Rattle.numbers_spec.specs.Whole.{whole_above, whole_below, whole_nearest}
use Rattle.numbers_replay.specs.declared.line.Case.{Case}
use Rattle.numbers_replay.specs.declared.line.Function.{Function}
use Rattle.numbers_replay.specs.declared.line.Function.TheVariants as function
use Rattle.hexadecimal.specs.Hexadecimal.{word_from}
use Rattle.replays.specs.Lines as lists

-- ---- names, padded to six bytes
unfoldable pub function_of : List ℕ → Option Function
function_of name =
    cond (bytes_eq name (codes "round ")) (Some function.Round)
    (cond (bytes_eq name (codes "floor ")) (Some function.Floor)
    (cond (bytes_eq name (codes "ceil  ")) (Some function.Ceil)
    (cond (bytes_eq name (codes "narrow")) (Some function.Narrow)
    (cond (bytes_eq name (codes "root  ")) (Some function.Root)
    (cond (bytes_eq name (codes "exp   ")) (Some function.Exp)
    (cond (bytes_eq name (codes "ten_to")) (Some function.TenTo)
    (cond (bytes_eq name (codes "ln    ")) (Some function.Ln)
    (cond (bytes_eq name (codes "ln_1p ")) (Some function.Ln1p)
    (cond (bytes_eq name (codes "log10 ")) (Some function.Log10)
    None)))))))))

-- ---- a line
-- the parts of a line, each of them well-formed or not
abbrev pub joined : Option Function → Option ℕ → Option ℕ → Option Case
joined (Some f) (Some x) (Some y) = Some (record { function = f; input = x; answer = y })
joined (Some f) (Some x) None = None
joined (Some f) None y = None
joined None x y = None

-- a blank after the name and after the input, and a line end
unfoldable pub read_of : List ℕ → Option Case
unfolding function_of word_from
read_of line =
    cond (not (eqb (get_or line 6 0) 32 && eqb (get_or line 23 0) 32 && eqb (get_or line 40 0) 10)) None
    (joined (function_of (take 6 line)) (word_from 0 (take 16 (drop 7 line))) (word_from 0 (take 16 (drop 24 line))))

-- ---- what the crate answers
unfoldable pub reply_of : Function → Float → Float
reply_of function.Round x = whole_nearest x
reply_of function.Floor x = whole_below x
reply_of function.Ceil x = whole_above x
reply_of function.Narrow x = nearest_f32 x
reply_of function.Root x = root_of x
reply_of function.Exp x = exp_of x
reply_of function.TenTo x = ten_to x
reply_of function.Ln x = log_of x
reply_of function.Ln1p x = log1p_of (nearest_f32 x)
reply_of function.Log10 x = log10_of x

unfoldable pub agrees_of : Option Case → Bool
agrees_of None = false
agrees_of (Some c) = eqb (to_bits binary64 (reply_of c.function (of_bits binary64 c.input))) c.answer

-- ---- the list
-- the bytes of a line: a name of six, two words of 16 digits, and a byte after each
abbrev pub line_bytes : ℕ
line_bytes = 41

-- the number of lines, one that is cut off at the end included
abbrev pub lines : List ℕ → ℕ
lines = lists.lines line_bytes

-- how many of the first n lines do not agree
abbrev pub differing : ℕ → List ℕ → ℕ
differing = lists.differing line_bytes (λ (line : List ℕ). agrees_of (read_of line))
