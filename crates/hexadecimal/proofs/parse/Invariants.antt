-- `hexadecimal::parse` meets its contract: to go on from the digits read so far gives the answer. Assumes nothing.
use Rattle.std.proofs.Common.{◌≡◌, ◌*◌, ◌^◌, ◌<◌, drop}
use Rattle.hexadecimal.specs.Hexadecimal.{word_from}
use Rattle.hexadecimal.proofs.parse.Given as goal

abbrev pub invariant-loop-byte : goal.invariant-loop-byte
invariant-loop-byte l =
    record { below : l.value < 2 ^ (4 * l.byte-index); same : word_from 0 l.text ≡ word_from l.value (drop l.byte-index l.text) }
