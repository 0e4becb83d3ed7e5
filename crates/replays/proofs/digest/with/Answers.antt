-- `replays::digest::with` meets its contract: what is turned has the low bits above and the high ones below. Assumes nothing.
use Rattle.std.proofs.Common.{◌≡◌, ℕ, ◌+◌, ◌*◌, ◌/◌, ◌%◌, ◌^◌, ◌<◌, bit_or, ap, ◌∙◌, arith}
use Rattle.std.proofs.lemmas.Nat.{or_shifted}
use Rattle.replays.specs.Digests.{with_word}
use Rattle.replays.proofs.digest.with.Goals as goal

turned : (w : ℕ) → w < 2 ^ 64 → bit_or (w * 2 ^ 9 % 2 ^ 64) (w / 2 ^ 55) ≡ w % 2 ^ 55 * 2 ^ 9 + w / 2 ^ 55
turned w h =
    let low : w * 2 ^ 9 % 2 ^ 64 ≡ w % 2 ^ 55 * 2 ^ 9 = omega arith in
    let high : w / 2 ^ 55 < 2 ^ 9 = omega arith in
    rw low (or_shifted (w % 2 ^ 55) 9 (w / 2 ^ 55) high)

pub returns : goal.returns
unfolding with_word
returns c = ap (λ (n : ℕ). (n + c.args.next) % 2 ^ 64) (c.rotate_left.ensures ∙ turned c.args.word c.ranges.word.fits)
