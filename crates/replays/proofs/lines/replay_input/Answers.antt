-- `replays::lines::replay_input` meets its contract: the list is what is read into the buffer's front. Assumes nothing.
use Rattle.std.proofs.Common.{◌≡◌, ◌+◌, ◌-◌, ◌/◌, take, length, sym, ap, ◌∙◌, arith, length-take-le}
use Rattle.replays.proofs.LineLaws.{rounded_up}
use Rattle.replays.proofs.lines.replay_input.Goals as goal

pub returns : goal.returns
returns g c =
    let w = g.row.LINE in
    let read = c.in_ok-size in
    let buffer = c.read_list.new.list in
    let long : length (take read.size buffer) ≡ read.size = length-take-le read.size buffer read.ensures.bound in
    record {
      list = take read.size buffer;
      read = read.ensures.bytes;
      all = λ h. read.ensures.end (omega (arith, long, c.read_list.auto.list));
      lines_are = c.div_ceil.ensures ∙ sym (ap (λ n. (n + (w - 1)) / w) long ∙ rounded_up read.size w g.met.A.Replayed.sized.0);
      differ_are = c.replay.ensures;
    }
