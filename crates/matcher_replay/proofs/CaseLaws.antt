-- What a case within the limits gives: its numbers' bounds, and that its bands fit the arrays. Assumes nothing.
use Rattle.std.proofs.Common.{◌≡◌, ◌*◌, ◌≤◌, true, mul-le-mul, ltb-true, leb-true}
use Rattle.matcher_spec.proofs.Cases.{both}
use Rattle.matcher_replay.specs.Cases.{Limits, fine_room, is_small, window_room}
use Rattle.matcher_replay.specs.declared.case.Case.{Case}

pub limits : (c : Case) → is_small c ≡ true → Limits c
unfolding is_small
limits c h =
    let a = both _ _ h in
    let b = both _ _ a.0 in
    let d = both _ _ b.0 in
    let e = both _ _ d.0 in
    let f = both _ _ e.0 in
    let g = both _ _ f.0 in
    let i = both _ _ g.0 in
    let j = both _ _ i.0 in
    let k = both _ _ j.0 in
    record {
      seed = ltb-true _ _ k.0;
      wide = k.1;
      period = ltb-true _ _ j.1;
      some = ltb-true _ _ i.1;
      bands = leb-true _ _ g.1;
      long = ltb-true _ _ f.1;
      frames = leb-true _ _ e.1;
      heard = ltb-true _ _ d.1;
      window = leb-true _ _ b.1;
      from = leb-true _ _ a.1;
    }

-- the bands of the reference and of the window fit their arrays
pub reference_fits : {c : Case} → Limits c → c.bands * c.frames ≤ fine_room
reference_fits l = mul-le-mul l.bands l.frames

pub window_fits : {c : Case} → Limits c → c.bands * c.window ≤ window_room
window_fits l = mul-le-mul l.bands l.window
