use Rattle.std.proofs.Common.{◌<◌, length, arith, add-one, sym}
use Rattle.std.proofs.Math.Seq.{take-suc-set}
use Rattle.std.proofs.lemmas.List.FromFn.{map-range_with_len_more}
use Rattle.route_encode.specs.Encoding.{has}
use Rattle.route_encode.proofs.variables.Variables.fill_some_track.Goals as goal

pub loop-track-preserved : goal.loop-track-preserved
loop-track-preserved c =
    let inside : c.loop-track.track < length c.loop-track.row = omega arith in
    let more =
    map-range_with_len_more
    (has c.args.self.width c.args.slot) 0 c.loop-track.track c.loop-track.track (omega arith) in
    rw (
      add-one c.loop-track.track,
      take-suc-set c.loop-track.row c.loop-track.track c.has.result
          inside,
      c.loop-track.invariant,
      c.has.ensures.value,
    )
    (sym (rw (add-one c.loop-track.track) at more))
