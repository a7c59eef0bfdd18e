use Rattle.std.proofs.Common.{◌≡◌, ◌<◌, List, Some, length, refl, sym, arith}
use Rattle.std.specs.Prelude.{slice_get}
use Rattle.std.proofs.lemmas.Option.{slice_get_read}
use Rattle.fpga_types.specs.declared.route.RouteNet.{RouteNet}
use Rattle.fpga_bounds.proofs.CopyLemmas.{copies-more}
use Rattle.fpga_bounds.proofs.copy.copied_nets.Goals as goal

pub loop-n-preserved : goal.loop-n-preserved
loop-n-preserved c =
    let nets : List RouteNet = c.args.nets.now in
    let below : c.loop-n.n < length nets = omega arith in
    let here : slice_get nets c.loop-n.n ≡ Some c.index-nets-n.result =
    slice_get_read nets (length nets) c.loop-n.n c.index-nets-n.result refl below
    c.index-nets-n.is in
    rw (c.in_ok-push.ensures.items, c.loop-n.invariant, c.in_ok-copied_net.ensures)
    (sym (copies-more c.args.table.now c.args.tracks.now nets c.loop-n.n c.index-nets-n.result here
    below))
