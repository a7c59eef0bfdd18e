use Rattle.std.proofs.Common.{rules, take}
use Rattle.list_laws.proofs.Places.{get-there}
use Rattle.route_draw.specs.Needs.{lines_of}
use Rattle.route_draw.proofs.NeedLemmas.{nets-next}
use Rattle.route_draw.proofs.needs.take_nets.Goals as goal

pub loop-net-preserved : goal.loop-net-preserved
loop-net-preserved c =
    nets-next c.args.grid c.take_lines.new.needs c.args.nets.now c.loop-net.net-index
    c.net-item.result _
    (get-there c.args.nets.now c.loop-net.net-index c.net-item.result c.net-item.result
    (search rules) (search rules))
    c.as_slice.ensures (c.take_lines.ensures (lines_of (take c.loop-net.net-index c.args.nets.now))
    c.loop-net.invariant)
