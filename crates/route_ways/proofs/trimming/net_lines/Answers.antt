use Rattle.std.proofs.Common.{◌<◌, length, arith}
use Rattle.route_ways.proofs.LineLemmas.{lines-all, lines-next}
use Rattle.route_ways.proofs.trimming.net_lines.Goals as goal

pub loop-position-preserved : goal.loop-position-preserved
loop-position-preserved c =
    let below : c.loop-position.position-index < length c.args.nets.now = omega arith in
    lines-next c.args.route.now c.args.nets.now c.loop-position.position-index _ _ _ below
    c.loop-position.invariant c.in_ok-append_net.ensures

pub returns : goal.returns
returns c =
    lines-all c.args.route.now c.args.nets.now c.loop-position.position-index _ (omega arith)
    c.loop-position.invariant
