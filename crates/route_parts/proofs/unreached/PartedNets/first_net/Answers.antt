use Rattle.route_parts.specs.Marks.{graph_in, placed_in}
use Rattle.route_parts.proofs.FirstLemmas.{first-net, nets-all, nets-more}
use Rattle.route_parts.proofs.unreached.PartedNets.first_net.Goals as goal

pub loop-net-preserved : goal.loop-net-preserved
loop-net-preserved c =
    nets-more (placed_in c.args.self.now) (graph_in c.args.self.now).width
    c.as_slice-value-items.result.now c.as_slice-value-items.ensures c.loop-net.net
    c.value-item.result c.in_ok-sink.field-0 c.in_ok-sink.ensures c.in_default.is
    c.loop-net-test.true c.value-item.is c.loop-net.invariant

pub returns-in-loop-net : goal.returns-in-loop-net
returns-in-loop-net c =
    first-net (placed_in c.args.self.now) (graph_in c.args.self.now).width
    c.as_slice-value-items.result.now c.as_slice-value-items.ensures c.loop-net.net c.in-Some.sink
    c.value-item.result c.in_ok-sink.field-0 c.in_ok-sink.ensures c.in-Some.is
    c.loop-net-test.true c.value-item.is c.loop-net.invariant

pub returns : goal.returns
returns c =
    nets-all (placed_in c.args.self.now) (graph_in c.args.self.now).width
    c.as_slice-value-items.result.now c.as_slice-value-items.ensures c.loop-net.net
    c.loop-net-test.false c.loop-net.invariant
