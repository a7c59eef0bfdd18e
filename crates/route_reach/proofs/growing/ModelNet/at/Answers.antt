use Rattle.fpga_types.specs.Problem.{RoutingProblem}
use Rattle.route_reach.proofs.StretchLemmas.{stretch-of}
use Rattle.route_reach.proofs.growing.ModelNet.at.Goals as goal

pub invariant_of-result : goal.invariant_of-result
invariant_of-result c =
    let p : RoutingProblem = c.args.model.now.problem in
    let stretch = stretch-of p.route c.slots.result.now c.args.number c.args.first
    c.slots_end.result c.slots.ensures.value c.requires.first c.slots_end.ensures.within.0
    c.slots_end.ensures.within.1 c.slots_end.ensures.own c.slots_end.ensures.other in
    record {
      is = record {
        limits = c.slots.ensures.limits;
        here = c.net.ensures;
        order = stretch.order;
        within = stretch.within;
        stretch = stretch.own;
      };
    }

pub returns-clause-next : goal.returns-clause-next
returns-clause-next c =
    let p : RoutingProblem = c.args.model.now.problem in
    (stretch-of p.route c.slots.result.now c.args.number c.args.first
    c.slots_end.result c.slots.ensures.value c.requires.first c.slots_end.ensures.within.0
    c.slots_end.ensures.within.1 c.slots_end.ensures.own c.slots_end.ensures.other).next
