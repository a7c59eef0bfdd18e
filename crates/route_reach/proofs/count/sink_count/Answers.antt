use Rattle.std.proofs.Common.{◌≤◌, arith, length}
use Rattle.fpga_types.specs.Problem.{RoutingProblem}
use Rattle.fpga_types.specs.Slots.{pin_steps}
use Rattle.fpga_types.specs.declared.limits.TheConstants.{NET_LIMIT, STEP_LIMIT}
use Rattle.route_reach.proofs.FewSinks.{few-sinks}
use Rattle.route_reach.proofs.count.sink_count.Goals as goal

pub sinks_of_nets-requires : goal.sinks_of_nets-requires
sinks_of_nets-requires c =
    let p : RoutingProblem = c.args.problem.now in
    let few = few-sinks p c.route.ensures.fits in
    let stops : length (pin_steps p.route) ≤ STEP_LIMIT =
    rw c.pin_steps-few.ensures.value at c.pin_steps-few.ensures.limit in
    let nets : length p.route.nets ≤ NET_LIMIT = c.route.ensures.given.route.limit in
    rw (c.as_slice.ensures, c.route.ensures.value) (omega (arith, few, stops, nets))

pub returns-clause-limit : goal.returns-clause-limit
returns-clause-limit c =
    let p : RoutingProblem = c.args.problem.now in
    let few = few-sinks p c.route.ensures.fits in
    let stops : length (pin_steps p.route) ≤ STEP_LIMIT =
    rw c.pin_steps-few.ensures.value at c.pin_steps-few.ensures.limit in
    let nets : length p.route.nets ≤ NET_LIMIT = c.route.ensures.given.route.limit in
    rw (c.sinks_of_nets.ensures, c.as_slice.ensures, c.route.ensures.value)
    (omega (arith, few, stops, nets))
