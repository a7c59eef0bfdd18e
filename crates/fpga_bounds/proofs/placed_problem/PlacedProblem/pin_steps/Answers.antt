use Rattle.std.proofs.Common.{All, subst}
use Rattle.fpga_types.specs.Problem.{RoutingProblem, problem_of}
use Rattle.fpga_bounds.specs.Problem.{IsPinStepTouching}
use Rattle.fpga_bounds.proofs.PinFacts.{good-pins}
use Rattle.fpga_bounds.proofs.placed_problem.PlacedProblem.pin_steps.Goals as goal

pub returns-clause-touching : goal.returns-clause-touching
returns-clause-touching c =
    let p : RoutingProblem = problem_of c.self.inside.arch c.self.inside.netlist
    c.self.inside.placement c.self.inside.route in
    let good : All (IsPinStepTouching p) c.as_slice.result.now =
    rw (c.as_slice.ensures.value, c.self.invariant.listed.pins_are)
    (good-pins p c.self.invariant.fits c.self.invariant.given.route) in
    subst (λ (q : RoutingProblem). All (IsPinStepTouching q) c.as_slice.result.now) c.self.view_is
    good
