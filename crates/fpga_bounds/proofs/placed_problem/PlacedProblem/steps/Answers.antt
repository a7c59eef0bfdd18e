use Rattle.std.proofs.Common.{All, subst}
use Rattle.fpga_types.specs.Problem.{RoutingProblem, problem_of}
use Rattle.fpga_types.specs.Slots.{slots}
use Rattle.fpga_types.proofs.FitsLemmas.{Fits-IsFit}
use Rattle.fpga_bounds.specs.Problem.{IsStepMeeting, IsStepWithin}
use Rattle.fpga_bounds.proofs.StepFacts.{IsGoodStep, good-steps}
use Rattle.fpga_bounds.proofs.placed_problem.PlacedProblem.steps.Goals as goal

pub returns-clause-within : goal.returns-clause-within
returns-clause-within c =
    let p : RoutingProblem = problem_of c.self.inside.arch c.self.inside.netlist
    c.self.inside.placement c.self.inside.route in
    let good : All (IsGoodStep p.route) c.as_slice.result.now =
    rw (c.as_slice.ensures.value, c.self.invariant.listed.steps_are)
    (good-steps p.route (Fits-IsFit p c.self.invariant.fits)) in
    subst (λ (q : RoutingProblem). All (IsStepWithin (slots q.route)) c.as_slice.result.now)
    c.self.view_is (λ k d below. (good k d below).0)

pub returns-clause-meet : goal.returns-clause-meet
returns-clause-meet c =
    let p : RoutingProblem = problem_of c.self.inside.arch c.self.inside.netlist
    c.self.inside.placement c.self.inside.route in
    let good : All (IsGoodStep p.route) c.as_slice.result.now =
    rw (c.as_slice.ensures.value, c.self.invariant.listed.steps_are)
    (good-steps p.route (Fits-IsFit p c.self.invariant.fits)) in
    subst (λ (q : RoutingProblem). All (IsStepMeeting q.route.grid (slots q.route))
    c.as_slice.result.now) c.self.view_is (λ k d below. (good k d below).1)
