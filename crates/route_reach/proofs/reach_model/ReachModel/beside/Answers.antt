use Rattle.std.proofs.Common.{◌<◌, ap, subst, ◌∙◌}
use Rattle.std.specs.Prelude.{All}
use Rattle.fpga_graph.specs.GraphOf.{GraphOf}
use Rattle.fpga_types.specs.Problem.{RoutingProblem}
use Rattle.fpga_types.specs.Slots.{slots}
use Rattle.route_reach.specs.Modelled.{ModelOf, places_beside, wire_count}
use Rattle.route_reach.specs.Near.{near_of}
use Rattle.route_reach.specs.WireClauses.{wires_beside}
use Rattle.route_reach.proofs.reach_model.ReachModel.beside.Goals as goal

pub returns-clause-listed : goal.returns-clause-listed
returns-clause-listed c =
    let p : RoutingProblem = c.self.inside.problem.now in
    c.near_places.ensures.listed
    ∙ ap (λ (g : GraphOf). wires_beside g (slots p.route) (near_of p.route c.args.slot) c.args.slot
    c.args.track) c.self.invariant.graph
    ∙ ap (λ (m : ModelOf). places_beside m c.args.slot c.args.track) c.self.view_is

pub returns-clause-within : goal.returns-clause-within
returns-clause-within c = subst (λ (m : ModelOf). All (λ b. b < wire_count m)
    c.near_places.result.items) c.self.view_is c.near_places.ensures.within
