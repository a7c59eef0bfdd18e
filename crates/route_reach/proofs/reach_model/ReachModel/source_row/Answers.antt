use Rattle.std.proofs.Common.{ap, ◌∙◌}
use Rattle.std.specs.List.{list_any}
use Rattle.fpga_graph.specs.GraphOf.{GraphOf}
use Rattle.fpga_types.specs.Problem.{RoutingProblem}
use Rattle.fpga_types.specs.Slots.{slot_at, slots}
use Rattle.route_reach.specs.Encoding.{reaches, wire_at}
use Rattle.route_reach.specs.Ends.{outs_at}
use Rattle.route_reach.specs.Modelled.{ModelOf, is_begun}
use Rattle.route_reach.proofs.reach_model.ReachModel.source_row.Goals as goal

pub returns : goal.returns
returns c = λ t.
    let p : RoutingProblem = c.self.inside.problem.now in
    c.source_row_of.ensures t
    ∙ ap (λ (g : GraphOf). list_any (λ out. reaches g out (wire_at (slots p.route) c.args.slot t))
    (outs_at p.route (slot_at (slots p.route) c.args.slot).net)) c.self.invariant.graph
    ∙ ap (λ (m : ModelOf). is_begun m c.args.slot t) c.self.view_is
