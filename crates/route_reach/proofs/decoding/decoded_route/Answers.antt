use Rattle.std.proofs.Common.{ap, length, subst}
use Rattle.fpga_bounds.proofs.PairLemmas.{slots-distinct}
use Rattle.fpga_types.specs.declared.route.RouteText.{RouteText}
use Rattle.route_reach.specs.Decoding.{AreDecoded}
use Rattle.route_reach.specs.Modelled.{ModelOf, frame_in}
use Rattle.route_reach.proofs.DecodedNets.{route-counts}
use Rattle.route_reach.proofs.Heeds.{satisfies-heeds}
use Rattle.route_reach.proofs.TableLemmas.{slot-on_grid}
use Rattle.route_reach.proofs.decoding.decoded_route.Goals as goal

pub new-requires-2-clause-distinct : goal.new-requires-2-clause-distinct
new-requires-2-clause-distinct c =
    rw c.slots-slots.ensures.value (slots-distinct c.args.problem.now.route)

pub new-requires-2-clause-on_grid : goal.new-requires-2-clause-on_grid
new-requires-2-clause-on_grid c =
    rw (c.slots-slots.ensures.value, c.route-2.ensures.value)
    (slot-on_grid c.args.problem.now.route c.route-2.ensures.given.route)

pub returns : goal.returns
returns c =
    let m : ModelOf = record {
      width = c.args.width;
      reach = c.args.reach;
      problem = c.args.problem.now;
      values = c.args.values.now;
    } in
    let nets = subst (λ (x : ModelOf).
    AreDecoded x (length x.problem.route.nets) c.in_ok-nets.nets.items) c.new-model.ensures
    c.in_ok-nets.ensures in
    let found : RouteText = record {
      grid = c.route-route.result.now.grid;
      grid_line = c.route-route.result.now.grid_line;
      lines = c.route-route.result.now.lines;
      nets = c.of.result;
    } in
    route-counts m (satisfies-heeds (frame_in m) m.problem.route m.values c.requires.model)
    c.route.ensures.fits c.in_ok-nets.nets.items nets found
    (ap (λ (r : RouteText). r.grid) c.route-route.ensures.value) c.of.ensures
