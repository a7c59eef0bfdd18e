use Rattle.std.proofs.Common.{◌≡◌, ◌∙◌, List, [], refl}
use Rattle.fpga_graph.specs.GraphOf.{GraphOf}
use Rattle.fpga_types.specs.declared.grid.Side.TheVariants.{Left, Right, Bottom, Top}
use Rattle.fpga_types.specs.declared.problem.Slot.{Slot}
use Rattle.route_reach.specs.Near.{side_slot, with_found}
use Rattle.route_reach.proofs.NearSlots.{four-sides, touched-all}
use Rattle.route_reach.proofs.near.touched_slots.Goals as goal

pub returns : goal.returns
returns c =
    let g : GraphOf = c.args.graph.now in
    let all : List Slot = c.args.numbers.now in
    let row : c.add_beside-4.new.row.items ≡ with_found (with_found (with_found (with_found []
    (side_slot g all c.args.net c.args.pin Left)) (side_slot g all c.args.net c.args.pin Right))
    (side_slot g all c.args.net c.args.pin Bottom)) (side_slot g all c.args.net c.args.pin Top) =
    rw (
      c.add_beside-4.ensures.with,
      c.add_beside-3.ensures.with,
      c.add_beside-2.ensures.with,
      c.add_beside.ensures.with,
      c.new-touched.ensures,
    ) refl in
    row ∙ touched-all all g c.requires.distinct c.args.net c.args.pin _
    (four-sides all g c.requires.distinct c.args.net c.args.pin)
