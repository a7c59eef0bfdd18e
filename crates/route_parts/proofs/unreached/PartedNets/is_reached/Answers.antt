use Rattle.std.proofs.Common.{◌≡◌, true, List, ◌∙◌, sym, subst}
use Rattle.std.specs.Prelude.{flat_map}
use Rattle.std.specs.List.{list_any}
use Rattle.fpga_graph.specs.Wires.{opened_wires}
use Rattle.fpga_types.specs.declared.grid.PinAt.{PinAt}
use Rattle.route_parts.specs.Marks.{graph_in, is_marked}
use Rattle.route_parts.proofs.MarkLemmas.{found-in_all}
use Rattle.route_parts.proofs.unreached.PartedNets.is_reached.Goals as goal

pub returns-then-branch : goal.returns-then-branch
returns-then-branch c =
    let test = is_marked (graph_in c.args.self.now) c.args.self.now.parts.table.items
    c.args.marks.now in
    let found = found-in_all test (opened_wires (graph_in c.args.self.now))
    c.as_slice-pin-items.result.now c.loop-pin.pin-index _ c.in_ok-opens_marked.field-0
    c.in_ok-opens_marked.ensures c.if-branch.true c.loop-pin-test.true in
    sym (subst (λ (pins : List PinAt). list_any test
    (flat_map (opened_wires (graph_in c.args.self.now)) pins) ≡ true)
    (c.as_slice-pin-items.ensures.value ∙ c.in_ok-pins.ensures.pins) found)
