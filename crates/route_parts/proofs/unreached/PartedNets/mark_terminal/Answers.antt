use Rattle.std.proofs.Common.{◌∙◌, take}
use Rattle.std.specs.Prelude.{flat_map}
use Rattle.fpga_graph.specs.Wires.{opened_wires}
use Rattle.route_parts.specs.Marks.{graph_in}
use Rattle.route_parts.proofs.MarkLemmas.{marked-pins}
use Rattle.route_parts.proofs.unreached.PartedNets.mark_terminal.Goals as goal

pub loop-pin-preserved : goal.loop-pin-preserved
loop-pin-preserved c = record {
  each = c.in_ok-mark_pin.ensures.each ∙ c.loop-pin.invariant.each;
  marked = marked-pins (graph_in c.args.self.now) c.args.self.now.parts.table.items
      c.as_slice-pin-items.result.now c.loop-pin.pin-index _ c.mark_pin.new.marks.items
      c.loop-pin-test.true
      (c.in_ok-mark_pin.ensures.marked (flat_map (opened_wires (graph_in c.args.self.now))
      (take c.loop-pin.pin-index c.as_slice-pin-items.result.now)) c.loop-pin.invariant.marked);
}
