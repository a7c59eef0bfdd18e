-- the pins so far open no wire of a marked part
use Rattle.std.proofs.Common.{◌≡◌, false, take}
use Rattle.std.specs.Prelude.{flat_map}
use Rattle.std.specs.List.{list_any}
use Rattle.fpga_graph.specs.Wires.{opened_wires}
use Rattle.route_parts.specs.Marks.{graph_in, is_marked}
use Rattle.route_parts.proofs.unreached.PartedNets.is_reached.Given as goal

abbrev pub invariant-loop-pin : goal.invariant-loop-pin
invariant-loop-pin l = list_any (is_marked (graph_in l.self) l.self.parts.table.items l.marks)
    (flat_map (opened_wires (graph_in l.self)) (take l.pin-index l.pin-items)) ≡ false
