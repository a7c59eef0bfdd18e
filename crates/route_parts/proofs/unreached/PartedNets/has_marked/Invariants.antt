-- none of the wires so far is of a marked part
use Rattle.std.proofs.Common.{◌≡◌, false, take}
use Rattle.std.specs.List.{list_any}
use Rattle.route_parts.specs.Marks.{graph_in, is_marked}
use Rattle.route_parts.proofs.unreached.PartedNets.has_marked.Given as goal

abbrev pub invariant-loop-wire : goal.invariant-loop-wire
invariant-loop-wire l =
    list_any (is_marked (graph_in l.self) l.self.parts.table.items l.marks)
    (take l.wire-index l.wires) ≡ false
