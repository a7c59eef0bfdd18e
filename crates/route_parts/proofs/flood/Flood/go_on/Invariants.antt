-- parts as far as they are found; each wire taken leaves fewer without a part or fewer ahead
use Rattle.std.proofs.Common.{◌+◌, length}
use Rattle.route_parts.specs.Flooding.{IsFlooding, Keeps, open_count}
use Rattle.route_parts.specs.Links.{graph_of}
use Rattle.route_parts.proofs.flood.Flood.go_on.Given as goal

abbrev pub invariant-loop-wire : goal.invariant-loop-wire
invariant-loop-wire l = record {
  flooding : IsFlooding (graph_of l.wires) l.part l.self.table.items l.self.ahead.items;
  keeps : Keeps l.fn.self.table.items l.self.table.items;
}

abbrev pub decreases-loop-wire : goal.decreases-loop-wire
decreases-loop-wire l = open_count l.self.table.items + length l.self.ahead.items
