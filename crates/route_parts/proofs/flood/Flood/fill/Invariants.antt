-- the wires with lower numbers have their parts
use Rattle.std.proofs.Common.{◌≡◌, ◌≢◌, ℕ, ◌<◌, ◌≤◌, [], get_or}
use Rattle.route_parts.specs.Flooding.{IsFlooding}
use Rattle.route_parts.specs.Links.{graph_of}
use Rattle.route_parts.proofs.flood.Flood.fill.Given as goal

abbrev pub invariant-loop-number : goal.invariant-loop-number
invariant-loop-number l = record {
  flooding : IsFlooding (graph_of l.wires) l.count l.self.table.items l.self.ahead.items;
  none : l.self.ahead.items ≡ [];
  few : l.count ≤ l.number;
  each : (k : ℕ) → k < l.number → get_or l.self.table.items k 0 ≢ 0;
}
