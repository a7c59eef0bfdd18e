-- the literals of the tracks so far stand at the end
use Rattle.std.proofs.Common.{◌≡◌, ◌+◌, ◌*◌, ◌≤◌, ◌++◌, false, length}
use Rattle.std.specs.Prelude.{All, filter, map, slice_index_or}
use Rattle.sat_clause.specs.Literal.{IsWithin}
use Rattle.route_encode.specs.Encoding.{below, place_of}
use Rattle.route_reach.specs.WireClauses.{wire_reached}
use Rattle.route_reach.proofs.sinks.SinkReach.push_opened.Given as goal

abbrev pub invariant-loop-track : goal.invariant-loop-track
invariant-loop-track l = record {
  lits : l.row ≡ l.initial.row ++ map (λ t. wire_reached l.self.variables.wires
      l.self.variables.reach (place_of l.self.width l.slot t) l.self.variables.reach)
      (filter (λ t. slice_index_or l.opened t false) (below l.track));
  few : length l.row ≤ length l.initial.row + l.track;
  within : All (IsWithin (l.self.variables.wires * (l.self.variables.reach + 2))) l.row;
}
