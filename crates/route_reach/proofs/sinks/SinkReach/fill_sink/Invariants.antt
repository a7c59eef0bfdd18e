-- the literals of the slots so far
use Rattle.std.proofs.Common.{◌≡◌, ◌+◌, ◌*◌, ◌≤◌, length, take}
use Rattle.std.specs.Prelude.{All, flat_map}
use Rattle.sat_clause.specs.Literal.{IsWithin}
use Rattle.route_reach.specs.SinkClauses.{slot_lits}
use Rattle.route_reach.proofs.sinks.SinkReach.fill_sink.Given as goal

abbrev pub invariant-loop-slot : goal.invariant-loop-slot
invariant-loop-slot l = record {
  lits : l.row ≡ flat_map (slot_lits l.self.variables.wires l.self.variables.reach l.self.width
      l.opened) (take l.slot-index l.slot-items);
  few : length l.row ≤ l.slot-index * 64;
  within : All (IsWithin (l.self.variables.wires * (l.self.variables.reach + 2))) l.row;
}
