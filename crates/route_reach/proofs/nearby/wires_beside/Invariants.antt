-- the wires of the slots so far
use Rattle.std.proofs.Common.{◌≡◌, ◌*◌, ◌<◌, ◌≤◌, length, take}
use Rattle.std.specs.Prelude.{All}
use Rattle.route_reach.specs.WireClauses.{wires_beside}
use Rattle.route_reach.proofs.nearby.wires_beside.Given as goal

abbrev pub invariant-loop-other : goal.invariant-loop-other
invariant-loop-other l = record {
  listed : l.beside.items
      ≡ wires_beside l.graph l.slots (take l.other-index l.near) l.slot l.track;
  few : length l.beside.items ≤ l.other-index;
  within : All (λ b. b < length l.slots * l.width) l.beside.items;
}
