-- the literals of the wires so far stand behind the first two
use Rattle.std.proofs.Common.{◌≡◌, ◌+◌, ◌*◌, take, length}
use Rattle.std.specs.Prelude.{All}
use Rattle.sat_clause.specs.Literal.{IsWithin}
use Rattle.route_reach.specs.WireClauses.{comes_clause}
use Rattle.route_reach.proofs.nearby.fill_comes.Given as goal

abbrev pub invariant-loop-near : goal.invariant-loop-near
invariant-loop-near l = record {
  row : l.row ≡ comes_clause l.variables.wires l.variables.reach l.wire
      (take l.near-index l.beside) l.joins;
  long : length l.row ≡ l.near-index + 2;
  within : All (IsWithin (l.variables.wires * (l.variables.reach + 2))) l.row;
}
