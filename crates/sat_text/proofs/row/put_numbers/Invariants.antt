-- the numbers from i on stand before the end, and there is room for the others before them
use Rattle.std.proofs.Common.{◌≡◌, ◌≤◌, ◌*◌, ◌++◌, drop}
use Rattle.std.specs.Prelude.{flat_map}
use Rattle.sat_text.specs.Printed.{number_text}
use Rattle.sat_text.specs.declared.row.TheConstants.{NUMBER_ROOM}
use Rattle.sat_text.proofs.row.put_numbers.Given as goal

abbrev pub invariant-loop-i : goal.invariant-loop-i
invariant-loop-i g l = record {
  enough : l.i * NUMBER_ROOM ≤ l.start;
  before : l.start ≤ l.end;
  put : drop l.start l.room
      ≡ flat_map (λ n. number_text (g.T.AsNumber.number n)) (drop l.i l.numbers)
      ++ drop l.end l.initial.room;
}
