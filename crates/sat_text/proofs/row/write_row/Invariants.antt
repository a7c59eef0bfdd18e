-- the front part of the numbers is passed on, and the others are left; the room is whole
use Rattle.std.proofs.Common.{◌≡◌, true, length}
use Rattle.sat_text.specs.Printed.{number_text}
use Rattle.sat_text.specs.declared.row.TheConstants.{ROW_ROOM}
use Rattle.sat_text.proofs.PieceLemmas.{IsPassed}
use Rattle.sat_text.proofs.row.write_row.Given as goal

abbrev pub invariant-loop-rest : goal.invariant-loop-rest
invariant-loop-rest g l = record {
  front : IsPassed (λ n. number_text (g.T.AsNumber.number n)) l.numbers
      (g.S.Shelf.state l.initial.shelf) l.initial.writer (g.S.Shelf.state l.shelf) l.writer l.rest;
  long : length l.room ≡ ROW_ROOM;
  created : (g.S.Shelf.state l.shelf).is_created ≡ true;
}

abbrev pub decreases-loop-rest : goal.decreases-loop-rest
decreases-loop-rest g l = length l.rest
