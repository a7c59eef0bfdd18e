-- the texts of the first steps are passed on
use Rattle.std.proofs.Common.{◌≡◌, true, take}
use Rattle.std.specs.Prelude.{flat_map}
use Rattle.desk_io.specs.Writing.{PassesOn}
use Rattle.sat_text.specs.Printed.{step_text}
use Rattle.sat_text.proofs.write_log.LratTextPrintsLog.print.Given as goal

abbrev pub invariant-loop-i : goal.invariant-loop-i
invariant-loop-i g l = record {
  passed : PassesOn (g.S.Shelf.state l.initial.shelf) l.initial.writer
      (flat_map step_text (take l.i l.log.steps)) (g.S.Shelf.state l.shelf) l.writer;
  created : (g.S.Shelf.state l.shelf).is_created ≡ true;
}
