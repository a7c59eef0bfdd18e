-- the lines of the slots so far are passed on
use Rattle.std.proofs.Common.{◌≡◌, true, length, take}
use Rattle.std.specs.Prelude.{flat_map}
use Rattle.desk_io.specs.Writing.{PassesOn}
use Rattle.fpga_types.specs.Slots.{slots}
use Rattle.route_encode.specs.Encoding.{below}
use Rattle.run_clauses.specs.VariableNames.{lines_of_slot}
use Rattle.run_clauses.proofs.variable_names.write_names.Given as goal

abbrev pub invariant-loop-number : goal.invariant-loop-number
invariant-loop-number g l = record {
  passed : PassesOn (g.S.Shelf.state l.initial.shelf) l.initial.writer
      (flat_map (lines_of_slot l.width l.problem.route)
      (take l.number (below (length (slots l.problem.route))))) (g.S.Shelf.state l.shelf) l.writer;
  created : (g.S.Shelf.state l.shelf).is_created ≡ true;
}
