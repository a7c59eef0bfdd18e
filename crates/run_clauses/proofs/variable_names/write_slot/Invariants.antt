-- the lines of the tracks so far are passed on
use Rattle.std.proofs.Common.{◌≡◌, true, take}
use Rattle.std.specs.Prelude.{flat_map}
use Rattle.desk_io.specs.Writing.{PassesOn}
use Rattle.route_encode.specs.Encoding.{below, has}
use Rattle.run_clauses.specs.VariableNames.{name_line}
use Rattle.run_clauses.proofs.variable_names.write_slot.Given as goal

abbrev pub invariant-loop-track : goal.invariant-loop-track
invariant-loop-track g l = record {
  passed : PassesOn (g.S.Shelf.state l.initial.shelf) l.initial.writer
      (flat_map (λ track. name_line (has l.variables.width l.number track) l.name l.cell track)
      (take l.track (below l.variables.width))) (g.S.Shelf.state l.shelf) l.writer;
  created : (g.S.Shelf.state l.shelf).is_created ≡ true;
}
