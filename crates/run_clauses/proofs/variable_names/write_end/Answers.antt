use Rattle.desk_io.proofs.WritingLaws.{fails-longer, passes-then-writes}
use Rattle.run_clauses.specs.VariableNames.{track_said}
use Rattle.run_clauses.proofs.variable_names.write_end.Goals as goal

pub returns-in_default : goal.returns-in_default
returns-in_default g c =
    fails-longer c.args.writer.now c.args.name.now (track_said c.args.cell c.args.track)
    c.in_default.ensures

pub returns : goal.returns
returns g c =
    passes-then-writes (track_said c.args.cell c.args.track) _ _ _ c.in-Ok.ensures
    (rw c.track_said.ensures at c.write_side.ensures)
