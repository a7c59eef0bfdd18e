use Rattle.std.proofs.Common.{◌++◌}
use Rattle.desk_io.proofs.WritingLaws.{fails-longer, passes-then-writes}
use Rattle.run_clauses.specs.VariableNames.{before_net, track_said}
use Rattle.run_clauses.proofs.variable_names.write_line.Goals as goal

pub returns-in_default : goal.returns-in_default
returns-in_default g c =
    fails-longer c.args.writer.now (before_net c.args.literal)
    (c.args.name.now ++ track_said c.args.cell c.args.track)
    (rw c.before_net.ensures at c.in_default.ensures)

pub returns : goal.returns
returns g c =
    passes-then-writes (c.args.name.now ++ track_said c.args.cell c.args.track) _ _ _
    (rw c.before_net.ensures at c.in-Ok.ensures) c.write_end.ensures
