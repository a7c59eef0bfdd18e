use Rattle.desk_io.proofs.WritingLaws.{passes-none}
use Rattle.run_clauses.proofs.variable_names.write_names_if.Goals as goal

pub returns : goal.returns
returns g c = rw c.if-asked.false (passes-none _ _)
