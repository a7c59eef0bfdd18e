use Rattle.desk_io.proofs.WritingLaws.{passes-then-writes}
use Rattle.sat_text.specs.Printed.{closed_text}
use Rattle.sat_text.proofs.write_log.write_clause_and_hints.Goals as goal

pub returns : goal.returns
returns g c =
    passes-then-writes (closed_text c.args.hints.now) _ _ _ c.in-Ok.ensures c.write_row-2.ensures
