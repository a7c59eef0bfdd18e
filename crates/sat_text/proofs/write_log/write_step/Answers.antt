use Rattle.std.proofs.Common.{◌++◌, pos}
use Rattle.std.specs.Prelude.{codes, flat_map}
use Rattle.desk_io.proofs.WritingLaws.{fails-longer, passes-then-writes}
use Rattle.sat_text.specs.Printed.{closed_text, literal_text, number_text}
use Rattle.sat_text.proofs.write_log.write_step.Goals as goal

pub returns-then-step : goal.returns-then-step
returns-then-step g c =
    rw c.if-step.true (passes-then-writes (closed_text c.args.step.now.hints.now) _ _ _
    (rw c.deletion_start.ensures at c.in-Ok.ensures) c.write_row.ensures)

pub returns-in_default-write_short : goal.returns-in_default-write_short
returns-in_default-write_short g c =
    rw c.if-step.false (fails-longer c.args.writer.now (number_text (pos c.args.step.now.id))
    ((flat_map literal_text c.args.step.now.lits.now ++ codes "0 ")
    ++ closed_text c.args.step.now.hints.now)
    (rw c.id_start.ensures at c.in_default-write_short.ensures))

pub returns : goal.returns
returns g c =
    rw c.if-step.false (passes-then-writes
    ((flat_map literal_text c.args.step.now.lits.now ++ codes "0 ")
    ++ closed_text c.args.step.now.hints.now) _ _ _
    (rw c.id_start.ensures at c.in-Ok-write_short.ensures) c.write_clause_and_hints.ensures)
