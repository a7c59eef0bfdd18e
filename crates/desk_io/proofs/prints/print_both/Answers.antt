use Rattle.desk_io.proofs.WritingLaws.{fails-longer, passes-then-writes}
use Rattle.desk_io.proofs.prints.print_both.Goals as goal

pub returns-in_default-clause-written : goal.returns-in_default-clause-written
returns-in_default-clause-written g c =
    fails-longer c.args.writer.now (g.P.Prints.text c.args.item.now)
    (g.Q.Prints.text c.args.item.now) c.in_default.ensures.written

pub returns-clause-written : goal.returns-clause-written
returns-clause-written g c =
    passes-then-writes (g.Q.Prints.text c.args.item.now) _ _ _ c.in-Ok.ensures.written
    c.print-2.ensures.written
