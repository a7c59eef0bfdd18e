use Rattle.std.proofs.Common.{rules}
use Rattle.std.specs.Prelude.{flat_map}
use Rattle.desk_io.proofs.WritingLaws.{fails-longer, passes-then-writes}
use Rattle.sat_text.specs.Printed.{clause_text, head_text}
use Rattle.sat_text.proofs.CnfBack.{printed_reads}
use Rattle.sat_text.proofs.write.CnfTextPrintsFormula.print.Goals as goal

pub returns-in_default-clause-written : goal.returns-in_default-clause-written
returns-in_default-clause-written g c =
    fails-longer c.args.writer.now (head_text c.args.formula.now.cnf)
    (flat_map clause_text c.args.formula.now.cnf.clauses)
    (rw c.head_text.ensures.line at c.in_default.ensures)

pub returns-clause-written : goal.returns-clause-written
returns-clause-written g c =
    passes-then-writes (flat_map clause_text c.args.formula.now.cnf.clauses) _ _ _
    (rw c.head_text.ensures.line at c.in-Ok.ensures) c.write_clauses.ensures.written

pub returns-clause-known : goal.returns-clause-known
returns-clause-known g c ok few = printed_reads c.args.formula.now.cnf (record {
  few_vars = c.head_text.ensures.few;
  few_clauses = few;
  within = search rules;
})
