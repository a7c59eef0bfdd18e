use Rattle.std.proofs.Common.{rules, arith, ◌+◌, [], append-nil}
use Rattle.std.specs.Prelude.{All}
use Rattle.std.proofs.lemmas.List.Elements.{All-cons, All-nil}
use Rattle.sat_clause.specs.Literal.{IsWithin}
use Rattle.sat_text.specs.Printed.{clause_text}
use Rattle.sat_text.proofs.RowsLemmas.{between-one, rows-fail}
use Rattle.sat_text.proofs.clauses.write_some.Goals as goal

pub returns-in_default-write_from-clause-err : goal.returns-in_default-write_from-clause-err
returns-in_default-write_from-clause-err g c =
    let clauses = c.args.formula.now.cnf.clauses in
    rows-fail clause_text clauses c.args.first c.end_of_rows-behind.result
    c.end_of_rows-behind.ensures.from c.args.writer.now
    (rw c.in-Some.ensures.put at c.in_default-write_from.ensures)

pub returns-in_default-write_row-clause-err : goal.returns-in_default-write_row-clause-err
returns-in_default-write_row-clause-err g c =
    let clauses = c.args.formula.now.cnf.clauses in
    let one = between-one clauses c.args.first c.clause.result.now c.clause.ensures.value in
    rows-fail clause_text clauses c.args.first (c.args.first + 1) (omega arith) c.args.writer.now
    (rw (one, append-nil) c.in_default-write_row.ensures)

pub overflow_add-result : goal.overflow_add-result
overflow_add-result g c = search (rules, c.requires.within, c.len.ensures)

pub returns-clause-ok : goal.returns-clause-ok
returns-clause-ok g c =
    let clauses = c.args.formula.now.cnf.clauses in
    let one = between-one clauses c.args.first c.clause.result.now c.clause.ensures.value in
    record {
      more = search rules;
      most = search rules;
      passed = rw (one, append-nil) c.in-Ok-write_row.ensures;
      within = rw one (All-cons (All (IsWithin c.args.formula.now.cnf.vars)) c.clause.result.now []
          c.clause.ensures.within (All-nil (All (IsWithin c.args.formula.now.cnf.vars))));
    }
