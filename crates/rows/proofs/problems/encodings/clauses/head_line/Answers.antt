use Rattle.std.proofs.Common.{length}
use Rattle.std.specs.Prelude.{codes, decimal}
use Rattle.rows.proofs.HeadLemmas.{from-left}
use Rattle.rows.proofs.problems.encodings.clauses.head_line.Goals as goal

pub returns : goal.returns
returns c =
    rw (c.in_ok-line.ensures.ok, c.vars-vars.ensures.value, c.len-clauses.ensures)
    (from-left (codes "p cnf ") (decimal c.args.formula.now.cnf.vars) (codes " ")
    (decimal (length c.args.formula.now.cnf.clauses)) (codes "\n"))
