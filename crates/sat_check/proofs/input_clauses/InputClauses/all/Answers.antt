use Rattle.std.proofs.Common.{rules}
use Rattle.sat_check.proofs.InputLaws.{all_marked}
use Rattle.sat_check.proofs.input_clauses.InputClauses.all.Goals as goal

pub returns-clause-live : goal.returns-clause-live
returns-clause-live c =
    let all = c.in_ok-vec.ensures.items_if_clones_equal (λ y is. search rules) in
    rw (all, c.len.ensures) (all_marked c.args.formula.now.cnf)
