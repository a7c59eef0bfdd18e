use Rattle.sat_check.proofs.FinderLaws.{finds_same}
use Rattle.sat_check.proofs.unit_rule.take_within.Goals as goal

pub returns-in_default-put-clause-err : goal.returns-in_default-put-clause-err
returns-in_default-put-clause-err c = λ clauses finds.
    finds_same _ _ clauses c.in_default-put.ensures.err finds
