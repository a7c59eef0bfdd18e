use Rattle.sat_check.proofs.DerivedLaws.{none_derived}
use Rattle.sat_check.proofs.derived_clauses.DerivedClauses.new.Goals as goal

pub returns-clause-none : goal.returns-clause-none
returns-clause-none c = λ id. rw (c.new.ensures.items, c.new-2.ensures.empty)
    (none_derived c.args.first 0 id)
