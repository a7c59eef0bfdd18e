use Rattle.std.proofs.Common.{Some}
use Rattle.sat_check.specs.DerivedStore.{derived_at}
use Rattle.sat_check.proofs.FinderLaws.{changes_same}
use Rattle.sat_check.proofs.derived_clauses.DerivedClauses.put.Goals as goal

pub returns-clause-ok : goal.returns-clause-ok
returns-clause-ok c =
    changes_same (derived_at c.args.self.now) (derived_at c.reach.new.self)
    (derived_at c.place.new.self) c.args.id (Some c.args.clause.items) c.reach.ensures.kept
    c.in-Ok-place.ensures.ok
