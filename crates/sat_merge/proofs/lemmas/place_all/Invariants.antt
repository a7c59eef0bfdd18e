use Rattle.std.proofs.Common.{List}
use Rattle.sat_clause.specs.Step.{Step}
use Rattle.sat_merge.specs.Representatives.{keeps}
use Rattle.sat_merge.specs.Lemmas.{AreLemmas}
use Rattle.sat_merge.specs.Rewritten.{IsMerged}
use Rattle.sat_merge.proofs.lemmas.place_all.Given as goal

-- what has an id so far stands there
abbrev pub invariant-loop-input : goal.invariant-loop-input
invariant-loop-input l = (log : List Step) →
    IsMerged (keeps l.representatives) l.formula.cnf l.merged.cnf →
    AreLemmas (keeps l.representatives) l.formula.cnf l.merged.cnf l.fn.places log →
    AreLemmas (keeps l.representatives) l.formula.cnf l.merged.cnf l.places log
