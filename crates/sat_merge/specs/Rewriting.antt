-- The log of a search through other clauses, while it is rewritten step by step.
use Rattle.std.specs.Prelude.{Bool, List}
use Rattle.sat_clause.specs.declared.literal.Lit.{Lit}
use Rattle.sat_clause.specs.Formula.{Cnf}
use Rattle.sat_clause.specs.Step.{Step}
use Rattle.sat_check.specs.Finder.{Finds}
use Rattle.sat_check.specs.LiveStore.{LiveState, live_at}
use Rattle.sat_core.specs.Stands.{live_after}
use Rattle.sat_merge.specs.Rewritten.{IsRewritten}

-- these steps are rewritten to the log, and what is live behind it is at hand
pub record IsRewriting
    (keeps : Lit → Bool) (formula : Cnf) (steps : List Step) (live : LiveState) (log : List Step)
    : Type 0 where
  pub rewritten : IsRewritten keeps formula steps log
  pub found : Finds (live_at live) (live_after formula log)
