-- The log of a search through merged clauses, while it is moved behind lemmas step by step.
use Rattle.std.specs.Prelude.{◌≡◌, ◌++◌, Bool, List, All}
use Rattle.sat_clause.specs.declared.literal.Lit.{Lit}
use Rattle.sat_clause.specs.Formula.{Cnf}
use Rattle.sat_clause.specs.Step.{Step}
use Rattle.sat_check.specs.Finder.{Finds}
use Rattle.sat_check.specs.LiveStore.{LiveState, live_at}
use Rattle.sat_core.specs.Stands.{live_after}
use Rattle.sat_merge.specs.Moved.{AllMove, MayMove, PlaceState}

-- these steps are moved behind the lemmas of the log, and what is live behind it is at hand
pub record IsMoving
    (keeps : Lit → Bool) (formula : Cnf) (p : PlaceState) (lemmas steps : List Step)
    (live : LiveState) (log : List Step) : Type 0 where
  pub tail : List Step
  pub parts : log ≡ lemmas ++ tail
  pub moves : AllMove p (live_after formula lemmas) steps tail
  pub may : All (MayMove keeps p) steps
  pub found : Finds (live_at live) (live_after formula log)
