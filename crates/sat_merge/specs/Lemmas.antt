-- Lemmas: clauses that merged ones are, logged before what a search through the merged ones
-- learned.
use Rattle.std.specs.Prelude.{◌≡◌, suc, Bool, List, length}
use Rattle.sat_clause.specs.declared.literal.Lit.{Lit}
use Rattle.sat_clause.specs.Formula.{Cnf}
use Rattle.sat_clause.specs.Judge.{inputs as inputs_of}
use Rattle.sat_clause.specs.Learned.{Relevant, added_count, deletions}
use Rattle.sat_clause.specs.Step.{Step}
use Rattle.sat_core.specs.SearchLog.{AreNumbered}
use Rattle.sat_core.specs.Stands.{IsOpenLog, live_after}
use Rattle.sat_merge.specs.Moved.{AreAtHand, AreCovered, PlaceState}

-- the log adds so many new clauses, which follow by hints that they need, and deletes none; each
-- that is live has all literals of a merged one, and the merged ones that have a place stand there
pub record AreLemmas
    (keeps : Lit → Bool) (formula merged : Cnf) (p : PlaceState) (log : List Step) : Type 0 where
  pub inputs : p.inputs ≡ length formula.clauses
  pub many : added_count log ≡ p.lemmas
  pub none_deleted : deletions log ≡ 0
  pub open_log : IsOpenLog formula log
  pub numbered : AreNumbered (suc (length formula.clauses)) log
  pub relevant : Relevant formula log
  pub covered : AreCovered keeps p.inputs (inputs_of merged) (live_after formula log)
  pub hand : AreAtHand p (inputs_of merged) (live_after formula log)
