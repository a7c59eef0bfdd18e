-- How many deletions a log has, and when the next one may come.
use Rattle.std.specs.Prelude.{◌≡◌, ℕ, suc, ◌+◌, ◌*◌, nat_le, Bool, List}
use Rattle.sat_clause.specs.Learned.{added_count, added_since, deletions}
use Rattle.sat_clause.specs.Step.{Step}

-- how many deletion steps there are, and how many clauses were added before the last of them
pub record DeletionState : Type 0 where
  pub count : ℕ
  pub added : ℕ

-- the deletions of a log are these
pub record AreDeletions (log : List Step) (d : DeletionState) : Type 0 where
  pub count : deletions log ≡ d.count
  pub added : d.added + added_since 0 log ≡ added_count log

-- the next one is the k-th, and 1000 k clauses more are added than before the last one
abbrev pub may_come : DeletionState → (added : ℕ) → Bool
may_come d added = nat_le (d.added + 1000 * suc d.count) added
