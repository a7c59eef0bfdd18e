-- What writes hints is to contracts.
use Rattle.std.specs.Prelude.{ℕ, ◌≤◌, ℤ, List}
use Rattle.sat_clause.specs.declared.limits.TheConstants.{LITERAL_LIMIT}
use Rattle.sat_check.specs.FalseStore.{FalseState, IsReady}

-- the number of variables, and the hints that were written last
pub record HintState : Type 0 where
  pub vars : ℕ
  pub hints : List ℤ

-- both sets are empty ones, for literals of the same variables
pub record AreReady (falses met : FalseState) : Type 0 where
  pub none_false : IsReady falses.size falses
  pub none_met : IsReady falses.size met
  pub small : falses.size ≤ LITERAL_LIMIT
