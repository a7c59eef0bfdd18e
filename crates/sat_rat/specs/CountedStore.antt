-- The live clauses, with counts of their literals once there are some: what contracts see.
use Rattle.std.specs.Prelude.{◌≡◌, ◌≤◌, ℕ, List, [], Option, Some}
use Rattle.sat_clause.specs.Live.{Live}
use Rattle.sat_check.specs.FalseStore.{FalseState}
use Rattle.sat_check.specs.Finder.{Finds}
use Rattle.sat_check.specs.LiveStore.{LiveState, live_at}
use Rattle.sat_rat.specs.Counts.{AreCounted}

-- the live clauses, and the counts
pub record CountedState : Type 0 where
  pub live : LiveState
  pub counts : Option (List ℕ)

-- these are the live clauses, and counts say how often each literal stands in them
pub record Tracks (state : CountedState) (live : Live) : Type 0 where
  pub finds : Finds (live_at state.live) live
  pub counted : (counts : List ℕ) → state.counts ≡ Some counts → AreCounted counts live

-- both sets are empty, the first has the variables of the live clauses, and the second no fewer
pub record AreReady (vars : ℕ) (first second : FalseState) : Type 0 where
  pub size : first.size ≡ vars
  pub in_second : vars ≤ second.size
  pub empty : first.set ≡ []
  pub empty_second : second.set ≡ []
