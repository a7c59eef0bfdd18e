-- What is known of a problem before a search.
use Rattle.std.specs.Prelude.{◌≡◌, ℕ, List, Some, find, length}
use Rattle.fpga_types.specs.CellNumbers.{cell_count}
use Rattle.fpga_types.specs.Problem.{RoutingProblem}
use Rattle.fpga_types.specs.Slots.{slots, steps}
use Rattle.route_encode.specs.Encoding.{below}
use Rattle.problem_facts.specs.Crowd.{IsCrowd, tree_of}
use Rattle.problem_facts.specs.Fullest.{has_most}
use Rattle.problem_facts.specs.Leads.{AreLeads, TreesState}

-- the trees, the number of the fullest cell, and a crowd
pub record FactsState : Type 0 where
  pub trees : TreesState
  pub fullest : ℕ
  pub crowd : List ℕ

-- these are the problem's: each slot has the one that stands for its tree, and the first step that
-- leads to it; the cell is the first of those that the most slots take; and the crowd is one of its
-- trees
pub record AreFactsOf (p : RoutingProblem) (f : FactsState) : Type 0 where
  pub roots : f.trees.roots ≡ tree_of p
  pub leads : AreLeads (steps p.route) 0 f.trees.leads
  pub each : length f.trees.leads ≡ length (slots p.route)
  pub fullest : find (has_most p.route.grid (slots p.route)) (below (cell_count p.route.grid))
      ≡ Some f.fullest
  pub crowd : IsCrowd p f.crowd
