-- What a method makes of a problem: its clauses, its routings, and what it means that there is one
-- or none. Nothing else here knows of an encoding.
use Rattle.std.specs.Prelude.{◌≡◌, ℕ, ◌≤◌, Bool, true, List, ⊤}
use Rattle.fpga_types.specs.declared.grid.Wire.{Wire}
use Rattle.problem_facts.specs.Crowd.{IsCrowd}
use Rattle.route_ordered.specs.Ordered.{ordered_cnf}
use Rattle.route_encode.specs.Encoding.{cnf_of}
use Rattle.route_encode.specs.Exact.{IsLegalRouting, IsUnroutableAt}
use Rattle.route_encode.specs.Good.{IsRoutingOf}
use Rattle.route_reach.specs.Encoding.{reach_cnf}
use Rattle.route_reach.specs.Good.{IsReachRoute}
use Rattle.route_reach.specs.Reach.{IsReachLegal}
use Rattle.route_reach.specs.TraceDepth.{trace_depth}
use Rattle.route_pinned.specs.Pinned.{pinned_cnf}
use Rattle.run_outcome.specs.Subject.{RoutingProblem, RouteText, Cnf, Method, Ordered, Pinned, Strictly, Within}

-- the clauses that say a routing of the problem at a width; tracks are kept in the order of this
-- crowd, where the method does so
abbrev pub clauses_by : Method → (crowd : List ℕ) → (width : ℕ) → RoutingProblem → Cnf
clauses_by Strictly crowd width p = cnf_of width p
clauses_by Pinned crowd width p = pinned_cnf width p
clauses_by (Within reach) crowd width p = reach_cnf width reach p
clauses_by Ordered crowd width p = ordered_cnf width p crowd

-- tracks are kept in the order of a crowd, or its trees are counted
abbrev pub goes_by_crowd : Method → (count : Bool) → Bool
goes_by_crowd Ordered count = true
goes_by_crowd method count = count

-- the crowd that is gone by, if one is, is one of the problem
abbrev pub IsCrowdFor : Method → (count : Bool) → (crowd : List ℕ) → RoutingProblem → Type 0
IsCrowdFor method count crowd p = goes_by_crowd method count ≡ true → IsCrowd p crowd

-- the route is a legal routing of the problem, whichever tracks were pinned or put in order to find
-- it; or it is one within the reach
abbrev pub IsRoutingBy : Method → (width : ℕ) → RoutingProblem → RouteText → Type 0
IsRoutingBy Strictly width p found = IsRoutingOf width p found
IsRoutingBy Pinned width p found = IsRoutingOf width p found
IsRoutingBy (Within reach) width p found = IsReachRoute width reach p found
IsRoutingBy Ordered width p found = IsRoutingOf width p found

-- what may make a routing of a problem: a track for each slot, in their order; within a reach wires
-- for each net
abbrev pub Witness : Method → Type 0
Witness Strictly = List ℕ
Witness Pinned = List ℕ
Witness (Within reach) = List (List Wire)
Witness Ordered = List ℕ

-- it makes a legal routing, with the pinned tracks or that order or with others, or one within the
-- reach
abbrev pub IsLegalBy : (method : Method) → (width : ℕ) → RoutingProblem → Witness method → Type 0
IsLegalBy Strictly width p tracks = IsLegalRouting width p tracks
IsLegalBy Pinned width p tracks = IsLegalRouting width p tracks
IsLegalBy (Within reach) width p sets = IsReachLegal width reach p sets
IsLegalBy Ordered width p tracks = IsLegalRouting width p tracks

-- some make a legal routing
abbrev pub HasOne : Method → (width : ℕ) → RoutingProblem → Type 0
HasOne method width p = (witness : Witness method) × IsLegalBy method width p witness

-- none make a legal routing
abbrev pub HasNone : Method → (width : ℕ) → RoutingProblem → Type 0
HasNone method width p = (witness : Witness method) → ¬ IsLegalBy method width p witness

-- where none make one within the reach of the method, which no channel line of the global route is
-- deeper than, there is none with one track in each cell either
abbrev pub CoversStrict : Method → (width : ℕ) → RoutingProblem → Type 0
CoversStrict Strictly width p = ⊤
CoversStrict Pinned width p = ⊤
CoversStrict Ordered width p = ⊤
CoversStrict (Within reach) width p = trace_depth p.route ≤ reach → IsUnroutableAt width p
