-- What the clauses of a route say: the tracks of a legal routing, all of them and nothing else.
use Rattle.std.specs.Prelude.{◌≡◌, ◌↔◌, ℕ, Bool, List, length}
use Rattle.fpga_types.specs.Legal.{IsLegalFor}
use Rattle.fpga_types.specs.Problem.{RoutingProblem}
use Rattle.fpga_types.specs.Slots.{slots}
use Rattle.sat_clause.specs.Formula.{IsUnsat, Satisfies}
use Rattle.route_encode.specs.Bits.{bits}
use Rattle.route_encode.specs.Encoding.{cnf_of}

-- the tracks make a legal routing of the problem, with the switch blocks and the connection boxes
-- of its architecture
abbrev pub IsLegalRouting : ℕ → RoutingProblem → List ℕ → Type 0
IsLegalRouting width p tracks = IsLegalFor p.arch width p.route tracks

-- the bits of a number for each slot satisfy the clauses exactly where these are the tracks of a
-- legal routing
abbrev pub BitsSayLegal : ℕ → RoutingProblem → Type 0
BitsSayLegal width p =
    (tracks : List ℕ) → length tracks ≡ length (slots p.route)
    → Satisfies (bits width tracks) (cnf_of width p) ↔ IsLegalRouting width p tracks

-- all values that satisfy the clauses are the bits of the tracks of a legal routing
abbrev pub ModelsSayLegal : ℕ → RoutingProblem → Type 0
ModelsSayLegal width p =
    (values : List Bool) → Satisfies values (cnf_of width p)
    → (tracks : List ℕ) × IsLegalRouting width p tracks × (values ≡ bits width tracks)

-- some tracks make a legal routing
abbrev pub IsRoutableAt : ℕ → RoutingProblem → Type 0
IsRoutableAt width p = (tracks : List ℕ) × IsLegalRouting width p tracks

-- no tracks make a legal routing
abbrev pub IsUnroutableAt : ℕ → RoutingProblem → Type 0
IsUnroutableAt width p = (tracks : List ℕ) → ¬ IsLegalRouting width p tracks

-- no tracks make a legal routing exactly where no values satisfy the clauses
abbrev pub UnsatSaysUnroutable : ℕ → RoutingProblem → Type 0
UnsatSaysUnroutable width p = IsUnsat (cnf_of width p) ↔ IsUnroutableAt width p
