-- The clauses with pinned tracks, and what it is that a problem with these is as good as without.
use Rattle.std.specs.Prelude.{◌≡◌, ◌↔◌, ℕ, List, [], ◌∷◌, ◌++◌, All, map, slice_index, if◌then◌else◌}
use Rattle.std.specs.List.{enumerate_from}
use Rattle.fpga_types.specs.Problem.{RoutingProblem}
use Rattle.sat_clause.specs.Formula.{Cnf, IsUnsat}
use Rattle.sat_clause.specs.Literal.{Clause}
use Rattle.route_encode.specs.Encoding.{cnf_of, has}
use Rattle.route_encode.specs.Exact.{IsLegalRouting, IsRoutableAt, IsUnroutableAt}
use Rattle.problem_facts.specs.Full.{is_symmetric}
use Rattle.route_pinned.specs.Pins.{pin_row, pins}

-- a clause for each pin: the slot has the track
abbrev pub pin_clauses : ℕ → RoutingProblem → List Clause
pin_clauses width p = map (λ pin. has width pin.0 pin.1 ∷ []) (pins width p)

-- each slot of a row has the track that is its place there
abbrev pub row_clauses : ℕ → List ℕ → List Clause
row_clauses width row = map (λ pin. has width pin.1 pin.0 ∷ []) (enumerate_from 0 row)

-- the pinned slots where all tracks are alike, as far as there are tracks, and none elsewhere
abbrev pub pinned_row : ℕ → RoutingProblem → List ℕ
pinned_row width p = if is_symmetric width p then pin_row width p else []

-- the clauses of a problem, followed by those of the pinned slots where all tracks are alike
abbrev pub pinned_cnf : ℕ → RoutingProblem → Cnf
pinned_cnf width p = record {
  vars = (cnf_of width p).vars;
  clauses = (cnf_of width p).clauses ++ (if is_symmetric width p then pin_clauses width p else []);
}

-- each pinned slot has its track
abbrev pub ArePinned : ℕ → RoutingProblem → List ℕ → Type 0
ArePinned width p tracks = All (λ pin. slice_index tracks pin.0 ≡ pin.1) (pins width p)

-- some tracks make a legal routing in which each pinned slot has its track
abbrev pub IsPinnedRoutableAt : ℕ → RoutingProblem → Type 0
IsPinnedRoutableAt width p =
    (tracks : List ℕ) × IsLegalRouting width p tracks × ArePinned width p tracks

-- there is a legal routing exactly where there is one with the pinned tracks
abbrev pub PinsChangeNothing : ℕ → RoutingProblem → Type 0
PinsChangeNothing width p = IsRoutableAt width p ↔ IsPinnedRoutableAt width p

-- no tracks make a legal routing, pinned or not, exactly where no values satisfy the clauses with
-- pinned tracks
abbrev pub PinnedSaysUnroutable : ℕ → RoutingProblem → Type 0
PinnedSaysUnroutable width p = IsUnsat (pinned_cnf width p) ↔ IsUnroutableAt width p
