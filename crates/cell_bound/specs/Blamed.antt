-- The nets of a window that a refutation of its clauses blames: those of which it uses a demand.
use Rattle.std.specs.Prelude.{ℕ, Bool, List, [], filter, length, map, slice_get, slice_index_or}
use Rattle.std.specs.List.{list_any}
use Rattle.std.specs.Option.{option_map_or}
use Rattle.sat_clause.specs.Formula.{Cnf}
use Rattle.sat_clause.specs.Literal.{Clause}
use Rattle.sat_clause.specs.Step.{Step}
use Rattle.cell_clauses.specs.Clauses.{below}
use Rattle.cell_clauses.specs.Demands.{demands}
use Rattle.cell_clauses.specs.Frames.{Frame}
use Rattle.cell_clauses.specs.declared.window.WindowNet.{WindowNet}
use Rattle.route_core.specs.Blamed.{used_places}

-- the clause at a position demands something of the net at place k
abbrev pub demands_at : Frame → List Clause → (k at : ℕ) → Bool
demands_at f clauses k at = demands f k (slice_index_or clauses at [])

-- a clause that the log uses does
abbrev pub is_blamed : Frame → Cnf → List Step → (k : ℕ) → Bool
is_blamed f formula log k =
    list_any (demands_at f formula.clauses k) (used_places (length formula.clauses) log)

-- the number in the netlist of the net at place k
abbrev pub number_at : Frame → (k : ℕ) → ℕ
number_at f k = option_map_or (λ (net : WindowNet). net.number) (slice_get f.nets k) 0

-- the numbers of these nets, in the order of the window
abbrev pub blamed_nets : Frame → Cnf → List Step → List ℕ
blamed_nets f formula log =
    map (number_at f) (filter (is_blamed f formula log) (below (length f.nets)))
