-- Groups of tracks in the order in which a row of slots comes to them: what it means, the clauses
-- that say it, and that nothing is lost by them. Crawford, Ginsberg, Luks and Roy call such clauses
-- symmetry-breaking predicates; those for values that are alike are due to Law and Lee.
use Rattle.std.specs.Prelude.{◌↔◌, ℕ, suc, ◌-◌, ◌<◌, ◌==◌, nat_lt, List, [], ◌∷◌, ◌++◌, length, map, filter, flat_map, take, drop, All, Contains, slice_index, if◌then◌else◌}
use Rattle.std.specs.List.{enumerate_from}
use Rattle.fpga_types.specs.Problem.{RoutingProblem}
use Rattle.fpga_types.specs.Slots.{slots}
use Rattle.fpga_types.specs.declared.arch.Pattern.{Pattern}
use Rattle.sat_clause.specs.Formula.{Cnf, IsTrueClause, IsUnsat}
use Rattle.sat_clause.specs.Literal.{Clause}
use Rattle.route_encode.specs.Bits.{bits}
use Rattle.route_encode.specs.Encoding.{below, cnf_of, has, lacks}
use Rattle.route_encode.specs.Exact.{IsLegalRouting, IsRoutableAt, IsUnroutableAt}
use Rattle.problem_facts.specs.Groups.{group_count, is_exchangeable, track_group}

-- each of these is a slot of the problem
abbrev pub AreSlots : RoutingProblem → List ℕ → Type 0
AreSlots p row = All (λ s. s < length (slots p.route)) row

-- one of the row's first i slots has a track of the group
abbrev pub IsUsed : (tracks row : List ℕ) (i : ℕ) → List ℕ → Type 0
IsUsed tracks row i group =
    (j : ℕ) × (j < i) × Contains group (slice_index tracks (slice_index row j))

-- a slot of the row has a track of a later group only behind a slot with one of the group before,
-- and has another track than the first of a group only behind a slot with one of that group
pub record AreInOrder (pattern : Pattern) (width : ℕ) (row tracks : List ℕ) : Type 0 where
  pub groups : (i p : ℕ) → i < length row → suc p < group_count pattern width
      → Contains (track_group pattern width (suc p)) (slice_index tracks (slice_index row i))
      → IsUsed tracks row i (track_group pattern width p)
  pub turns : (i p : ℕ) → i < length row → p < group_count pattern width
      → Contains (drop 1 (track_group pattern width p)) (slice_index tracks (slice_index row i))
      → IsUsed tracks row i (track_group pattern width p)

-- slot s has track t only where one of the earlier slots has a track of the group
abbrev pub only_behind : (width : ℕ) → (earlier group : List ℕ) → (s t : ℕ) → Clause
only_behind width earlier group s t =
    lacks width s t ∷ flat_map (λ e. map (has width e) group) earlier

-- slot s has a track of group p, if that is not the first, only behind one of the group before, and
-- another than its first track only behind one of this group
abbrev pub group_clauses : Pattern → (width : ℕ) → (earlier : List ℕ) → (s p : ℕ) → List Clause
group_clauses pattern width earlier s p =
    (if p == 0 then [] else map (only_behind width earlier (track_group pattern width (p - 1)) s)
    (track_group pattern width p))
    ++ map (only_behind width earlier (track_group pattern width p) s)
    (drop 1 (track_group pattern width p))

-- the same of each group
abbrev pub slot_clauses : Pattern → (width : ℕ) → (earlier : List ℕ) → (s : ℕ) → List Clause
slot_clauses pattern width earlier s =
    flat_map (group_clauses pattern width earlier s) (below (group_count pattern width))

-- the same of each slot of a row, behind those before it
abbrev pub precedence : Pattern → ℕ → List ℕ → List Clause
precedence pattern width row =
    flat_map (λ at. slot_clauses pattern width (take at.0 row) at.1) (enumerate_from 0 row)

-- the clauses of a problem, followed by those that keep the groups in the order of a row of slots,
-- where groups may change places
abbrev pub ordered_cnf : ℕ → RoutingProblem → List ℕ → Cnf
ordered_cnf width p row = record {
  vars = (cnf_of width p).vars;
  clauses = (cnf_of width p).clauses
      ++ (if is_exchangeable width p then precedence p.arch.pattern width row else []);
}

-- the row where groups may change places, and none elsewhere
abbrev pub ordered_row : ℕ → RoutingProblem → List ℕ → List ℕ
ordered_row width p row = if is_exchangeable width p then row else []

-- those of these numbers that are slots of the problem
abbrev pub slots_among : RoutingProblem → List ℕ → List ℕ
slots_among p row = filter (λ s. nat_lt s (length (slots p.route))) row

-- some tracks make a legal routing in which the row comes to the groups in their order
abbrev pub IsOrderedRoutableAt : ℕ → RoutingProblem → List ℕ → Type 0
IsOrderedRoutableAt width p row = (tracks : List ℕ) × IsLegalRouting width p tracks
    × AreInOrder p.arch.pattern width row tracks

-- there is a legal routing exactly where there is one in that order
abbrev pub OrderChangesNothing : ℕ → RoutingProblem → List ℕ → Type 0
OrderChangesNothing width p row = IsRoutableAt width p ↔ IsOrderedRoutableAt width p row

-- of a legal routing the clauses say exactly this order
abbrev pub ClausesSayOrder : ℕ → RoutingProblem → List ℕ → Type 0
ClausesSayOrder width p row = (tracks : List ℕ) → IsLegalRouting width p tracks
    → All (IsTrueClause (bits width tracks)) (precedence p.arch.pattern width row)
    ↔ AreInOrder p.arch.pattern width row tracks

-- no tracks make a legal routing, in that order or another, exactly where no values satisfy the
-- clauses with the order
abbrev pub OrderedSaysUnroutable : ℕ → RoutingProblem → List ℕ → Type 0
OrderedSaysUnroutable width p row = IsUnsat (ordered_cnf width p row) ↔ IsUnroutableAt width p
