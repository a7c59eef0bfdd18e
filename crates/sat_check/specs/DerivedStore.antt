-- Clauses by their ids, in a table of the ids from a first one on and a map of the others.
use Rattle.std.specs.Prelude.{ℕ, ◌-◌, ◌==◌, nat_lt, if◌then◌else◌, List, length, slice_get, slice_index_or, Option, None, Some, option_map, Vec}
use Rattle.std.specs.Global.{Global}
use Rattle.std.specs.Map.{lookup}
use Rattle.sat_clause.specs.declared.literal.Lit.{Lit}
use Rattle.sat_clause.specs.Literal.{Clause}
use Rattle.sat_check.specs.Finder.{Finder}

-- the cell of an id in a table of so many, of which the first has this id
abbrev pub cell_at : (first count id : ℕ) → Option ℕ
cell_at first count id =
    if nat_lt id first then None else if nat_lt (id - first) count then Some (id - first) else None

-- what stands in a cell, or else this
abbrev pub cell_or : {X : Type 0} → Option ℕ → List (Option X) → Option X → Option X
cell_or None table other = other
cell_or (Some at) table other = slice_index_or table at None

-- the literals of a clause in memory of its own
abbrev pub lits_of : Vec Lit Global → Clause
lits_of clause = clause.items

-- a table whose first cell has this id, and a map
pub record DerivedState : Type 0 where
  pub first : ℕ
  pub table : List (Option (Vec Lit Global))
  pub others : List (ℕ × Vec Lit Global)

-- the clause with an id
abbrev pub derived_at : DerivedState → Finder
derived_at state id =
    let cell = cell_at state.first (length state.table) id in
    option_map lits_of (cell_or cell state.table (lookup (λ k. id == k) state.others))

-- the key at a position in a map
abbrev pub key_at : {X : Type 0} → List (ℕ × X) → ℕ → Option ℕ
key_at entries at = option_map (λ e. e.0) (slice_get entries at)
