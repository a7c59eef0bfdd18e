-- The needed hints of a step by one walk back from the false clause.
use Rattle.std.specs.Prelude.{◌≡◌, ℤ, Bool, not, ◌&&◌, List, [], ◌∷◌, reverse}
use Rattle.std.specs.List.{list_any}
use Rattle.std.specs.Option.{option_map_or}
use Rattle.sat_clause.specs.declared.literal.Lit.{Lit}
use Rattle.sat_clause.specs.Literal.{Clause, is_among, negation}
use Rattle.sat_check.specs.Finder.{Finder, named_by}
use Rattle.route_core.specs.Needed.{Kept, kept_if, no_hints}
use Rattle.route_core.specs.Wanting.{Tells, WantedState}

-- the clause that a hint names, or an empty one
abbrev pub clause_of : Finder → ℤ → Clause
clause_of said h = option_map_or (λ c. c) (named_by said h) []

-- the negation of a literal of the clause is wanted, and none of the step's own clause
abbrev pub serves : (own wanted : List Lit) → Clause → Bool
serves own wanted clause =
    list_any (λ m. is_among wanted (negation m) && not (is_among own (negation m))) clause

-- back from the last hint, which is kept: each before it whose clause serves those behind it
abbrev pub kept_back : Finder → Clause → List ℤ → Kept
kept_back said own [] = no_hints
kept_back said own (h ∷ []) = record { hints = h ∷ []; wanted = clause_of said h }
kept_back said own (h ∷ next ∷ hints) =
    let rest : Kept = kept_back said own (next ∷ hints) in
    kept_if (serves own rest.wanted (clause_of said h)) h (clause_of said h) rest

-- what was kept so far, the last first, and what it wants for a step with this clause
pub record HasKept (own : Clause) (kept : Kept) (row : List ℤ) (w : WantedState) : Type 0 where
  pub row_is : row ≡ reverse kept.hints
  pub tells : Tells own kept.wanted w
