-- Where the variables and the clauses of a level of a count stand: those of a slot follow one
-- another, and so do the clauses.
use Rattle.std.specs.Prelude.{ℕ, zero, suc, ◌+◌, ◌*◌, List, [], ◌∷◌, map, slice_index}
use Rattle.std.specs.List.{range_with_len}
use Rattle.sat_clause.specs.Literal.{Clause}
use Rattle.sat_count.specs.Names.{no, yes}

-- one of so many variables from this one on is true
abbrev pub some_clause : (first count : ℕ) → Clause
some_clause first count = map yes (range_with_len first count)

-- not both variables are true
abbrev pub not_both : (a b : ℕ) → Clause
not_both a b = no a ∷ no b ∷ []

-- how many pairs of places have their higher one below this
abbrev pub pairs_below : ℕ → ℕ
pairs_below zero = zero
pairs_below (suc higher) = pairs_below higher + higher

-- the place of a track of two slots among those of all: by the higher slot, then the lower one
unfoldable pub pair_place : (tracks lower higher track : ℕ) → ℕ
pair_place tracks lower higher track = (pairs_below higher + lower) * tracks + track

-- the variable by which the slot at a place has a track
abbrev pub name : List ℕ → (place track : ℕ) → ℕ
name firsts place track = slice_index firsts place + track

-- the id of the clause that the slot at a place has a track, of those behind an id
abbrev pub some_id : (behind place : ℕ) → ℕ
some_id behind place = behind + place + 1

-- the id of the clause that two slots do not both have a track: it stands behind those of the slots
abbrev pub apart_id : (behind tracks lower higher track : ℕ) → ℕ
apart_id behind tracks lower higher track =
    behind + (tracks + 1) + pair_place tracks lower higher track + 1
