-- How often literals stand in live clauses.
use Rattle.std.specs.Prelude.{◌≡◌, ℕ, zero, suc, ◌+◌, if◌then◌else◌, List, [], ◌∷◌, slice_index_or, Option, None, Some}
use Rattle.std.specs.Ordering.{int_eq}
use Rattle.sat_clause.specs.declared.literal.Lit.{Lit}
use Rattle.sat_clause.specs.Literal.{Clause}
use Rattle.sat_clause.specs.Live.{Live}
use Rattle.sat_check.specs.FalseStore.{slot_of}
use Rattle.sat_rat.specs.FullRup.{has_id}

-- 1 where the literals are the same
abbrev pub one_if : Lit → Lit → ℕ
one_if l m = if int_eq m.code l.code then 1 else 0

-- how often the literal stands in the clause
abbrev pub times : Lit → Clause → ℕ
times l [] = 0
times l (m ∷ ls) = one_if l m + times l ls

-- how often it stands in a clause that may not be there
abbrev pub times_in : Lit → Option Clause → ℕ
times_in l None = 0
times_in l (Some c) = times l c

-- how often it stands in live clauses with none of these ids; of the entries with an id the first
-- counts
abbrev pub held : Lit → List ℕ → Live → ℕ
held l ids [] = 0
held l ids (entry ∷ live) =
    (if has_id ids entry.0 then 0 else times l entry.1) + held l (entry.0 ∷ ids) live

-- the count of a literal, which stands at its place
abbrev pub count_at : List ℕ → Lit → ℕ
count_at counts l = slice_index_or counts (slot_of l.code) 0

-- each literal has as many as the live clauses hold
abbrev pub AreCounted : List ℕ → Live → Type 0
AreCounted counts live = (l : Lit) → count_at counts l ≡ held l [] live

-- the ids from 1 to a number
abbrev pub ids_to : ℕ → List ℕ
ids_to zero = []
ids_to (suc n) = suc n ∷ ids_to n

-- an id before these, if there is one
abbrev pub with_id : Option ℕ → List ℕ → List ℕ
with_id None ids = ids
with_id (Some id) ids = id ∷ ids

-- the ids at so many positions before these
abbrev pub with_ids : (ℕ → Option ℕ) → ℕ → List ℕ → List ℕ
with_ids id_at zero ids = ids
with_ids id_at (suc k) ids = with_id (id_at k) (with_ids id_at k ids)
