-- Unit propagation along given hints, and where that meets no conflict, resolution on the first
-- literal of the clause, as in full LRAT.
use Rattle.std.specs.Prelude.{ℕ, ◌==◌, Bool, false, not, ◌&&◌, ◌||◌, if◌then◌else◌, ℤ, pos, negsuc, List, [], ◌∷◌, ◌++◌, filter, Option, None, Some}
use Rattle.std.specs.List.{list_any}
use Rattle.std.specs.Option.{option_or}
use Rattle.std.specs.Ordering.{int_eq}
use Rattle.sat_clause.specs.declared.literal.Lit.{Lit}
use Rattle.sat_clause.specs.declared.cause.Cause.{Cause}
use Rattle.sat_clause.specs.declared.cause.Cause.TheVariants.{NotLive, NoConflict, MissingGroup, WrongGroup, NoConflictInGroup}
use Rattle.sat_clause.specs.Literal.{Clause, negation, is_among}
use Rattle.sat_clause.specs.Live.{Live, clause_at, named}
use Rattle.sat_clause.specs.Rup.{after_conflict, follow}
use Rattle.sat_rat.specs.Groups.{Group, groups_of}

-- why the hints before the first negative one do not lead from these false literals to a conflict
-- behind which no hint stands; where they meet none, what is said of the literals that are then
-- false
abbrev pub lead : Live → List Lit → List ℤ → (List Lit → Option Cause) → Option Cause
lead live set [] end = end set
lead live set (pos n ∷ hints) end =
    follow set (named live (pos n)) hints (λ l. lead live (negation l ∷ set) hints end)
lead live set (negsuc n ∷ hints) end = end set

-- the id is one of these
abbrev pub has_id : List ℕ → ℕ → Bool
has_id ids id = list_any (λ k. id == k) ids

-- the literals of a clause but this one
abbrev pub others : Lit → Clause → Clause
others l clause = filter (λ m. not (int_eq m.code l.code)) clause

-- a literal of the clause other than this one is true: its negation is among the false ones
abbrev pub is_satisfied : List Lit → Lit → Clause → Bool
is_satisfied set l clause =
    list_any (λ m. not (int_eq m.code l.code) && is_among set (negation m)) clause

-- a live clause with the literal has none of these ids; of the entries with an id the first counts
abbrev pub is_left_out : Lit → List ℕ → Live → Bool
is_left_out l ids [] = false
is_left_out l ids (entry ∷ live) =
    not (has_id ids entry.0) && is_among entry.1 l || is_left_out l (entry.0 ∷ ids) live

-- why the hints of a group do not show that the clause without the literal l follows
abbrev pub resolvent_fault : Live → List Lit → Lit → Clause → List ℤ → Option Cause
resolvent_fault live set l clause hints =
    if is_satisfied set l clause then after_conflict hints
    else lead live (others l clause ++ set) hints (λ _. Some NoConflictInGroup)

-- the same where a group for the clause may not be due
abbrev pub group_fault : Live → List Lit → Lit → List ℕ → Group → Option Clause → Option Cause
group_fault live set l had group None = Some NotLive
group_fault live set l had group (Some clause) =
    if has_id had group.id || not (is_among clause l) then Some WrongGroup
    else resolvent_fault live set l clause group.hints

-- why the groups, behind those for these ids, are not one good group for each live clause with l
abbrev pub groups_fault : Live → List Lit → Lit → List ℕ → List Group → Option Cause
groups_fault live set l had [] = if is_left_out l had live then Some MissingGroup else None
groups_fault live set l had (group ∷ groups) =
    option_or (group_fault live set l had group (clause_at live group.id))
    (groups_fault live set l (had ++ group.id ∷ []) groups)

-- the same by the clause that is added, where the hints before the groups met no conflict
abbrev pub resolution_fault : Live → Clause → List Group → List Lit → Option Cause
resolution_fault live [] [] set = Some NoConflict
resolution_fault live [] (group ∷ groups) set = Some WrongGroup
resolution_fault live (l ∷ ls) groups set = groups_fault live set (negation l) [] groups

-- why the hints do not justify the clause; none where they do
abbrev pub full_rup : Live → Clause → List ℤ → Option Cause
full_rup live clause hints =
    lead live clause hints (resolution_fault live clause (groups_of hints))
