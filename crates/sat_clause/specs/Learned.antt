-- What a search logs: new clauses, few deletions, and hints that are used.
use Rattle.std.specs.Prelude.{◌≡◌, ◌≢◌, ℕ, suc, ◌*◌, ◌≤◌, ℤ, List, [], ◌∷◌, take, slice_get, All, Any, AllPairs, Contains, fold, Some, None, ⊤}
use Rattle.sat_clause.specs.declared.literal.Lit.{Lit}
use Rattle.sat_clause.specs.Literal.{Clause, IsWithin, negation, variable}
use Rattle.sat_clause.specs.Formula.{Cnf}
use Rattle.sat_clause.specs.Live.{Live, clause_at, named}
use Rattle.sat_clause.specs.declared.reading.Reading.TheVariants.{Unit}
use Rattle.sat_clause.specs.Rup.{Reads}
use Rattle.sat_clause.specs.Step.{Step, Added, Erased}
use Rattle.sat_clause.specs.Judge.{inputs, after, erase_fault}

-- the live clauses just before the step at a position
abbrev pub live_before : Cnf → List Step → ℕ → Live
live_before formula log k = fold after (inputs formula) (take k log)

-- each added clause, with the live clauses before it
abbrev pub EachAdded : (Live → Clause → List ℤ → Type 0) → Cnf → List Step → Type 0
EachAdded P formula log = (k id : ℕ) (clause : Clause) (hints : List ℤ) →
    slice_get log k ≡ Some (Added id clause hints) → P (live_before formula log k) clause hints

-- each deletion, with the steps before it
abbrev pub EachErased : (List Step → List ℤ → Type 0) → List Step → Type 0
EachErased P log = (k id : ℕ) (ids : List ℤ) →
    slice_get log k ≡ Some (Erased id ids) → P (take k log) ids

-- a clause of the variables 1 to n, none of them twice
pub record IsSimple (n : ℕ) (clause : Clause) : Type 0 where
  pub within : All (IsWithin n) clause
  pub once : AllPairs (λ a b. variable a ≢ variable b) clause

-- no live clause has all its literals in this one
abbrev pub IsFresh : Live → Clause → Type 0
IsFresh live clause = (id : ℕ) (old : Clause) →
    clause_at live id ≡ Some old → ¬ All (Contains clause) old

-- each added clause that is not empty is of the formula's variables, none twice, and is fresh
abbrev pub LearnedNew : Cnf → List Step → Type 0
LearnedNew formula log =
    EachAdded (λ live clause hints.
    clause ≢ [] → IsSimple formula.vars clause × IsFresh live clause) formula log

-- the number of deletion steps
abbrev pub deletions : List Step → ℕ
deletions [] = 0
deletions (Added id clause hints ∷ steps) = deletions steps
deletions (Erased id ids ∷ steps) = suc (deletions steps)

-- how many clauses the steps add
abbrev pub added_count : List Step → ℕ
added_count [] = 0
added_count (Added id clause hints ∷ steps) = suc (added_count steps)
added_count (Erased id ids ∷ steps) = added_count steps

-- the added clauses have the ids from this one on
abbrev pub AreAddedFrom : ℕ → List Step → Type 0
AreAddedFrom id [] = ⊤
AreAddedFrom id (Added new clause hints ∷ steps) = (new ≡ id) × AreAddedFrom (suc id) steps
AreAddedFrom id (Erased own ids ∷ steps) = AreAddedFrom id steps

-- how many clauses were added since the last deletion step, or with n before them since the start
abbrev pub added_since : ℕ → List Step → ℕ
added_since n [] = n
added_since n (Added id clause hints ∷ steps) = added_since (suc n) steps
added_since n (Erased id ids ∷ steps) = added_since 0 steps

-- a deletion names live added clauses, and the k-th comes 1000 k added clauses after the one before
abbrev pub Sparse : List Step → Type 0
Sparse log = EachErased (λ before ids.
    (erase_fault (fold after [] before) ids ≡ None)
    × (1000 * suc (deletions before) ≤ added_since 0 before)) log

-- the clause that a hint names has the literal
abbrev pub HintHas : Live → Lit → ℤ → Type 0
HintHas live l h = (clause : Clause) × (named live h ≡ Some clause) × Contains clause l

-- each hint but the last makes a literal true whose negation stands in the clause of a later hint
abbrev pub EachIsUsed : Live → List Lit → List ℤ → Type 0
EachIsUsed live set [] = ⊤
EachIsUsed live set (h ∷ []) = ⊤
EachIsUsed live set (h ∷ next ∷ hints) = (l : Lit) × Reads set (named live h) (Unit l)
    × Any (HintHas live (negation l)) (next ∷ hints)
    × EachIsUsed live (negation l ∷ set) (next ∷ hints)

-- each literal of the clause stands in the clause of a hint, and each hint is used
pub record IsRelevant (live : Live) (clause : Clause) (hints : List ℤ) : Type 0 where
  pub each_literal : All (λ l. Any (HintHas live l) hints) clause
  pub each_hint : EachIsUsed live clause hints

-- each added clause follows by hints that it needs
abbrev pub Relevant : Cnf → List Step → Type 0
Relevant formula log = EachAdded IsRelevant formula log

-- the same literals, in whatever order and however often
abbrev pub SameLiterals : Clause → Clause → Type 0
SameLiterals c d = All (Contains d) c × All (Contains c) d

-- clauses of n variables, none twice in a clause, none empty, and no two with the same literals
pub record AreDifferent (n : ℕ) (clauses : List Clause) : Type 0 where
  pub simple : All (IsSimple n) clauses
  pub not_empty : All (λ c. c ≢ []) clauses
  pub apart : AllPairs (λ c d. ¬ SameLiterals c d) clauses
