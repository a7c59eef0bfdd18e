-- The log of a search through merged clauses, moved behind lemmas: the same steps under other ids.
use Rattle.std.specs.Prelude.{◌≡◌, ◌⊎◌, ⊤, ℕ, ◌+◌, ◌<◌, ◌≤◌, nat_lt, if◌then◌else◌, ℤ, pos, negsuc, Bool, IsTrue, List, [], ◌∷◌, map, slice_index_or, All, Contains, Some}
use Rattle.sat_clause.specs.declared.literal.Lit.{Lit}
use Rattle.sat_clause.specs.Judge.{after}
use Rattle.sat_clause.specs.Literal.{Clause, is_above_zero}
use Rattle.sat_clause.specs.Live.{Live, clause_at}
use Rattle.sat_clause.specs.Step.{Step, Added, Erased}
use Rattle.sat_core.specs.Stands.{IsAbove}
use Rattle.sat_merge.specs.Rewritten.{AreKept, IsJustified}

-- the number of inputs and of lemmas, and for each input the id of the clause that it was merged
-- to, 0 where there is none
pub record PlaceState : Type 0 where
  pub inputs : ℕ
  pub lemmas : ℕ
  pub ids : List ℕ

-- the id that a merged clause has now: one behind the inputs stands behind the lemmas
abbrev pub now_of : PlaceState → ℕ → ℕ
now_of p n = if nat_lt p.inputs n then n + p.lemmas else slice_index_or p.ids n 0

-- the same of an id as a hint
abbrev pub moved_id : PlaceState → ℤ → ℤ
moved_id p (pos n) = pos (now_of p n)
moved_id p (negsuc n) = pos 0

-- the same step with these ids
abbrev pub moved : PlaceState → Step → Step
moved p (Added id clause hints) = Added (id + p.lemmas) clause (map (moved_id p) hints)
moved p (Erased id ids) = Erased (id + p.lemmas) (map (moved_id p) ids)

-- the hint has such an id
abbrev pub HasPlace : PlaceState → ℤ → Type 0
HasPlace p h = IsTrue (is_above_zero (moved_id p h))

-- a clause of kept literals is added behind the inputs; or clauses are deleted that are no inputs
abbrev pub MayMove : (Lit → Bool) → PlaceState → Step → Type 0
MayMove keeps p (Added id clause hints) = (p.inputs < id) × AreKept keeps clause
MayMove keeps p (Erased id ids) = All (IsAbove p.inputs) ids

-- hints in place of these: the same under the ids that they have now, or others that justify the
-- clause
abbrev pub Replaces : PlaceState → Live → Clause → (hints now : List ℤ) → Type 0
Replaces p live clause hints now =
    (All (HasPlace p) hints × (now ≡ map (moved_id p) hints)) ⊎ IsJustified live clause now

-- what a step becomes, where these clauses are live: the same under other ids, with such hints
abbrev pub MovesTo : PlaceState → Live → (step now : Step) → Type 0
MovesTo p live (Added id clause hints) now =
    (own : List ℤ) × (now ≡ Added (id + p.lemmas) clause own) × Replaces p live clause hints own
MovesTo p live (Erased id ids) now = now ≡ moved p (Erased id ids)

-- so it is with each step, one behind the other
abbrev pub AllMove : PlaceState → Live → (steps log : List Step) → Type 0
AllMove p live [] [] = ⊤
AllMove p live [] (now ∷ log) = ⊥
AllMove p live (step ∷ steps) [] = ⊥
AllMove p live (step ∷ steps) (now ∷ log) =
    MovesTo p live step now × AllMove p (after live now) steps log

-- each clause behind the inputs stands behind the lemmas
abbrev pub StandsFurther : PlaceState → (old new : Live) → Type 0
StandsFurther p old new = (id : ℕ) → p.inputs < id →
    clause_at new (id + p.lemmas) ≡ clause_at old id

-- the same clauses up to an id
abbrev pub SameUpTo : ℕ → (one other : Live) → Type 0
SameUpTo n one other = (id : ℕ) → id ≤ n → clause_at one id ≡ clause_at other id

-- the merged clauses, and those behind the formula and the lemmas, are as they were at the start,
-- and what was learned stands behind them
pub record IsMoved (p : PlaceState) (merged lemmas old new : Live) : Type 0 where
  pub start : SameUpTo p.inputs old merged
  pub front : SameUpTo (p.inputs + p.lemmas) new lemmas
  pub further : StandsFurther p old new

-- the merged clause stands under the id that an input has now
pub record AreAtHand (p : PlaceState) (merged lemmas : Live) : Type 0 where
  pub within : (n : ℕ) → slice_index_or p.ids n 0 ≤ p.inputs + p.lemmas
  pub stands : (n : ℕ) (clause : Clause) → 1 ≤ slice_index_or p.ids n 0 →
      clause_at merged n ≡ Some clause → clause_at lemmas (slice_index_or p.ids n 0) ≡ Some clause

-- each clause of kept literals has all literals of one of so many merged clauses
abbrev pub AreCovered : (Lit → Bool) → ℕ → (merged live : Live) → Type 0
AreCovered keeps m merged live = (id : ℕ) (clause : Clause) → clause_at live id ≡ Some clause →
    AreKept keeps clause →
    (n : ℕ) × (own : Clause) × (n ≤ m) × (clause_at merged n ≡ Some own)
    × All (Contains clause) own
