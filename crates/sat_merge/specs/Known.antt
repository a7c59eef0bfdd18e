-- Which two negations stand in a live clause.
use Rattle.std.specs.Prelude.{◌≡◌, ℕ, ◌+◌, ◌*◌, ◌^◌, ◌==◌, ◌&&◌, Bool, false, min, max, not, IsTrue, List, [], ◌∷◌, slice_index_or, is_some, All, Some}
use Rattle.std.specs.Map.{lookup}
use Rattle.sat_clause.specs.declared.literal.Lit.{Lit}
use Rattle.sat_clause.specs.Literal.{Clause, is_positive, variable}
use Rattle.sat_clause.specs.Live.{Live, clause_at}
use Rattle.sat_merge.specs.Rewritten.{AreKept}

-- the number of the variables of two literals
abbrev pub key_of : Lit → Lit → ℕ
key_of l m = min (variable l) (variable m) * 2 ^ 32 + max (variable l) (variable m)

-- such numbers, each with an input, and the variables that are asked for
pub record KnownState : Type 0 where
  pub ids : List (ℕ × ℕ)
  pub wanted : List Bool

-- the number of the two is there
abbrev pub is_known : KnownState → ℕ → Bool
is_known s key = is_some (lookup (λ k. key == k) s.ids)

-- the literal is the negation of a variable that is asked for
abbrev pub is_asked : List Bool → Lit → Bool
is_asked wanted l = not (is_positive l) && slice_index_or wanted (variable l) false

-- if its first two literals are asked for, they are known; a single one counts as two
abbrev pub IsNoted : KnownState → Clause → Type 0
IsNoted s [] = ⊥
IsNoted s (l ∷ []) = IsTrue (is_asked s.wanted l) → IsTrue (is_known s (key_of l l))
IsNoted s (l ∷ m ∷ ls) =
    IsTrue (is_asked s.wanted l) → IsTrue (is_asked s.wanted m) → IsTrue (is_known s (key_of l m))

-- so it is with each live clause of kept literals
abbrev pub AreNoted : (Lit → Bool) → KnownState → Live → Type 0
AreNoted keeps s live = (id : ℕ) (clause : Clause) → clause_at live id ≡ Some clause →
    AreKept keeps clause → IsNoted s clause

-- all literals of a clause are asked for, and no two of them are known
pub record IsFree (s : KnownState) (clause : Clause) : Type 0 where
  pub asked : All (λ l. IsTrue (is_asked s.wanted l)) clause
  pub free : All (λ l. All (λ m. is_known s (key_of l m) ≡ false) clause) clause

-- the same is asked for, and what was known is
pub record KnowsMore (old new : KnownState) : Type 0 where
  pub wanted : new.wanted ≡ old.wanted
  pub known : (key : ℕ) → IsTrue (is_known old key) → IsTrue (is_known new key)
