-- A formula to which the clauses of another one are added, some in a form of their own.
use Rattle.std.specs.Prelude.{◌≡◌, ℕ, ◌+◌, ◌-◌, ◌<◌, ◌≤◌, Bool, List, [], ◌∷◌, ◌++◌, length, slice_get, All, Some}
use Rattle.sat_clause.specs.declared.limits.TheConstants.{ID_LIMIT, VARIABLE_LIMIT}
use Rattle.sat_clause.specs.declared.literal.Lit.{Lit}
use Rattle.sat_clause.specs.Formula.{Cnf}
use Rattle.sat_clause.specs.FormulaStore.{FormulaState}
use Rattle.sat_clause.specs.Literal.{Clause, IsWithin}
use Rattle.sat_merge.specs.declared.representatives.ImpliedVariable.{ImpliedVariable}
use Rattle.sat_merge.specs.Rewritten.{AreKept}

-- as many variables, and a clause for each of the first so many; one of kept literals alone stands
-- where it stood
pub record AreMergedSoFar (keeps : Lit → Bool) (formula merged : Cnf) (count : ℕ) : Type 0 where
  pub vars : merged.vars ≡ formula.vars
  pub many : length merged.clauses ≡ count
  pub same : (k : ℕ) (clause : Clause) → k < count → slice_get formula.clauses k ≡ Some clause →
      AreKept keeps clause → slice_get merged.clauses k ≡ Some clause

-- there is room for a clause more, and for so many literals, and the variables of a clause are
-- those of the formula
pub record MayAdd
    (implied : List ImpliedVariable) (merged : FormulaState) (room : ℕ) (clause : Clause)
    : Type 0 where
  pub variables : length implied ≡ merged.cnf.vars + 1
  pub few_vars : merged.cnf.vars ≤ VARIABLE_LIMIT
  pub few : length merged.cnf.clauses ≤ ID_LIMIT
  pub clause_room : 1 ≤ merged.clause_room
  pub lit_room : room ≤ merged.lit_room
  pub within : All (IsWithin merged.cnf.vars) clause

-- a clause is added in some form, as it stands where its literals are kept, and then there is room
-- for so many literals
pub record Adds
    (keeps : Lit → Bool) (clause : Clause) (old new : FormulaState) (room : ℕ) : Type 0 where
  pub vars : new.cnf.vars ≡ old.cnf.vars
  pub own : Clause
  pub clauses : new.cnf.clauses ≡ old.cnf.clauses ++ own ∷ []
  pub stays : AreKept keeps clause → own ≡ clause
  pub clause_room : new.clause_room ≡ old.clause_room - 1
  pub lit_room : room ≤ new.lit_room
