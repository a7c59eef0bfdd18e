-- What the log of a search through other clauses becomes where its hints are rewritten.
use Rattle.std.specs.Prelude.{◌≡◌, ℕ, ℤ, Bool, true, List, [], map, length, slice_get, All, None, Some}
use Rattle.sat_clause.specs.declared.literal.Lit.{Lit}
use Rattle.sat_clause.specs.Formula.{Cnf}
use Rattle.sat_clause.specs.Judge.{inputs}
use Rattle.sat_clause.specs.Learned.{EachAdded, IsRelevant, Relevant}
use Rattle.sat_clause.specs.Literal.{Clause}
use Rattle.sat_clause.specs.Live.{Live}
use Rattle.sat_clause.specs.Rup.{rup}
use Rattle.sat_clause.specs.Step.{Step, Added, Erased}
use Rattle.sat_core.specs.Stands.{AreGood, SparesInputs}

-- a step without its hints
abbrev pub bare : Step → Step
bare (Added id clause hints) = Added id clause []
bare (Erased id ids) = Erased id ids

-- the same steps, whatever their hints are
abbrev pub SameSteps : List Step → List Step → Type 0
SameSteps log other = map bare log ≡ map bare other

-- the literals are all kept
abbrev pub AreKept : (Lit → Bool) → Clause → Type 0
AreKept keeps clause = All (λ l. keeps l ≡ true) clause

-- as many variables and clauses; a clause of kept literals alone stands where it stood
pub record IsMerged (keeps : Lit → Bool) (formula merged : Cnf) : Type 0 where
  pub vars : merged.vars ≡ formula.vars
  pub many : length merged.clauses ≡ length formula.clauses
  pub same : (k : ℕ) (clause : Clause) → slice_get formula.clauses k ≡ Some clause →
      AreKept keeps clause → slice_get merged.clauses k ≡ Some clause

-- the hints justify the clause, and each of them is needed
pub record IsJustified (live : Live) (clause : Clause) (hints : List ℤ) : Type 0 where
  pub good : rup live clause hints ≡ None
  pub relevant : IsRelevant live clause hints

-- the log has the same steps, whose hints justify them over the formula; they add clauses of kept
-- literals, and delete none of its clauses
pub record IsRewritten (keeps : Lit → Bool) (formula : Cnf) (steps log : List Step) : Type 0 where
  pub same : SameSteps log steps
  pub good : AreGood (inputs formula) log
  pub relevant : Relevant formula log
  pub kept : EachAdded (λ live clause hints. AreKept keeps clause) formula log
  pub spares : SparesInputs (length formula.clauses) log
