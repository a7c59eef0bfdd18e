-- A model as far as it was read.
use Rattle.std.specs.Prelude.{◌≡◌, ℕ, ℤ, false, List, ◌++◌}
use Rattle.std.specs.List.{list_any}
use Rattle.fpga_text.specs.Reading.{LinesAhead}
use Rattle.fpga_text.specs.Words.{Words, line_words}
use Rattle.sat_clause.specs.declared.literal.Lit.{Lit}
use Rattle.sat_clause.specs.Literal.{IsWithin, is_among}
use Rattle.sat_text.specs.FrontNumbers.{TakesFront}
use Rattle.sat_text.specs.Numbers.{is_zero}
use Rattle.model_text.specs.declared.draft.Draft.{Draft}
use Rattle.model_text.specs.Assignments.{gives, vars_in}
use Rattle.model_text.specs.Models.{gives_both, goes_on, has_strange_variable, literals_in}
use Rattle.model_text.specs.ModelText.{numbers_in}

-- the draft has what these numbers say, and what is wrong with them; whether a variable is said
-- both ways it knows where each is there
pub record IsDraftOf (numbers : List ℤ) (draft : Draft) : Type 0 where
  pub ended : draft.ended ≡ list_any is_zero numbers
  pub behind : draft.behind ≡ goes_on numbers
  pub strange : draft.strange
      ≡ has_strange_variable (vars_in draft.assignment) (literals_in numbers)
  pub both : draft.strange ≡ false → draft.both ≡ gives_both (literals_in numbers)
  pub each : (l : Lit) → IsWithin (vars_in draft.assignment) l
      → gives draft.assignment l ≡ is_among (literals_in numbers) l

-- numbers in front of these words were taken
pub record TakesValues (old new : Draft) (words rest : Words) : Type 0 where
  pub numbers : List ℤ
  pub front : TakesFront words rest numbers
  pub vars : vars_in new.assignment ≡ vars_in old.assignment
  pub taken : (before : List ℤ) → IsDraftOf before old → IsDraftOf (before ++ numbers) new

-- nothing is wrong with these numbers: none stands behind a 0, no variable is strange, and none is
-- said both ways
pub record AreClean (vars : ℕ) (numbers : List ℤ) : Type 0 where
  pub last : goes_on numbers ≡ false
  pub known : has_strange_variable vars (literals_in numbers) ≡ false
  pub apart : gives_both (literals_in numbers) ≡ false

-- all lines were taken, and the draft has what they say
pub record TakesLines (before after : LinesAhead) (draft : Draft) : Type 0 where
  pub is : IsDraftOf (numbers_in (line_words before.ahead)) draft
  pub clean : AreClean (vars_in draft.assignment) (numbers_in (line_words before.ahead))
  pub taken : after.taken ≡ before.total
