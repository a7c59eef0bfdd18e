-- A log with its room: what contracts see, and how it lies in its vectors.
use Rattle.std.specs.Prelude.{◌≡◌, ℕ, ◌+◌, ◌^◌, ◌<◌, ◌≤◌, ℤ, List, [], ◌∷◌, All, Vec, vec_len, vec_capacity, if◌then◌else◌}
use Rattle.std.specs.Global.{Global}
use Rattle.sat_clause.specs.declared.literal.Lit.{Lit}
use Rattle.sat_clause.specs.declared.log.Head.{Head}
use Rattle.sat_clause.specs.Literal.{IsLiteral, Clause}
use Rattle.sat_clause.specs.Parts.{RiseTo}
use Rattle.sat_clause.specs.Step.{Step, Added, Erased}

-- the steps, and how many more of them, and of literals, hints and ids, can be added without memory
pub record LogState : Type 0 where
  pub steps : List Step
  pub step_room : ℕ
  pub number_room : ℕ

-- a deletion's numbers are its ids
abbrev pub step_of : Head → Clause → List ℤ → Step
step_of head clause numbers =
    if head.erase then Erased head.id numbers else Added head.id clause numbers

-- each step with its part of the literals and its part of the numbers
abbrev pub steps_of : List Head → List Clause → List (List ℤ) → List Step
steps_of [] clauses lists = []
steps_of (head ∷ heads) [] lists = []
steps_of (head ∷ heads) (clause ∷ clauses) [] = []
steps_of (head ∷ heads) (clause ∷ clauses) (numbers ∷ lists) =
    step_of head clause numbers ∷ steps_of heads clauses lists

-- literals and numbers stand one step behind another, and the vectors have the room
pub record IsLogStore
    (heads : Vec Head Global) (lits : Vec Lit Global) (lit_ends : Vec ℕ Global)
    (numbers : Vec ℤ Global) (number_ends : Vec ℕ Global) (step_room number_room : ℕ)
    : Type 0 where
  pub lits_rise : RiseTo (vec_len lits) 0 lit_ends.items
  pub numbers_rise : RiseTo (vec_len numbers) 0 number_ends.items
  pub lit_parts : vec_len lit_ends ≡ vec_len heads
  pub number_parts : vec_len number_ends ≡ vec_len heads
  pub are_literals : All IsLiteral lits.items
  pub heads_fit : vec_len heads + step_room ≤ vec_capacity heads
  pub lit_ends_fit : vec_len heads + step_room ≤ vec_capacity lit_ends
  pub number_ends_fit : vec_len heads + step_room ≤ vec_capacity number_ends
  pub few_lits : vec_len lits + number_room < 2 ^ 32
  pub few_numbers : vec_len numbers + number_room < 2 ^ 32
  pub lits_fit : vec_len lits + number_room ≤ vec_capacity lits
  pub numbers_fit : vec_len numbers + number_room ≤ vec_capacity numbers
