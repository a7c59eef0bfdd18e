-- What a model says, as a list of literals that are true, and which clauses it satisfies. It may
-- leave variables out.
use Rattle.std.specs.Prelude.{ℕ, suc, nat_lt, ℤ, Bool, false, not, List, [], ◌∷◌, map, Option, None, Some, if◌then◌else◌}
use Rattle.std.specs.List.{list_any}
use Rattle.fpga_text.specs.Bytes.{is_empty}
use Rattle.sat_clause.specs.declared.literal.Lit.{Lit}
use Rattle.sat_clause.specs.Literal.{Clause, is_among, lit, negation, variable}
use Rattle.sat_text.specs.Numbers.{is_zero}

-- the numbers before the first 0
abbrev pub before_zero : List ℤ → List ℤ
before_zero [] = []
before_zero (n ∷ more) = if is_zero n then [] else n ∷ before_zero more

-- a number stands behind the first 0
abbrev pub goes_on : List ℤ → Bool
goes_on [] = false
goes_on (n ∷ more) = if is_zero n then not (is_empty more) else goes_on more

-- the literals that numbers say to be true: those before the first 0
abbrev pub literals_in : List ℤ → List Lit
literals_in numbers = map lit (before_zero numbers)

-- a literal is of a variable above so many
abbrev pub has_strange_variable : ℕ → List Lit → Bool
has_strange_variable vars literals = list_any (λ l. nat_lt vars (variable l)) literals

-- the negation of a literal is there, too
abbrev pub gives_both : List Lit → Bool
gives_both literals = list_any (λ l. is_among literals (negation l)) literals

-- a literal of the clause is among these
abbrev pub is_met : List Lit → Clause → Bool
is_met literals clause = list_any (is_among literals) clause

-- the number of the first clause that has none of these literals, where the first has this number
abbrev pub first_unmet_from : ℕ → List Lit → List Clause → Option ℕ
first_unmet_from number literals [] = None
first_unmet_from number literals (clause ∷ more) =
    if is_met literals clause then first_unmet_from (suc number) literals more else Some number

-- the same, counted from 1 on
abbrev pub first_unmet : List Lit → List Clause → Option ℕ
first_unmet literals clauses = first_unmet_from 1 literals clauses
