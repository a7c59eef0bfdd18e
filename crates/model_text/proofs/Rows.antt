-- Worked rows of model texts and of what models satisfy, each by computation.
use Rattle.std.proofs.Common.{◌≡◌, ℕ, ℤ, pos, negsuc, List, [], ◌∷◌, Some, None, refl}
use Rattle.std.specs.Prelude.{codes, map, Option}
use Rattle.fpga_text.specs.declared.fault.TextFault.{TextFault}
use Rattle.fpga_text.specs.declared.fault.TextFault.TheVariants.{Bad}
use Rattle.fpga_text.specs.Bytes.{Bytes}
use Rattle.fpga_text.specs.FirstFault.{first_fault}
use Rattle.sat_clause.specs.Literal.{Clause, lit}
use Rattle.model_text.specs.Models.{first_unmet}
use Rattle.model_text.specs.ModelText.{model_faults, model_said}

-- the first fault of the text of a model of six variables
abbrev found : Bytes → Option TextFault
found text = first_fault (model_faults 6 text)

-- the numbers of the literals that a text says to be true
abbrev said : Bytes → List ℤ
said text = map (λ l. l.code) (model_said text)

pub lines_of_values : said (codes "c by a solver\ns SATISFIABLE\nv -1 2\nv 3 0\nc 4\n")
    ≡ negsuc 0 ∷ pos 2 ∷ pos 3 ∷ []
lines_of_values = refl

pub bare_list : said (codes "SAT\n1 -2 0\n") ≡ pos 1 ∷ negsuc 1 ∷ []
bare_list = refl

pub whole_model : found (codes "c by a solver\ns SATISFIABLE\nv -1 2\nv 3 0\nc 4\n") ≡ None
whole_model = refl

pub some_variables : found (codes "SAT\n 6 6 -2 0") ≡ None
some_variables = refl

pub no_literals : found (codes "0") ≡ None
no_literals = refl

pub none_found : map found (codes "s UNSATISFIABLE\n" ∷ codes "UNSAT" ∷ codes "c\nINDET\n"
    ∷ codes "s SATISFIABLE now" ∷ [])
    ≡ Some (Bad 1 1001) ∷ Some (Bad 1 1001) ∷ Some (Bad 2 1001) ∷ Some (Bad 1 1001) ∷ []
none_found = refl

pub no_numbers : map found (codes "SAT 1" ∷ codes "v 1\nv x 0" ∷ codes "1 v 0" ∷ [])
    ≡ Some (Bad 1 1002) ∷ Some (Bad 2 1002) ∷ Some (Bad 1 1002) ∷ []
no_numbers = refl

pub behind_the_end : map found (codes "1 0 2" ∷ codes "0\n0" ∷ codes "v 0\nc 1\nv\n1" ∷ [])
    ≡ Some (Bad 1 1003) ∷ Some (Bad 2 1003) ∷ Some (Bad 4 1003) ∷ []
behind_the_end = refl

pub strange_variable : map found (codes "-7 0" ∷ codes "7 1 -1 0" ∷ [])
    ≡ Some (Bad 1 1004) ∷ Some (Bad 1 1004) ∷ []
strange_variable = refl

pub both_ways : map found (codes "1 -1 0" ∷ codes "v 5 6\nv 2 -5\nv 7 0" ∷ [])
    ≡ Some (Bad 1 1005) ∷ Some (Bad 2 1005) ∷ []
both_ways = refl

pub no_end : map found (codes "" ∷ codes "SAT\n1 2\n\n" ∷ []) ≡ Some (Bad 1 1006)
    ∷ Some (Bad 4 1006) ∷ []
no_end = refl

-- 1 2; -1 -2; -1 3
abbrev three : List Clause
three = (lit (pos 1) ∷ lit (pos 2) ∷ []) ∷ (lit (negsuc 0) ∷ lit (negsuc 1) ∷ [])
    ∷ (lit (negsuc 0) ∷ lit (pos 3) ∷ []) ∷ []

abbrev unmet : List ℤ → Option ℕ
unmet numbers = first_unmet (map lit numbers) three

pub each_is_met : map unmet ((negsuc 0 ∷ pos 2 ∷ []) ∷ (pos 3 ∷ negsuc 1 ∷ pos 1 ∷ []) ∷ [])
    ≡ None ∷ None ∷ []
each_is_met = refl

pub first_is_named : map unmet ([] ∷ (pos 1 ∷ []) ∷ (pos 1 ∷ negsuc 1 ∷ []) ∷ [])
    ≡ Some 1 ∷ Some 2 ∷ Some 3 ∷ []
first_is_named = refl
