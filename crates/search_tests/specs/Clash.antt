-- Two steps of a log that contradict each other.
use Rattle.std.specs.Prelude.{pos, negsuc, List, [], ◌∷◌}
use Rattle.sat_clause.specs.Formula.{Cnf}
use Rattle.sat_clause.specs.Literal.{lit}
use Rattle.sat_clause.specs.Step.{Step, Added}

-- two variables, and each clause of both
abbrev pub contradiction : Cnf
contradiction = record {
  vars = 2;
  clauses =
      (lit (pos 1) ∷ lit (pos 2) ∷ [])
      ∷ (lit (pos 1) ∷ lit (negsuc 1) ∷ [])
      ∷ (lit (negsuc 0) ∷ lit (pos 2) ∷ [])
      ∷ (lit (negsuc 0) ∷ lit (negsuc 1) ∷ [])
      ∷ [];
}

-- variable 1 is true by the first two clauses, and false by the others
abbrev pub clash : List Step
clash =
    Added 5 (lit (pos 1) ∷ []) (pos 1 ∷ pos 2 ∷ [])
    ∷ Added 6 (lit (negsuc 0) ∷ []) (pos 3 ∷ pos 4 ∷ [])
    ∷ []
