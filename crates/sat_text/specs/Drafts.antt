-- A formula as far as it was read.
use Rattle.std.specs.Prelude.{◌≡◌, ℤ, Bool, false, List, [], ◌++◌, map, Option, None, Some, if◌then◌else◌}
use Rattle.fpga_text.specs.Words.{Words}
use Rattle.sat_clause.specs.Literal.{Clause}
use Rattle.sat_text.specs.declared.draft.Draft.{Draft}
use Rattle.sat_text.specs.declared.head.Head.{Head}
use Rattle.sat_text.specs.CnfText.{CnfContext, clause_parts, has_strange_variable, whole_clauses}
use Rattle.sat_text.specs.FrontNumbers.{TakesFront}

-- what the head line said
abbrev pub head_in : Draft → Head
head_in draft = record { vars = draft.formula.cnf.vars; clauses = draft.most }

-- what the codes of a line behind this head line ask; they do not ask for numbers
abbrev pub in_body : Head → CnfContext
in_body head = record { head = Some head; numbers = [] }

-- the parts of the text, where these numbers are still to come
abbrev pub parts_with : Draft → List ℤ → List Clause
parts_with draft ahead =
    draft.formula.cnf.clauses ++ clause_parts (map (λ l. l.code) draft.open_clause.items ++ ahead)

-- the clauses of the text, if it ends as it must, where these numbers are still to come
abbrev pub clauses_with : Draft → List ℤ → Option (List Clause)
clauses_with draft ahead =
    if draft.excess then None else whole_clauses draft.most (parts_with draft ahead)

-- these numbers were taken
pub record TakesNumbers (old new : Draft) (numbers : List ℤ) : Type 0 where
  pub head : head_in new ≡ head_in old
  pub clauses : (ahead : List ℤ) → clauses_with new ahead ≡ clauses_with old (numbers ++ ahead)

-- the numbers in front of a line were taken, up to a word that says none; a variable of these may
-- be none of the formula's
pub record TakesLineFront (old new : Draft) (line rest : Words) (strange : Bool) : Type 0 where
  pub numbers : List ℤ
  pub front : TakesFront line rest numbers
  pub found : strange ≡ has_strange_variable old.formula.cnf.vars numbers
  pub head : head_in new ≡ head_in old
  pub taken : strange ≡ false → TakesNumbers old new numbers
