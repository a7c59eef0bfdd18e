-- The printed forms of a formula, as DIMACS has it, and of a log, as LRAT has it.
use Rattle.std.specs.Prelude.{ℕ, ℤ, pos, negsuc, List, [], ◌++◌, length, flat_map, codes, decimal}
use Rattle.std.specs.Fmt.{signed_decimal}
use Rattle.fpga_text.specs.Bytes.{Bytes}
use Rattle.sat_clause.specs.Formula.{Cnf}
use Rattle.sat_clause.specs.Literal.{Clause}
use Rattle.sat_clause.specs.Step.{Step, Added, Erased}
use Rattle.sat_clause.specs.declared.literal.Lit.{Lit}

-- a number, and a blank after it
abbrev pub number_text : ℤ → Bytes
number_text n = signed_decimal n ++ codes " "

-- the sign in front of the digits of a number
abbrev pub sign_text : ℤ → Bytes
sign_text (pos n) = []
sign_text (negsuc n) = codes "-"

-- a literal, and a blank after it
abbrev pub literal_text : Lit → Bytes
literal_text l = number_text l.code

-- the literals of a clause, and the 0 that ends it
abbrev pub clause_text : Clause → Bytes
clause_text clause = flat_map literal_text clause ++ codes "0\n"

-- the head line: the numbers of variables and of clauses
abbrev pub head_text : Cnf → Bytes
head_text cnf =
    codes "p cnf " ++ decimal cnf.vars ++ codes " " ++ decimal (length cnf.clauses) ++ codes "\n"

-- a formula: the head line, and each clause on a line
abbrev pub cnf_text : Cnf → Bytes
cnf_text cnf = head_text cnf ++ flat_map clause_text cnf.clauses

-- hints or deleted ids, and the 0 that closes the line
abbrev pub closed_text : List ℤ → Bytes
closed_text numbers = flat_map number_text numbers ++ codes "0\n"

-- a line that adds a clause: its id, its literals, and its hints
abbrev pub added_text : ℕ → Clause → List ℤ → Bytes
added_text id clause hints =
    number_text (pos id) ++ ((flat_map literal_text clause ++ codes "0 ") ++ closed_text hints)

-- a line that deletes clauses: its number, and their ids
abbrev pub erased_text : ℕ → List ℤ → Bytes
erased_text id ids = (number_text (pos id) ++ codes "d ") ++ closed_text ids

-- a step on a line
abbrev pub step_text : Step → Bytes
step_text (Added id clause hints) = added_text id clause hints
step_text (Erased id ids) = erased_text id ids

-- a log: each step on a line
abbrev pub log_text : List Step → Bytes
log_text log = flat_map step_text log
