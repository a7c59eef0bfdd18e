-- CNF texts, as DIMACS has them: comments, the head line `p cnf VARS CLAUSES`, and numbers, of
-- which each 0 ends a clause.
use Rattle.std.specs.Prelude.{◌≡◌, ℕ, ◌+◌, ◌==◌, nat_lt, nat_abs, ℤ, Bool, false, ◌&&◌, if◌then◌else◌, List, [], ◌∷◌, length, map, flat_map, bytes_eq, codes, Option, None, Some, is_none, option_map, option_and_then, unwrap_or}
use Rattle.std.specs.List.{list_any, slice_split}
use Rattle.std.specs.Option.{option_map_or}
use Rattle.fpga_text.specs.Bytes.{Bytes, is_empty}
use Rattle.fpga_text.specs.Words.{Words, TextLine, line_count, line_words}
use Rattle.fpga_text.specs.Codes.{Codes, At, Past, End, text_faults}
use Rattle.fpga_text.specs.FirstFault.{Faults, IsFaultless}
use Rattle.sat_clause.specs.declared.limits.TheConstants.{CLAUSE_LIMIT, VARIABLE_LIMIT}
use Rattle.sat_clause.specs.Formula.{Cnf}
use Rattle.sat_clause.specs.Literal.{Clause, lit}
use Rattle.sat_text.specs.declared.cause.Cause.TheVariants.{HeadForm, CnfNumber, Variable, ClauseCount, SizeLimit}
use Rattle.sat_text.specs.declared.head.Head.{Head}
use Rattle.sat_text.specs.Causes.{code_of}
use Rattle.sat_text.specs.Numbers.{lacks_number, numbers_of, natural_of, is_zero}
use Rattle.sat_text.specs.ToldLines.{told_lines}

-- the words of a head line where the numbers of variables and of clauses are due
pub record HeadWords : Type 0 where
  pub vars : Bytes
  pub clauses : Bytes

-- these words, if the line has the form of a head line
abbrev pub head_words : Words → Option HeadWords
head_words (p ∷ cnf ∷ vars ∷ clauses ∷ []) =
    if bytes_eq p (codes "p") && bytes_eq cnf (codes "cnf") then Some
    (record { vars = vars; clauses = clauses })
    else None
head_words words = None

-- what these words say, if both are numbers that are not negative
abbrev pub head_said : HeadWords → Option Head
head_said words =
    option_and_then (λ vars. option_map (λ clauses. record { vars = vars; clauses = clauses })
    (natural_of words.clauses)) (natural_of words.vars)

-- what a head line says
abbrev pub head_of : Words → Option Head
head_of words = option_and_then head_said (head_words words)

-- of the two numbers the first that is past its limit
abbrev pub past_limit : Head → Option ℕ
past_limit head =
    if nat_lt VARIABLE_LIMIT head.vars then Some head.vars
    else if nat_lt CLAUSE_LIMIT head.clauses then Some head.clauses else None

-- the first word is `p`
abbrev pub begins_as_head : Words → Bool
begins_as_head [] = false
begins_as_head (word ∷ more) = bytes_eq word (codes "p")

-- a number is greater in size than the number of variables
abbrev pub has_strange_variable : ℕ → List ℤ → Bool
has_strange_variable vars numbers = list_any (λ n. nat_lt vars (nat_abs n)) numbers

-- the literals, cut at each 0: the clauses, and then what no 0 ends
abbrev pub clause_parts : List ℤ → List Clause
clause_parts numbers = map (map lit) (slice_split is_zero numbers)

-- all but the last
abbrev pub but_last : {X : Type 0} → List X → List X
but_last [] = []
but_last (x ∷ []) = []
but_last (x ∷ y ∷ more) = x ∷ but_last (y ∷ more)

-- the last, or nothing where there is none
abbrev pub last_part : {X : Type 0} → List (List X) → List X
last_part [] = []
last_part (x ∷ []) = x
last_part (x ∷ y ∷ more) = last_part (y ∷ more)

-- the clauses of these parts, if there are so many, and nothing stands behind the last 0
abbrev pub whole_clauses : ℕ → List Clause → Option (List Clause)
whole_clauses count parts =
    if (length (but_last parts) == count) && is_empty (last_part parts) then Some
    (but_last parts) else None

-- what the codes of a line ask of the lines before it: what the head line says, if there is one,
-- and the numbers behind it
pub record CnfContext : Type 0 where
  pub head : Option Head
  pub numbers : List ℤ

-- a head line that says nothing is as one that says 0 twice
abbrev pub head_or_none : Option Head → Head
head_or_none head = unwrap_or head (record { vars = 0; clauses = 0 })

-- the context behind lines with these words
abbrev pub context_of : List Words → CnfContext
context_of [] = record { head = None; numbers = [] }
context_of (first ∷ body) =
    record { head = Some (head_or_none (head_of first)); numbers = flat_map numbers_of body }

-- no head line where one is due, or a second one
abbrev pub is_no_head_line : CnfContext → Words → Bool
is_no_head_line context words =
    option_map_or (λ _. begins_as_head words) context.head (is_none (head_words words))

-- a number is due and is none, or is negative in the head line
abbrev pub lacks_cnf_number : CnfContext → Words → Bool
lacks_cnf_number context words =
    option_map_or (λ _. lacks_number words) context.head
    (option_map_or (λ said. is_none (head_said said)) (head_words words) false)

-- a literal of a variable that is not there
abbrev pub has_strange_literal : CnfContext → Words → Bool
has_strange_literal context words =
    option_map_or (λ head. has_strange_variable head.vars (numbers_of words)) context.head false

-- of the head line the first number that is past its limit
abbrev pub past_size_limit : CnfContext → Words → Option ℕ
past_size_limit context words =
    option_map_or (λ _. None) context.head (option_and_then past_limit (head_of words))

-- there is no head line at all
abbrev pub lacks_head_line : CnfContext → Bool
lacks_head_line context = is_none context.head

-- there are not so many clauses as the head line says, or no 0 ends the last one
abbrev pub has_other_clauses : CnfContext → Bool
has_other_clauses context =
    option_map_or (λ head. is_none (whole_clauses head.clauses (clause_parts context.numbers)))
    context.head false

-- the codes of a CNF text
abbrev pub cnf_codes : Codes CnfContext Words
cnf_codes = record {
  context = context_of;
  of_line = At (code_of HeadForm) is_no_head_line ∷ At (code_of CnfNumber) lacks_cnf_number
      ∷ At (code_of Variable) has_strange_literal ∷ Past (code_of SizeLimit) past_size_limit ∷ [];
  of_end = End (code_of HeadForm) lacks_head_line ∷ End
      (code_of ClauseCount) has_other_clauses ∷ [];
}

-- the faults of these lines and of the end, which has this number
abbrev pub faults_of : List TextLine → ℕ → Faults
faults_of lines end = text_faults cnf_codes lines end

-- the faults of a text; its end has the number after its last line
abbrev pub cnf_faults : Bytes → Faults
cnf_faults text = faults_of (told_lines text) (line_count text + 1)

-- the formula that lines with these words say
abbrev pub formula_of : List Words → Cnf
formula_of [] = record { vars = 0; clauses = [] }
formula_of (head ∷ body) = record {
  vars = (head_or_none (head_of head)).vars;
  clauses = but_last (clause_parts (flat_map numbers_of body));
}

-- the formula that a text says
abbrev pub cnf_said : Bytes → Cnf
cnf_said text = formula_of (line_words (told_lines text))

-- the text has no fault, and says this formula
pub record ReadsCnf (text : Bytes) (cnf : Cnf) : Type 0 where
  pub faultless : IsFaultless (cnf_faults text)
  pub formula : cnf ≡ cnf_said text
