-- A formula that was read is one that may be printed and read again.
use Rattle.std.proofs.Common.{◌≡◌, ◌≤◌, ◌+◌, ℕ, zero, suc, ℤ, pos, negsuc, Bool, false, true, List, [], ◌∷◌, ◌++◌, length, Option, None, Some, refl, sym, ap, subst, ◌∙◌, arith}
use Rattle.std.specs.Prelude.{All, map, flat_map, nat_abs, nat_lt, ◌==◌, ◌||◌, ◌&&◌, if◌then◌else◌, is_none, option_map, option_and_then}
use Rattle.std.specs.List.{slice_split, onto_first}
use Rattle.std.specs.Option.{option_map_or, option_or}
use Rattle.std.proofs.lemmas.Bool.{eqb-true, ltb-false}
use Rattle.std.proofs.lemmas.List.Elements.{All-cons, All-nil, All-tail}
use Rattle.std.proofs.lemmas.List.Folds.{list_any-append}
use Rattle.fpga_text.specs.declared.fault.TextFault.{TextFault}
use Rattle.fpga_text.specs.declared.fault.TextFault.TheVariants.{Bad, Limit}
use Rattle.fpga_text.specs.Bytes.{Bytes, is_empty}
use Rattle.fpga_text.specs.Codes.{end_fault}
use Rattle.fpga_text.specs.FirstFault.{IsFaultless}
use Rattle.fpga_text.specs.Words.{TextLine, line_count, line_words}
use Rattle.fpga_text.proofs.FaultLemmas.{faultless-line, option_or-none}
use Rattle.sat_clause.specs.Formula.{Cnf}
use Rattle.sat_clause.specs.Literal.{Clause, IsWithin, lit}
use Rattle.sat_text.specs.declared.head.Head.{Head}
use Rattle.sat_text.specs.Bodies.{body_fault, body_faults, head_fault}
use Rattle.sat_text.specs.CnfText.{HeadWords, ReadsCnf, begins_as_head, but_last, clause_parts, cnf_codes, context_of, faults_of, formula_of, has_strange_variable, head_of, head_or_none, head_said, head_words, last_part, past_limit}
use Rattle.sat_text.specs.Numbers.{is_zero, lacks_number, numbers_of}
use Rattle.sat_text.specs.Printed.{cnf_text}
use Rattle.sat_text.specs.ReadBack.{IsPrintable}
use Rattle.sat_text.specs.ToldLines.{told_lines}
use Rattle.sat_text.proofs.CnfBack.{printed_reads}
use Rattle.sat_text.proofs.CnfLemmas.{faults_split}

-- a head line without a fault says numbers within their limits
record IsGoodHead (line : TextLine) : Type 0 where
  pub head : Head
  pub said : head_of line.words ≡ Some head
  pub few_vars : head.vars ≤ 100000000
  pub few_clauses : head.clauses ≤ 40000000

good_head : (line : TextLine) → head_fault line ≡ None → IsGoodHead line
good_head line clean = go (head_words line.words) refl clean
  where
    few : (head : Head) → head_of line.words ≡ Some head → (a b : Bool) → nat_lt 100000000 head.vars
        ≡ a → nat_lt 40000000 head.clauses ≡ b
        → option_or (option_map (λ count. Limit 605 count)
        (if a then Some head.vars else if b then Some head.clauses else None)) None ≡ None
        → IsGoodHead line
    few head said true b vars clauses clash =
        absurd (let no : Some (Limit 605 head.vars) ≡ None = clash in cc)
    few head said false true vars clauses clash =
        absurd (let no : Some (Limit 605 head.clauses) ≡ None = clash in cc)
    few head said false false vars clauses e =
        record {
          head = head;
          said = said;
          few_vars =
              ltb-false 100000000 head.vars vars;
          few_clauses = ltb-false 40000000 head.clauses clauses;
        }

    next : (words : HeadWords) → head_words line.words ≡ Some words → (h : Option Head)
        → head_said words ≡ h
        → (if is_none h then Some (Bad line.number 602) else option_or
        (option_map (λ count. Limit 605 count) (option_and_then past_limit h)) None) ≡ None
        → IsGoodHead line
    next words is None said clash =
        absurd (let no : Some (Bad line.number 602) ≡ None = clash in cc)
    next words is (Some head) said e =
        few head (ap (option_and_then head_said) is ∙ said) (nat_lt 100000000 head.vars)
        (nat_lt 40000000 head.clauses) refl refl e

    go : (o : Option HeadWords) → head_words line.words ≡ o
        → (if is_none o then Some (Bad line.number 601) else if option_map_or
        (λ said. is_none (head_said said)) o false then Some (Bad line.number 602)
        else option_or (option_map (λ count. Limit 605 count)
        (option_and_then past_limit (option_and_then head_said o))) None) ≡ None
        → IsGoodHead line
    go None is clash = absurd (let no : Some (Bad line.number 601) ≡ None = clash in cc)
    go (Some words) is e = next words is (head_said words) refl e

-- a line behind it without a fault has no strange variable
not_strange_line : (head : Head) (line : TextLine) → body_fault head line ≡ None
    → has_strange_variable head.vars (numbers_of line.words) ≡ false
not_strange_line head line clean =
    go (begins_as_head line.words) (lacks_number line.words)
    (has_strange_variable head.vars (numbers_of line.words)) clean where
      go : (a b c : Bool) → (if a then Some (Bad line.number 601) else if b then Some
          (Bad line.number 602) else if c then Some (Bad line.number 603) else None) ≡ None
          → c ≡ false
      go true b c clash = absurd (let no : Some (Bad line.number 601) ≡ None = clash in cc)
      go false true c clash = absurd (let no : Some (Bad line.number 602) ≡ None = clash in cc)
      go false false true clash = absurd (let no : Some (Bad line.number 603) ≡ None = clash in cc)
      go false false false clean = refl

-- lines without a fault have none, and the end has none
record IsGoodBody (head : Head) (body : List TextLine) (end : Option TextFault) : Type 0 where
  pub known : has_strange_variable head.vars (flat_map numbers_of (line_words body)) ≡ false
  pub ended : end ≡ None

good_body : (head : Head) (body : List TextLine) (end : Option TextFault)
    → IsFaultless (body_faults head body ++ end ∷ []) → IsGoodBody head body end
good_body head [] end clean = record { known = refl; ended = (option_or-none end None clean).0 }
good_body head (line ∷ more) end clean =
    let parts = faultless-line (body_fault head line) (body_faults head more ++ end ∷ []) clean in
    let later = good_body head more end parts.1 in
    record {
      known = list_any-append (λ n. nat_lt head.vars (nat_abs n)) (numbers_of line.words)
          (flat_map numbers_of (line_words more))
          ∙ rw (not_strange_line head line parts.0, later.known) refl;
      ended = later.ended;
    }

-- an end without a fault has so many clauses
right_count : (head : Head) (end : ℕ) (numbers : List ℤ)
    → end_fault cnf_codes (record { head = Some head; numbers = numbers }) end ≡ None
    → length (but_last (clause_parts numbers)) ≡ head.clauses
right_count head end numbers clean =
    go (length (but_last (clause_parts numbers)) == head.clauses) refl
    (is_empty (last_part (clause_parts numbers))) clean
  where
    go : (a : Bool) → (length (but_last (clause_parts numbers)) == head.clauses) ≡ a → (b : Bool)
        → (if is_none (if a && b then Some (but_last (clause_parts numbers)) else None) then Some
        (Bad end 604) else None) ≡ None → length (but_last (clause_parts numbers))
        ≡ head.clauses
    go true e b rest = eqb-true _ _ e
    go false e b clash = absurd (let no : Some (Bad end 604) ≡ None = clash in cc)

within_next : (vars : ℕ) (n : ℤ) (ns : List ℤ) → is_zero n ≡ false
    → has_strange_variable vars (n ∷ ns) ≡ false → IsWithin vars (lit n)
within_next vars n ns nonzero known =
    (some n nonzero, go (nat_lt vars (nat_abs n)) refl known) where
      some : (z : ℤ) → is_zero z ≡ false → 1 ≤ nat_abs z
      some (pos zero) e = absurd (let clash : true ≡ false = e in cc)
      some (pos (suc k)) e = omega arith
      some (negsuc k) e = omega arith

      go : (b : Bool) → nat_lt vars (nat_abs n) ≡ b → b || has_strange_variable vars ns ≡ false
          → nat_abs n ≤ vars
      go true e clash = absurd (let no : true ≡ false = clash in cc)
      go false e rest = ltb-false vars (nat_abs n) e

known_later : (vars : ℕ) (n : ℤ) (ns : List ℤ) → has_strange_variable vars (n ∷ ns) ≡ false
    → has_strange_variable vars ns ≡ false
known_later vars n ns known = go (nat_lt vars (nat_abs n)) known where
  go : (b : Bool) → b || has_strange_variable vars ns ≡ false → has_strange_variable vars ns ≡ false
  go true clash = absurd (let no : true ≡ false = clash in cc)
  go false rest = rest

-- the parts have only literals of the formula's variables
parts_within : (vars : ℕ) (numbers : List ℤ) → has_strange_variable vars numbers ≡ false
    → All (All (IsWithin vars)) (clause_parts numbers)
parts_within vars [] known =
    All-cons (All (IsWithin vars)) [] [] (All-nil (IsWithin vars)) (All-nil (All (IsWithin vars)))
parts_within vars (n ∷ ns) known =
    go (is_zero n) refl (slice_split is_zero ns)
    (parts_within vars ns (known_later vars n ns known))
  where
    go : (b : Bool) → is_zero n ≡ b → (parts : List (List ℤ))
        → All (All (IsWithin vars)) (map (map lit) parts)
        → All (All (IsWithin vars)) (map (map lit) (if b then [] ∷ parts else onto_first n parts))
    go true e parts later =
        All-cons (All (IsWithin vars)) [] (map (map lit) parts) (All-nil (IsWithin vars)) later
    go false e [] later =
        All-cons (All (IsWithin vars)) (lit n ∷ []) []
        (All-cons (IsWithin vars) (lit n) [] (within_next vars n ns e known)
        (All-nil (IsWithin vars))) later
    go false e (part ∷ parts) later =
        All-cons (All (IsWithin vars)) (map lit (n ∷ part)) (map (map lit) parts)
        (All-cons (IsWithin vars) (lit n) (map lit part) (within_next vars n ns e known)
        (later 0 (map lit part) (omega arith)))
        (All-tail (All (IsWithin vars)) (map lit part) (map (map lit) parts) later)

all_but_last : (P : Clause → Type 0) (xs : List Clause) → All P xs → All P (but_last xs)
all_but_last P [] all = All-nil P
all_but_last P (x ∷ []) all = All-nil P
all_but_last P (x ∷ y ∷ more) all =
    All-cons P x (but_last (y ∷ more)) (all 0 x (omega arith))
    (all_but_last P (y ∷ more) (All-tail P x (y ∷ more) all))

-- what was read of these lines can be printed
printable_lines : (lines : List TextLine) (end : ℕ) → IsFaultless (faults_of lines end)
    → IsPrintable (formula_of (line_words lines))
printable_lines [] end clean = absurd (let clash : Some (Bad end 601) ≡ None = clean in cc)
printable_lines (line ∷ body) end clean =
    let head = head_or_none (head_of line.words) in
    let numbers = flat_map numbers_of (line_words body) in
    let last = end_fault cnf_codes (context_of (line.words ∷ line_words body)) end in
    let parts = faultless-line (head_fault line) (body_faults head body ++ last ∷ [])
    (subst (λ faults. IsFaultless (head_fault line ∷ faults))
    (faults_split line.words [] body end) clean) in
    let good = good_head line parts.0 in
    let same : head ≡ good.head = ap head_or_none good.said in
    let behind = good_body head body last parts.1 in
    let count = right_count head end numbers behind.ended in
    record {
      few_vars = omega (arith, ap (λ (h : Head). h.vars) same, good.few_vars);
      few_clauses = omega (arith, count, ap (λ (h : Head). h.clauses) same, good.few_clauses);
      within = all_but_last (All (IsWithin head.vars)) (clause_parts numbers)
          (parts_within head.vars numbers behind.known);
    }

-- a formula that was read can be printed
pub printable : (text : Bytes) (cnf : Cnf) → ReadsCnf text cnf → IsPrintable cnf
printable text cnf reads =
    subst IsPrintable (sym reads.formula)
    (printable_lines (told_lines text) (line_count text + 1) reads.faultless)

-- and is read again as it is
pub read_again : (cnf : Cnf) (text : Bytes) → ReadsCnf text cnf → ReadsCnf (cnf_text cnf) cnf
read_again cnf text reads = printed_reads cnf (printable text cnf reads)
