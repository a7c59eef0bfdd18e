-- A printed formula is read as it is.
use Rattle.std.proofs.Common.{◌≡◌, ◌≤◌, ◌<◌, ◌+◌, ◌^◌, ℕ, ℤ, pos, false, true, List, [], ◌∷◌, ◌++◌, length, None, Some, refl, sym, ap, ◌∙◌, arith, append_assoc}
use Rattle.std.specs.Prelude.{All, map, flat_map, nat_abs, slice_index_or, ◌||◌, codes, decimal}
use Rattle.std.specs.List.{list_all}
use Rattle.std.proofs.lemmas.Bool.{le-ltb}
use Rattle.std.proofs.lemmas.List.Elements.{All-cons, All-nil, All-tail}
use Rattle.std.proofs.lemmas.List.Splits.{slice_split_at}
use Rattle.fpga_text.specs.declared.style.Style.TheVariants.{Plain}
use Rattle.fpga_text.specs.Bytes.{Bytes, is_newline, is_empty}
use Rattle.fpga_text.specs.FirstFault.{IsFaultless}
use Rattle.fpga_text.specs.Words.{Words, line_words, lines, words, text_line}
use Rattle.fpga_text.proofs.LineLemmas.{lines-next}
use Rattle.fpga_text.proofs.PrintedLines.{lines-ended, numbered, seen}
use Rattle.fpga_text.proofs.PrintedWords.{both-pass, decimal-word, is_line_byte, lacks, lacks-each, line-newline, signed_number_of-decimal, word-line, words-end, words-word}
use Rattle.sat_clause.specs.Formula.{Cnf}
use Rattle.sat_clause.specs.Literal.{Clause, IsWithin, lit}
use Rattle.sat_text.specs.declared.head.Head.{Head}
use Rattle.sat_text.specs.Bodies.{body_fault, body_faults, head_fault}
use Rattle.sat_text.specs.CnfText.{ReadsCnf, begins_as_head, clause_parts, has_strange_variable, head_of, whole_clauses}
use Rattle.sat_text.specs.Numbers.{is_zero, lacks_number, natural_of, numbers_of}
use Rattle.sat_text.specs.Printed.{clause_text, cnf_text, number_text}
use Rattle.sat_text.specs.ReadBack.{IsPrintable}
use Rattle.sat_text.specs.ToldLines.{told}
use Rattle.sat_text.proofs.CnfLemmas.{reads_whole, whole_push}
use Rattle.sat_text.proofs.DraftLemmas.{lits_of_codes, no_zeros}
use Rattle.sat_text.proofs.FrontLemmas.{not_letter}
use Rattle.sat_text.proofs.NumberLines.{IsTold, codes_of, lacks_number-printed, literal_text-numbers, number_line, numbers_of-printed, small_codes, told-all, told-line, whole-line, words-line}

-- the line of a clause, without its newline
abbrev clause_line : Clause → Bytes
clause_line clause = number_line (codes_of clause)

-- the head line, without its newline
abbrev head_line : Cnf → Bytes
head_line cnf = codes "p cnf " ++ (decimal cnf.vars ++ (codes " " ++ decimal (length cnf.clauses)))

-- what the head line says
abbrev said_head : Cnf → Head
said_head cnf = record { vars = cnf.vars; clauses = length cnf.clauses }

-- literals of the formula's variables, and a 0, are not strange
not_strange : (vars : ℕ) (clause : Clause) → All (IsWithin vars) clause
    → has_strange_variable vars (codes_of clause ++ pos 0 ∷ []) ≡ false
not_strange vars [] within = ap (λ b. b || false) (le-ltb vars 0 (omega arith))
not_strange vars (l ∷ ls) within =
    (λ i. le-ltb vars (nat_abs l.code) (within 0 l (omega arith)).1 i || has_strange_variable vars
    (codes_of ls ++ pos 0 ∷ [])) ∙ not_strange vars ls (All-tail (IsWithin vars) l ls within)

-- what is read of the line of a clause
record IsReadLine (head : Head) (n : ℕ) (clause : Clause) : Type 0 where
  pub clean : body_fault head (text_line Plain n (clause_line clause)) ≡ None
  pub numbers : numbers_of (words (clause_line clause)) ≡ codes_of clause ++ pos 0 ∷ []

-- a line of numbers does not begin as a head line does
no_head : (said : Words) → lacks_number said ≡ false → begins_as_head said ≡ false
no_head [] number = refl
no_head (word ∷ more) number = not_letter word (codes "p") more refl number

read_clause : (head : Head) (n : ℕ) (clause : Clause) → head.vars ≤ 100000000
    → All (IsWithin head.vars) clause → IsReadLine head n clause
read_clause head n clause few within =
    let small = small_codes head.vars clause few within in
    let said = words-line (codes_of clause) small in
    let lacks_none : lacks_number (words (clause_line clause)) ≡ false =
    ap lacks_number said ∙ lacks_number-printed (codes_of clause) (codes "0" ∷ []) small in
    let are : numbers_of (words (clause_line clause)) ≡ codes_of clause ++ pos 0 ∷ [] =
    ap numbers_of said ∙ numbers_of-printed (codes_of clause) (codes "0" ∷ []) small in
    record {
      clean = rw (
        no_head (words (clause_line clause)) lacks_none,
        lacks_none,
        are,
        not_strange head.vars clause within,
      ) refl;
      numbers = are;
    }

-- the lines of the clauses have no fault
body_clean : (head : Head) (n : ℕ) (clauses : List Clause) → head.vars ≤ 100000000
    → All (All (IsWithin head.vars)) clauses
    → IsFaultless (body_faults head (numbered Plain n (map clause_line clauses)))
body_clean head n [] few within = refl
body_clean head n (c ∷ cs) few within =
    rw ((read_clause head n c few (within 0 c (omega arith))).clean)
    (body_clean head (n + 1) cs few (All-tail (All (IsWithin head.vars)) c cs within))

-- cut at each 0 their numbers are the clauses again
parts_back : (head : Head) (n : ℕ) (clauses : List Clause) → head.vars ≤ 100000000
    → All (All (IsWithin head.vars)) clauses
    → clause_parts (flat_map numbers_of (line_words (numbered Plain n (map clause_line clauses))))
    ≡ clauses ++ [] ∷ []
parts_back head n [] few within = refl
parts_back head n (c ∷ cs) few within =
    let rest = flat_map numbers_of (line_words (numbered Plain (n + 1) (map clause_line cs))) in
    let here = within 0 c (omega arith) in
    ap (λ (ns : List ℤ). clause_parts (ns ++ rest)) (read_clause head n c few here).numbers
    ∙ ap clause_parts (append_assoc (codes_of c) (pos 0 ∷ []) rest)
    ∙ ap (map (map lit)) (slice_split_at is_zero (codes_of c) (pos 0) rest
    (no_zeros head.vars c here) refl)
    ∙ (λ i. lits_of_codes c i ∷ parts_back head (n + 1) cs few
    (All-tail (All (IsWithin head.vars)) c cs within) i)

module _ (cnf : Cnf) (fits : IsPrintable cnf) where
  few_vars : cnf.vars < 2 ^ 63
  few_vars = omega (arith, fits.few_vars)

  few_clauses : length cnf.clauses < 2 ^ 63
  few_clauses = omega (arith, fits.few_clauses)

  -- the words of the head line
  words-head : words (head_line cnf)
      ≡ codes "p" ∷ codes "cnf" ∷ decimal cnf.vars ∷ decimal (length cnf.clauses) ∷ []
  words-head = λ i. codes "p" ∷ codes "cnf"
      ∷ (words-word (decimal cnf.vars) (decimal (length cnf.clauses))
      (decimal-word cnf.vars (omega (arith, few_vars)))
      ∙ ap (λ (ws : Words). decimal cnf.vars ∷ ws)
      (words-end (decimal (length cnf.clauses))
      (decimal-word (length cnf.clauses) (omega (arith, few_clauses))))) i

  natural : (n : ℕ) → n < 2 ^ 63 → natural_of (decimal n) ≡ Some n
  natural n small = rw (signed_number_of-decimal (pos n) small) refl

  head_of-printed : head_of (words (head_line cnf)) ≡ Some (said_head cnf)
  head_of-printed =
      rw (words-head, natural cnf.vars few_vars, natural (length cnf.clauses) few_clauses) refl

  head_clean : head_fault (text_line Plain 1 (head_line cnf)) ≡ None
  head_clean = rw (
    words-head,
    natural cnf.vars few_vars,
    natural (length cnf.clauses) few_clauses,
    le-ltb 100000000 cnf.vars fits.few_vars,
    le-ltb 40000000 (length cnf.clauses) fits.few_clauses,
  ) refl

  -- the lines of a printed formula, without their newlines
  abbrev raws : List Bytes
  raws = head_line cnf ∷ map clause_line cnf.clauses

  ends : (clauses : List Clause) → flat_map clause_text clauses
      ≡ flat_map (λ c. clause_line c ++ codes "\n") clauses
  ends [] = refl
  ends (c ∷ cs) =
      λ i. (ap (λ (t : Bytes). t ++ codes "0\n") (literal_text-numbers c)
      ∙ sym (append_assoc (flat_map number_text (codes_of c)) (codes "0") (codes "\n"))) i
      ++ ends cs i

  one_lines : All (λ c. lacks is_newline (clause_line c) ≡ true) cnf.clauses
  one_lines k d inside =
      let numbers = codes_of (slice_index_or cnf.clauses k d) in
      line-newline (number_line numbers)
      (whole-line numbers (small_codes cnf.vars (slice_index_or cnf.clauses k d) fits.few_vars
      (fits.within k d inside)))

  head_one : list_all is_line_byte (head_line cnf) ≡ true
  head_one =
      both-pass is_line_byte (decimal cnf.vars) (codes " " ++ decimal (length cnf.clauses))
      (word-line (decimal cnf.vars) (decimal-word cnf.vars (omega (arith, few_vars))).bytes)
      (word-line (decimal (length cnf.clauses))
      (decimal-word (length cnf.clauses) (omega (arith, few_clauses))).bytes)

  lines-printed : lines (cnf_text cnf) ≡ raws
  lines-printed =
      ap lines (regroup (decimal cnf.vars) (decimal (length cnf.clauses))
      (flat_map clause_text cnf.clauses))
      ∙ lines-next (head_line cnf) (flat_map clause_text cnf.clauses) 10
      (lacks-each is_newline (head_line cnf) (line-newline (head_line cnf) head_one)) refl
      ∙ ap (λ (ls : List Bytes). head_line cnf ∷ ls)
      (ap lines (ends cnf.clauses) ∙ lines-ended clause_line cnf.clauses one_lines)
    where
      regroup : (vars count rest : Bytes)
          → (codes "p cnf " ++ vars ++ codes " " ++ count ++ codes "\n") ++ rest
          ≡ (codes "p cnf " ++ (vars ++ (codes " " ++ count))) ++ 10 ∷ rest
      regroup vars count rest = simp append_assoc

  all_told : All IsTold raws
  all_told = All-cons IsTold (head_line cnf) (map clause_line cnf.clauses)
      (record { said = ap is_empty words-head; no_comment = refl }) (go cnf.clauses fits.within)
    where
      go : (cs : List Clause) → All (All (IsWithin cnf.vars)) cs → All IsTold (map clause_line cs)
      go [] within = All-nil IsTold
      go (c ∷ cs) within =
          All-cons IsTold (clause_line c) (map clause_line cs)
          (told-line (codes_of c) (small_codes cnf.vars c fits.few_vars (within 0 c (omega arith))))
          (go cs (All-tail (All (IsWithin cnf.vars)) c cs within))

-- a printed formula reads as it is
pub printed_reads : (cnf : Cnf) → IsPrintable cnf → ReadsCnf (cnf_text cnf) cnf
printed_reads cnf fits =
    reads_whole (cnf_text cnf) (text_line Plain 1 (head_line cnf))
    (numbered Plain 2 (map clause_line cnf.clauses)) (said_head cnf)
    (ap (λ (rs : List Bytes). told (seen Plain 1 rs)) (lines-printed cnf fits)
    ∙ told-all 1 (raws cnf fits) (all_told cnf fits))
    (head_of-printed cnf fits) (head_clean cnf fits) cnf
    (body_clean (said_head cnf) 2 cnf.clauses fits.few_vars fits.within)
    (ap (whole_clauses (length cnf.clauses))
    (parts_back (said_head cnf) 2 cnf.clauses fits.few_vars fits.within)
    ∙ whole_push cnf.clauses) refl
