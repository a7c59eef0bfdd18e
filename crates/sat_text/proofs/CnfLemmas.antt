-- The faults of a CNF text, by its head line and the lines behind it.
use Rattle.std.proofs.Common.{◌≡◌, ◌+◌, ℕ, ℤ, Bool, true, false, List, [], ◌∷◌, ◌++◌, length, Option, None, Some, refl, sym, ap, ◌∙◌, append_assoc, append-nil, arith, eq-eqb}
use Rattle.std.specs.Prelude.{flat_map, ◌==◌, ◌&&◌, if◌then◌else◌}
use Rattle.fpga_text.specs.declared.fault.TextFault.{TextFault}
use Rattle.fpga_text.specs.declared.fault.TextFault.TheVariants.{Bad}
use Rattle.fpga_text.specs.Bytes.{Bytes, is_empty}
use Rattle.fpga_text.specs.FirstFault.{Faults, IsFaultless, IsFirst, IsRefusal, first_fault}
use Rattle.fpga_text.specs.Codes.{faults_behind, end_fault, numbered_words}
use Rattle.fpga_text.specs.Words.{TextLine, Words, line_count, line_words}
use Rattle.fpga_text.proofs.FaultLemmas.{IsPast, past-line, past-part, refusal-part}
use Rattle.sat_clause.specs.Formula.{Cnf}
use Rattle.sat_clause.specs.Literal.{Clause}
use Rattle.sat_text.specs.declared.draft.Draft.{Draft}
use Rattle.sat_text.specs.declared.head.Head.{Head}
use Rattle.sat_text.specs.Bodies.{body_fault, body_faults, head_fault}
use Rattle.sat_text.specs.CnfText.{ReadsCnf, but_last, clause_parts, cnf_codes, cnf_faults, context_of, faults_of, head_of, head_or_none, last_part, whole_clauses}
use Rattle.sat_text.specs.Drafts.{TakesNumbers}
use Rattle.sat_text.specs.Numbers.{numbers_of}
use Rattle.sat_text.specs.ToldLines.{told_lines}
use Rattle.sat_text.proofs.DraftLemmas.{but_last-push, last_part-append, takes_more}

-- the lines behind a head line, and the end
pub faults_split : (first : Words) (before : List Words) (body : List TextLine) (end : ℕ)
    → faults_behind cnf_codes (first ∷ before) (numbered_words body) end
    ≡ body_faults (head_or_none (head_of first)) body
    ++ end_fault cnf_codes (context_of (first ∷ (before ++ line_words body))) end ∷ []
faults_split first before [] end =
    ap (λ (ws : List Words). end_fault cnf_codes (context_of (first ∷ ws)) end ∷ [])
    (sym (append-nil before))
faults_split first before (line ∷ more) end =
    ap (λ (rest : Faults). body_fault (head_or_none (head_of first)) line ∷ rest)
    (faults_split first (before ++ line.words ∷ []) more end
    ∙ ap (λ (ws : List Words). body_faults (head_or_none (head_of first)) more
    ++ end_fault cnf_codes (context_of (first ∷ ws)) end ∷ [])
    (append_assoc before (line.words ∷ []) (line_words more)))

-- the faults of lines whose first says this head
pub faults_of-head : (lines : List TextLine) (first : TextLine) (body : List TextLine) (head : Head)
    (end : ℕ) → lines ≡ first ∷ body → head_of first.words ≡ Some head
    → faults_of lines end ≡ head_fault first
    ∷ (body_faults head body ++ end_fault cnf_codes
    (record { head = Some head; numbers = flat_map numbers_of (line_words body) }) end ∷ [])
faults_of-head lines first body head end is said =
    ap (λ (ls : List TextLine). faults_of ls end) is
    ∙ ap (λ (rest : Faults). head_fault first ∷ rest) (faults_split first.words [] body end)
    ∙ ap (λ (o : Option Head). head_fault first
    ∷ (body_faults (head_or_none o) body
    ++ end_fault cnf_codes
    (record { head = Some (head_or_none o); numbers = flat_map numbers_of (line_words body) })
    end ∷ [])) said

-- so many clauses are these
whole_are : (count : ℕ) (parts clauses : List Clause) → whole_clauses count parts ≡ Some clauses
    → clauses ≡ but_last parts
whole_are count parts clauses is =
    go ((length (but_last parts) == count) && is_empty (last_part parts)) is
  where
    go : (b : Bool) → (if b then Some (but_last parts) else None) ≡ Some clauses → clauses
        ≡ but_last parts
    go true e = cc
    go false e = absurd (let clash : None ≡ Some clauses = e in cc)

-- clauses with nothing behind them are whole
pub whole_push : (clauses : List Clause) → whole_clauses (length clauses) (clauses ++ [] ∷ [])
    ≡ Some clauses
whole_push clauses =
    rw (
      but_last-push clauses [],
      last_part-append clauses ([] ∷ []) (omega arith),
      eq-eqb (length clauses) (length clauses) refl,
    ) refl

module _ (text : Bytes) (first : TextLine) (body : List TextLine) (head : Head)
    (is : told_lines text ≡ first ∷ body) (said : head_of first.words ≡ Some head)
    (clean : head_fault first ≡ None) where
  -- the numbers behind the head line, and the fault of the end
  abbrev pub numbers : List ℤ
  numbers = flat_map numbers_of (line_words body)

  abbrev end : Option TextFault
  end = end_fault cnf_codes (record { head = Some head; numbers = numbers }) (line_count text + 1)

  past_head : IsPast (cnf_faults text) (body_faults head body ++ end ∷ [])
  past_head = past-line {fault = head_fault first}
      (record {
        same = ap first_fault
            (faults_of-head (told_lines text) first body head (line_count text + 1) is said);
      }) clean

  -- a line behind the head line is refused
  pub refused_body : (fault : TextFault) → IsRefusal (body_faults head body) fault
      → IsRefusal (cnf_faults text) fault
  refused_body fault bad = refusal-part (body_faults head body) (end ∷ []) fault past_head bad

  -- the end is refused
  pub refused_end : IsFaultless (body_faults head body)
      → whole_clauses head.clauses (clause_parts numbers) ≡ None
      → IsFirst (cnf_faults text) (Bad (line_count text + 1) 604)
  refused_end none other =
      (past-part (body_faults head body) (end ∷ []) past_head none).same ∙ rw other refl

  -- the text is read
  pub reads_whole : (cnf : Cnf) → IsFaultless (body_faults head body)
      → whole_clauses head.clauses (clause_parts numbers) ≡ Some cnf.clauses → cnf.vars ≡ head.vars
      → ReadsCnf text cnf
  reads_whole cnf none whole vars = record {
    faultless = (past-part (body_faults head body) (end ∷ []) past_head none).same ∙ rw whole refl;
    formula = rw (is, said) (λ i.
        record {
          vars = vars i;
          clauses =
              whole_are head.clauses (clause_parts numbers) cnf.clauses whole i;
        });
  }

-- the lines up to these were taken
pub record IsReadTo (first now : Draft) (all ahead : List TextLine) : Type 0 where
  pub done : List ℤ
  pub split : flat_map numbers_of (line_words all) ≡ done ++ flat_map numbers_of (line_words ahead)
  pub taken : TakesNumbers first now done

-- one more line was taken
pub read_line : (first now new : Draft) (all ahead more : List TextLine) (line : TextLine)
    → IsReadTo first now all ahead → ahead ≡ line ∷ more
    → TakesNumbers now new (numbers_of line.words)
    → IsReadTo first new all more
read_line first now new all ahead more line so_far is taken = record {
  done = so_far.done ++ numbers_of line.words;
  split = so_far.split ∙ ap (λ (ls : List TextLine). so_far.done ++ flat_map numbers_of
      (line_words ls)) is ∙ sym (append_assoc so_far.done (numbers_of line.words)
      (flat_map numbers_of (line_words more)));
  taken = takes_more so_far.done (numbers_of line.words) so_far.taken taken;
}
