-- A CNF text behind comments reads as it does alone: they are passed over, and what the other lines
-- say does not hang on their numbers.
use Rattle.std.proofs.Common.{◌≡◌, ℕ, ◌+◌, Bool, true, false, cond, List, [], ◌∷◌, ◌++◌, Option, None, Some, refl, sym, ap, subst, ◌∙◌, inl, inr, append_assoc}
use Rattle.std.specs.Prelude.{flat_map, not, option_map, if◌then◌else◌}
use Rattle.std.specs.Option.{option_or}
use Rattle.fpga_text.specs.declared.fault.TextFault.{TextFault}
use Rattle.fpga_text.specs.declared.fault.TextFault.TheVariants.{Bad, Limit}
use Rattle.fpga_text.specs.declared.style.Style.TheVariants.{Plain}
use Rattle.fpga_text.specs.Bytes.{Bytes, is_empty, is_newline}
use Rattle.fpga_text.specs.Codes.{At, Codes, End, EndCode, LineCode, Past, end_fault, faults_behind, first_code, first_end_code, line_fault, numbered_words}
use Rattle.fpga_text.specs.FirstFault.{Faults, IsFaultless}
use Rattle.fpga_text.specs.Words.{TextLine, Words, line_count, line_words, lines, text_line, words}
use Rattle.fpga_text.proofs.FaultLemmas.{faultless-line}
use Rattle.fpga_text.proofs.LineLemmas.{lines-next}
use Rattle.fpga_text.proofs.PrintedLines.{seen, seen-line}
use Rattle.fpga_text.proofs.PrintedWords.{lacks, lacks-each}
use Rattle.list_laws.proofs.Members.{In}
use Rattle.sat_clause.specs.Formula.{Cnf}
use Rattle.sat_text.specs.CnfText.{ReadsCnf, cnf_codes, formula_of}
use Rattle.sat_text.specs.ToldLines.{is_comment, told, told_lines}

-- ---- the lines that tell something

-- the words of those of these lines, which are numbered from a first
abbrev told_words : (first : ℕ) → List Bytes → List Words
told_words first raws = line_words (told (seen Plain first raws))

-- a line without words is not seen
seen-blank : (first : ℕ) (raw : Bytes) (more : List Bytes) → is_empty (words raw) ≡ true
    → seen Plain first (raw ∷ more) ≡ seen Plain (first + 1) more
seen-blank first raw more blank =
    λ i. cond (not (blank i)) (text_line Plain first raw ∷ seen Plain (first + 1) more)
    (seen Plain (first + 1) more)

-- a comment tells nothing
told-comment : (line : TextLine) (more : List TextLine) → is_comment line.raw ≡ true
    → told (line ∷ more) ≡ told more
told-comment line more is = λ i. cond (not (is i)) (line ∷ told more) (told more)

-- each other line does
told-other : (line : TextLine) (more : List TextLine) → is_comment line.raw ≡ false
    → told (line ∷ more) ≡ line ∷ told more
told-other line more is = λ i. cond (not (is i)) (line ∷ told more) (told more)

-- of a comment nothing is told
comment-passed : (first : ℕ) (raw : Bytes) (more : List Bytes) → is_comment raw ≡ true
    → told_words first (raw ∷ more) ≡ told_words (first + 1) more
comment-passed first raw more is = go (is_empty (words raw)) refl
  where
    go : (b : Bool) → is_empty (words raw) ≡ b
        → told_words first (raw ∷ more) ≡ told_words (first + 1) more
    go true blank =
        ap (λ (ls : List TextLine). line_words (told ls)) (seen-blank first raw more blank)
    go false some =
        ap (λ (ls : List TextLine). line_words (told ls)) (seen-line Plain first raw more some)
        ∙ ap line_words (told-comment (text_line Plain first raw) (seen Plain (first + 1) more) is)

-- of another line its words are, if it has some
other-told : (first : ℕ) (raw : Bytes) (more : List Bytes) → is_comment raw ≡ false
    → told_words first (raw ∷ more)
    ≡ (if is_empty (words raw) then told_words (first + 1) more
    else words raw ∷ told_words (first + 1) more)
other-told first raw more is = go (is_empty (words raw)) refl
  where
    go : (b : Bool) → is_empty (words raw) ≡ b → told_words first (raw ∷ more)
        ≡ (if b then told_words (first + 1) more else words raw ∷ told_words (first + 1) more)
    go true blank =
        ap (λ (ls : List TextLine). line_words (told ls)) (seen-blank first raw more blank)
    go false some =
        ap (λ (ls : List TextLine). line_words (told ls)) (seen-line Plain first raw more some)
        ∙ ap line_words (told-other (text_line Plain first raw) (seen Plain (first + 1) more) is)

-- it is the same from which number on lines are numbered
told-anywhere : (first other : ℕ) (raws : List Bytes) → told_words first raws
    ≡ told_words other raws
told-anywhere first other [] = refl
told-anywhere first other (raw ∷ more) =
    go (is_comment raw) refl (told-anywhere (first + 1) (other + 1) more)
  where
    go : (b : Bool) → is_comment raw ≡ b
        → told_words (first + 1) more ≡ told_words (other + 1) more
        → told_words first (raw ∷ more) ≡ told_words other (raw ∷ more)
    go true is rest =
        comment-passed first raw more is ∙ rest ∙ sym (comment-passed other raw more is)
    go false is rest =
        other-told first raw more is
        ∙ ap (λ (ws : List Words). if is_empty (words raw) then ws else words raw ∷ ws) rest
        ∙ sym (other-told other raw more is)

-- a text behind a comment tells what it does alone
told-behind : (line text : Bytes) → is_comment line ≡ true → lacks is_newline line ≡ true
    → line_words (told_lines (line ++ 10 ∷ text)) ≡ line_words (told_lines text)
told-behind line text is one_line =
    ap (told_words 1) (lines-next line text 10 (lacks-each is_newline line one_line) refl)
    ∙ comment-passed 1 line (lines text) is ∙ told-anywhere (1 + 1) 1 (lines text)

-- ---- their faults

-- a line that is not refused at one place is not at another
code-anywhere : {C L : Type 0} (codes : List (LineCode C L)) (context : C) (n m : ℕ) (line : L)
    → first_code codes context n line ≡ None → first_code codes context m line ≡ None
code-anywhere [] context n m line none = refl
code-anywhere (At code holds ∷ more) context n m line none =
    go (holds context line) (code-anywhere more context n m line) none
  where
    go : (b : Bool)
        → (first_code more context n line ≡ None → first_code more context m line ≡ None)
        → (if b then Some (Bad n code) else first_code more context n line) ≡ None
        → (if b then Some (Bad m code) else first_code more context m line) ≡ None
    go true rest is = absurd (let clash : Some (Bad n code) ≡ None = is in cc)
    go false rest is = rest is
code-anywhere (Past code count ∷ more) context n m line none =
    go (count context line) (code-anywhere more context n m line) none
  where
    go : (o : Option ℕ)
        → (first_code more context n line ≡ None → first_code more context m line ≡ None)
        → option_or (option_map (λ k. Limit code k) o) (first_code more context n line) ≡ None
        → option_or (option_map (λ k. Limit code k) o) (first_code more context m line) ≡ None
    go None rest is = rest is
    go (Some k) rest is = absurd (let clash : Some (Limit code k) ≡ None = is in cc)

-- and so it is of the end
end-anywhere : {C : Type 0} (codes : List (EndCode C)) (context : C) (n m : ℕ)
    → first_end_code codes context n ≡ None → first_end_code codes context m ≡ None
end-anywhere [] context n m none = refl
end-anywhere (End code holds ∷ more) context n m none =
    go (holds context) (end-anywhere more context n m) none
  where
    go : (b : Bool) → (first_end_code more context n ≡ None → first_end_code more context m ≡ None)
        → (if b then Some (Bad n code) else first_end_code more context n) ≡ None
        → (if b then Some (Bad m code) else first_end_code more context m) ≡ None
    go true rest is = absurd (let clash : Some (Bad n code) ≡ None = is in cc)
    go false rest is = rest is

-- a line that is not refused before lines that are not
faultless-cons : (fault : Option TextFault) (rest : Faults) → fault ≡ None → IsFaultless rest
    → IsFaultless (fault ∷ rest)
faultless-cons fault rest none clean = rw none clean

first-of : {X : Type 0} {x y : X} {xs ys : List X} → x ∷ xs ≡ y ∷ ys → x ≡ y
first-of same = cc

others-of : {X : Type 0} {x y : X} {xs ys : List X} → x ∷ xs ≡ y ∷ ys → xs ≡ ys
others-of same = cc

-- lines of these words have no fault, wherever they stand
faultless-anywhere : {C : Type 0} (codes : Codes C Words) (before : List Words)
    (here there : List TextLine) (end other : ℕ) → line_words here ≡ line_words there
    → IsFaultless (faults_behind codes before (numbered_words here) end)
    → IsFaultless (faults_behind codes before (numbered_words there) other)
faultless-anywhere codes before [] [] end other same clean =
    let last = faultless-line (end_fault codes (codes.context before) end) [] clean in
    faultless-cons (end_fault codes (codes.context before) other) []
    (end-anywhere codes.of_end (codes.context before) end other last.0) refl
faultless-anywhere codes before [] (there ∷ theres) end other same clean =
    absurd (let clash : [] ≡ there.words ∷ line_words theres = same in cc)
faultless-anywhere codes before (here ∷ heres) [] end other same clean =
    absurd (let clash : here.words ∷ line_words heres ≡ [] = same in cc)
faultless-anywhere codes before (here ∷ heres) (there ∷ theres) end other same clean =
    let parts = faultless-line (line_fault codes (codes.context before) here.number here.words)
    (faults_behind codes (before ++ here.words ∷ []) (numbered_words heres) end) clean in
    let both : here.words ∷ line_words heres ≡ there.words ∷ line_words theres = same in
    let one : here.words ≡ there.words = first-of both in
    faultless-cons (line_fault codes (codes.context before) there.number there.words)
    (faults_behind codes (before ++ there.words ∷ []) (numbered_words theres) other)
    (subst (λ (ws : Words). line_fault codes (codes.context before) there.number ws ≡ None) one
    (code-anywhere codes.of_line (codes.context before) here.number there.number here.words
    parts.0))
    (faultless-anywhere codes (before ++ there.words ∷ []) heres theres end other (others-of both)
    (subst (λ (ws : Words). IsFaultless (faults_behind codes (before ++ ws ∷ [])
    (numbered_words heres) end)) one parts.1))

-- ---- comments

-- behind this text each text reads as it does alone
abbrev pub ArePassed : Bytes → Type 0
ArePassed front = (text : Bytes) (cnf : Cnf) → ReadsCnf text cnf → ReadsCnf (front ++ text) cnf

-- so it is behind a comment with its newline
reads-behind : (line text : Bytes) (cnf : Cnf) → is_comment line ≡ true
    → lacks is_newline line ≡ true → ReadsCnf text cnf → ReadsCnf (line ++ 10 ∷ text) cnf
reads-behind line text cnf is one_line reads =
    let same = told-behind line text is one_line in
    record {
      faultless = faultless-anywhere cnf_codes [] (told_lines text)
          (told_lines (line ++ 10 ∷ text)) (line_count text + 1)
          (line_count (line ++ 10 ∷ text) + 1) (sym same) reads.faultless;
      formula = reads.formula ∙ ap formula_of (sym same);
    }

pub comment-passes : (line : Bytes) → is_comment line ≡ true → lacks is_newline line ≡ true
    → ArePassed (line ++ 10 ∷ [])
comment-passes line is one_line = λ text cnf reads.
    subst (λ (t : Bytes). ReadsCnf t cnf) (sym (append_assoc line (10 ∷ []) text))
    (reads-behind line text cnf is one_line reads)

-- behind two such texts
both-passed : (front back : Bytes) → ArePassed front → ArePassed back → ArePassed (front ++ back)
both-passed front back first second = λ text cnf reads.
    subst (λ (t : Bytes). ReadsCnf t cnf) (sym (append_assoc front back text))
    (first (back ++ text) cnf (second text cnf reads))

-- and behind each of a row
pub all-passed : {X : Type 0} (f : X → Bytes) (xs : List X)
    → ((x : X) → In xs x → ArePassed (f x)) → ArePassed (flat_map f xs)
all-passed f [] each = λ text cnf reads. reads
all-passed f (x ∷ xs) each =
    both-passed (f x) (flat_map f xs) (each x (inl refl))
    (all-passed f xs (λ y among. each y (inr among)))
