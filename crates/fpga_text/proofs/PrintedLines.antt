-- Printed lines are read as they are.
use Rattle.std.proofs.Common.{◌≡◌, ◌+◌, ℕ, Bool, true, false, List, [], ◌∷◌, ◌++◌, take, refl, ap, ◌∙◌, arith, append_assoc}
use Rattle.std.specs.Prelude.{All, cond, not, map, filter, flat_map, codes}
use Rattle.std.specs.List.{enumerate_from, list_all, before_first}
use Rattle.std.proofs.lemmas.Bool.{and_parts}
use Rattle.std.proofs.lemmas.List.Elements.{All-tail}
use Rattle.fpga_text.specs.declared.style.Style.{Style}
use Rattle.fpga_text.specs.declared.style.Style.TheVariants.{Plain, Hash, Joined}
use Rattle.fpga_text.specs.Bytes.{Bytes, is_newline, is_hash, is_empty}
use Rattle.fpga_text.specs.Words.{TextLine, Words, lines, words, without_comment, text_line}
use Rattle.fpga_text.proofs.CutLemmas.{position_or_len-cons_no}
use Rattle.fpga_text.proofs.LineLemmas.{lines-next}
use Rattle.fpga_text.proofs.PrintedWords.{lacks, is_line_byte, lacks-each, line-hash}

-- what stands before the first such byte, where there is none
pub before_first-none : (test : ℕ → Bool) (bytes : Bytes) → lacks test bytes ≡ true
    → before_first test bytes ≡ bytes
before_first-none test [] e = refl
before_first-none test (b ∷ more) e =
    let parts = and_parts (not (test b)) (lacks test more) e in
    ap (λ n. take n (b ∷ more)) (position_or_len-cons_no test b more (fails (test b) parts.0))
    ∙ ap (λ (t : Bytes). b ∷ t) (before_first-none test more parts.1)
  where
    fails : (passes : Bool) → not passes ≡ true → passes ≡ false
    fails false e = refl
    fails true e = absurd (let clash : false ≡ true = e in cc)

-- the words that a reader sees on a line that does not go on
abbrev pub said : Style → Bytes → Words
said style raw = words (without_comment style raw)

-- of a line without a comment those of all its bytes
pub said-line : (style : Style) (raw : Bytes) → list_all is_line_byte raw ≡ true → said style raw
    ≡ words raw
said-line Plain raw whole = refl
said-line Hash raw whole = ap words (before_first-none is_hash raw (line-hash raw whole))
said-line Joined raw whole = ap words (before_first-none is_hash raw (line-hash raw whole))

-- the line with the newline behind it
abbrev pub ended : Bytes → Bytes
ended raw = raw ++ codes "\n"

-- lines without newlines, each with one behind it
pub lines-ended : {Y : Type 0} (f : Y → Bytes) (ys : List Y)
    → All (λ y. lacks is_newline (f y) ≡ true) ys → lines (flat_map (λ y. ended (f y)) ys)
    ≡ map f ys
lines-ended f [] all = refl
lines-ended f (y ∷ ys) all =
    ap lines (append_assoc (f y) (codes "\n") (flat_map (λ z. ended (f z)) ys))
    ∙ lines-next (f y) (flat_map (λ z. ended (f z)) ys) 10
    (lacks-each is_newline (f y) (all 0 y (omega arith))) refl
    ∙ ap (λ (ls : List Bytes). f y ∷ ls)
    (lines-ended f ys (All-tail (λ z. lacks is_newline (f z) ≡ true) y ys all))

-- these lines, numbered from a first, where none goes on
abbrev pub numbered : Style → ℕ → List Bytes → List TextLine
numbered style first raws = map (λ l. text_line style l.0 l.1) (enumerate_from first raws)

-- those of them that have words
abbrev pub seen : Style → ℕ → List Bytes → List TextLine
seen style first raws = filter (λ line. not (is_empty line.words)) (numbered style first raws)

-- a line with words
pub seen-line : (style : Style) (first : ℕ) (raw : Bytes) (more : List Bytes)
    → is_empty (said style raw) ≡ false → seen style first (raw ∷ more) ≡ text_line style first raw
    ∷ seen style (first + 1) more
seen-line style first raw more some =
    λ i. cond (not (some i)) (text_line style first raw ∷ seen style (first + 1) more)
    (seen style (first + 1) more)

-- lines that all have words
pub seen-all : (style : Style) (first : ℕ) (raws : List Bytes)
    → All (λ raw. is_empty (said style raw) ≡ false) raws → seen style first raws
    ≡ numbered style first raws
seen-all style first [] all = refl
seen-all style first (raw ∷ more) all =
    seen-line style first raw more (all 0 raw (omega arith))
    ∙ ap (λ (ls : List TextLine). text_line style first raw ∷ ls)
    (seen-all style (first + 1) more
    (All-tail (λ r. is_empty (said style r) ≡ false) raw more all))
