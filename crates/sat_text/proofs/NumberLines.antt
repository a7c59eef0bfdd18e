-- Lines of printed numbers are read as they are.
use Rattle.std.proofs.Common.{◌≡◌, ◌<◌, ◌≤◌, ◌+◌, ◌^◌, ℕ, ℤ, false, true, List, [], ◌∷◌, ◌++◌, inr, refl, ap, ◌∙◌, arith, append_assoc}
use Rattle.std.specs.Prelude.{All, map, flat_map, nat_abs, not, ◌==◌, codes}
use Rattle.std.specs.List.{list_all}
use Rattle.std.specs.Fmt.{signed_decimal}
use Rattle.std.proofs.lemmas.Bool.{and_parts, not-true}
use Rattle.std.proofs.lemmas.List.Elements.{All-cons, All-nil, All-tail}
use Rattle.fpga_text.specs.declared.style.Style.TheVariants.{Plain}
use Rattle.fpga_text.specs.Bytes.{Bytes, is_empty}
use Rattle.fpga_text.specs.Words.{TextLine, Words, text_line, words}
use Rattle.fpga_text.proofs.PrintedLines.{numbered, seen, seen-all}
use Rattle.fpga_text.proofs.PrintedWords.{IsWord, both-pass, digit-differs, is_line_byte, lacks, line-each, signed-pass, signed-word, signed_number_of-decimal, words-each}
use Rattle.sat_clause.specs.declared.literal.Lit.{Lit}
use Rattle.sat_clause.specs.Literal.{Clause, IsWithin}
use Rattle.sat_text.specs.Numbers.{lacks_number, numbers_of}
use Rattle.sat_text.specs.Printed.{literal_text, number_text}
use Rattle.sat_text.specs.ToldLines.{is_comment, told}

-- the number fits 64 bits with its sign, and so does its negation
abbrev pub IsSmall : ℤ → Type 0
IsSmall n = nat_abs n < 2 ^ 63

-- the numbers of a clause's literals
abbrev pub codes_of : Clause → List ℤ
codes_of clause = map (λ (l : Lit). l.code) clause

-- literals of few variables are small numbers
pub small_codes : (vars : ℕ) (clause : Clause) → vars ≤ 100000000 → All (IsWithin vars) clause
    → All IsSmall (codes_of clause)
small_codes vars [] few within = All-nil IsSmall
small_codes vars (l ∷ ls) few within =
    All-cons IsSmall l.code (codes_of ls)
    (let here = within 0 l (omega arith) in omega (arith, here.1, few))
    (small_codes vars ls few (All-tail (IsWithin vars) l ls within))

-- they are printed as their numbers
pub literal_text-numbers : (clause : Clause) → flat_map literal_text clause
    ≡ flat_map number_text (codes_of clause)
literal_text-numbers [] = refl
literal_text-numbers (l ∷ ls) = ap (λ (t : Bytes). literal_text l ++ t) (literal_text-numbers ls)

-- printed numbers are words
number_words : (numbers : List ℤ) → All IsSmall numbers
    → All (λ n. IsWord (signed_decimal n)) numbers
number_words numbers small k d inside =
    let here = small k d inside in signed-word _ (omega (arith, here))

-- they are numbers
pub lacks_number-printed : (numbers : List ℤ) (more : Words) → All IsSmall numbers
    → lacks_number (map signed_decimal numbers ++ more) ≡ lacks_number more
lacks_number-printed [] more small = refl
lacks_number-printed (n ∷ ns) more small =
    rw (signed_number_of-decimal n (small 0 n (omega arith)))
    (lacks_number-printed ns more (All-tail IsSmall n ns small))

-- and these ones
pub numbers_of-printed : (numbers : List ℤ) (more : Words) → All IsSmall numbers
    → numbers_of (map signed_decimal numbers ++ more) ≡ numbers ++ numbers_of more
numbers_of-printed [] more small = refl
numbers_of-printed (n ∷ ns) more small =
    rw (signed_number_of-decimal n (small 0 n (omega arith)))
    (ap (λ (l : List ℤ). n ∷ l) (numbers_of-printed ns more (All-tail IsSmall n ns small)))

-- a line of these numbers and a 0
abbrev pub number_line : List ℤ → Bytes
number_line numbers = flat_map number_text numbers ++ codes "0"

-- its words
pub words-line : (numbers : List ℤ) → All IsSmall numbers → words (number_line numbers)
    ≡ map signed_decimal numbers ++ codes "0" ∷ []
words-line numbers small =
    words-each signed_decimal numbers (codes "0") (number_words numbers small)

-- it is one line
pub whole-line : (numbers : List ℤ) → All IsSmall numbers
    → list_all is_line_byte (number_line numbers) ≡ true
whole-line numbers small =
    both-pass is_line_byte (flat_map number_text numbers) (codes "0")
    (line-each signed_decimal numbers (number_words numbers small)) refl

-- the line has words and is no comment
pub record IsTold (raw : Bytes) : Type 0 where
  pub said : is_empty (words raw) ≡ false
  pub no_comment : is_comment raw ≡ false

-- a line that begins with a printed number is no comment
pub no_comment-number : (z : ℤ) (rest : Bytes) → IsSmall z → is_comment (signed_decimal z ++ rest)
    ≡ false
no_comment-number z rest small = go (signed_decimal z) (signed-word z (omega (arith, small))).some
    (signed-pass (λ b. not (b == 99)) refl
    (λ c least most. ap not (digit-differs 99 c least most (inr (omega arith)))) z
    (omega (arith, small)))
  where
    go : (bs : Bytes) → is_empty bs ≡ false → lacks (λ b. b == 99) bs ≡ true
        → is_comment (bs ++ rest) ≡ false
    go [] some none = absurd (let clash : true ≡ false = some in cc)
    go (b ∷ bs) some none =
        not-true (b == 99) (and_parts (not (b == 99)) (lacks (λ c. c == 99) bs) none).0

-- numbers and a word behind them are not nothing
some_words : (numbers : List ℤ) (word : Bytes) → is_empty (map signed_decimal numbers ++ word ∷ [])
    ≡ false
some_words [] word = refl
some_words (n ∷ ns) word = refl

-- a line of numbers tells something
pub told-line : (numbers : List ℤ) → All IsSmall numbers → IsTold (number_line numbers)
told-line numbers small =
    record {
      said = ap is_empty (words-line numbers small) ∙ some_words numbers (codes "0");
      no_comment = first numbers small;
    }
  where
    first : (ns : List ℤ) → All IsSmall ns → is_comment (number_line ns) ≡ false
    first [] all = refl
    first (n ∷ ns) all =
        ap is_comment (append_assoc (number_text n) (flat_map number_text ns) (codes "0")
        ∙ append_assoc (signed_decimal n) (codes " ") (flat_map number_text ns ++ codes "0"))
        ∙ no_comment-number n (codes " " ++ (flat_map number_text ns ++ codes "0"))
        (all 0 n (omega arith))

-- the told lines of a text whose lines all tell something
pub told-all : (first : ℕ) (raws : List Bytes) → All IsTold raws → told (seen Plain first raws)
    ≡ numbered Plain first raws
told-all first raws all =
    ap told (seen-all Plain first raws (λ k d inside. (all k d inside).said)) ∙ go first raws all
  where
    go : (n : ℕ) (rs : List Bytes) → All IsTold rs → told (numbered Plain n rs)
        ≡ numbered Plain n rs
    go n [] told_each = refl
    go n (raw ∷ more) told_each =
        rw ((told_each 0 raw (omega arith)).no_comment)
        (ap (λ (l : List TextLine). text_line Plain n raw ∷ l)
        (go (n + 1) more (All-tail IsTold raw more told_each)))
