-- The faults of an architecture text, taken line by line.
use Rattle.std.proofs.Common.{◌≡◌, ◌<◌, ◌+◌, ℕ, Bool, true, false, List, [], ◌∷◌, length, drop, get_or, Option, Some, None, refl, sym, ap, subst, ◌∙◌, arith}
use Rattle.std.specs.Prelude.{◌==◌, ◌||◌, not, nat_eq, fold, map, option_map, if◌then◌else◌}
use Rattle.std.specs.List.{cons_option}
use Rattle.std.specs.Option.{option_or, option_map_or}
use Rattle.std.proofs.Math.Bool.{or-false, or_self}
use Rattle.std.proofs.lemmas.Bool.{eqb-true, eqb-false}
use Rattle.std.proofs.lemmas.List.{get_or-set_other, get_or-set_same, length-set}
use Rattle.std.proofs.Math.ListN.{set}
use Rattle.fpga_text.specs.declared.fault.TextFault.{TextFault}
use Rattle.fpga_text.specs.declared.fault.TextFault.TheVariants.{Bad, Limit, Memory}
use Rattle.fpga_text.specs.Codes.{LineCode, At, first_code, line_fault, end_fault, faults_from}
use Rattle.fpga_text.specs.FirstFault.{Faults, first_fault, IsFaultOf, IsRefusal}
use Rattle.fpga_text.specs.Reading.{LinesAhead}
use Rattle.fpga_text.specs.Words.{TextLine}
use Rattle.fpga_text.proofs.FaultLemmas.{IsPast, past-line, refusal-line}
use Rattle.fpga_text.proofs.ReadingLemmas.{IsTaken}
use Rattle.fpga_arch.specs.declared.keyword.Keyword.{Keyword}
use Rattle.fpga_arch.specs.declared.keyword.Keyword.TheVariants.{IoRat, WidthIo, WidthX, WidthY, Inpin, Outpin, SwitchBlock, FcType, FcOutput, FcInput, FcPad, Segment}
use Rattle.fpga_arch.specs.Codes.{Context, arch_codes, has_other_width, is_long_segment, is_malformed, is_not_uniform, is_other, lacks_number, width_of}
use Rattle.fpga_arch.specs.Drafts.{Progress, arch_after, context_at, draft_after, fault_at, marked, stands_in, text_after, text_fault, with_pin}
use Rattle.fpga_arch.specs.Keywords.{ArchLine, arch_line, arch_lines, place_of}
use Rattle.fpga_arch.specs.Lines.{arch_with, context_after, faults_ahead}
use Rattle.fpga_arch.specs.Pins.{pin_of}

-- the keyword's place is one of twelve
place-below : (keyword : Keyword) → place_of keyword < 12
place-below IoRat = omega arith
place-below WidthIo = omega arith
place-below WidthX = omega arith
place-below WidthY = omega arith
place-below Inpin = omega arith
place-below Outpin = omega arith
place-below SwitchBlock = omega arith
place-below FcType = omega arith
place-below FcOutput = omega arith
place-below FcInput = omega arith
place-below FcPad = omega arith
place-below Segment = omega arith

or_true : (b : Bool) → (b || true) ≡ true
or_true true = refl
or_true false = refl

-- a keyword stands once it is marked, and each other as before
stands-marked : (flags : List Bool) (keyword other : Keyword) → length flags ≡ 12
    → (stands_in flags other || nat_eq (place_of other) (place_of keyword))
    ≡ stands_in (marked flags keyword) other
stands-marked flags keyword other whole =
    by_place (nat_eq (place_of other) (place_of keyword)) refl
  where
    by_place : (same : Bool) → nat_eq (place_of other) (place_of keyword) ≡ same
        → (stands_in flags other || same) ≡ stands_in (marked flags keyword) other
    by_place true e =
        or_true (stands_in flags other)
        ∙ sym (ap (λ place. get_or (set flags (place_of keyword) true) place false)
        (eqb-true (place_of other) (place_of keyword) e)
        ∙ get_or-set_same flags (place_of keyword) true false
        (omega (arith, whole, place-below keyword)))
    by_place false e = or-false (stands_in flags other)
        ∙ sym (get_or-set_other flags (place_of keyword) (place_of other) true false
        (eqb-false (place_of other) (place_of keyword) e))

-- a code that does not hold leaves the later ones
code-none : {C L : Type 0} (code : ℕ) (holds : C → L → Bool) (more : List (LineCode C L))
    (context : C)
    (number : ℕ) (line : L) → first_code (At code holds ∷ more) context number line ≡ None
    → (holds context line ≡ false) × (first_code more context number line ≡ None)
code-none code holds more context number line none =
    go (holds context line) refl none
  where
    go : (b : Bool) → holds context line ≡ b
        → (if b then Some (Bad number code) else first_code more context number line) ≡ None
        → (holds context line ≡ false) × (first_code more context number line ≡ None)
    go true e is = absurd (let clash : Some (Bad number code) ≡ None = is in cc)
    go false e is = (e, is)

-- so a line without a fault has no other width
no_other_width : (context : Context) (number : ℕ) (line : ArchLine)
    → line_fault arch_codes context number line ≡ None → has_other_width context line ≡ false
no_other_width context number line clean =
    let behind_first = (later 102 lacks_number 1 clean).1 in
    let behind_second = (later 103 is_malformed 2 behind_first).1 in
    let behind_third = (later 104 is_long_segment 3 behind_second).1 in
    let behind_fourth = (later 105 is_not_uniform 4 behind_third).1 in
    (later 106 has_other_width 5 behind_fourth).0
  where
    later : (code : ℕ) (holds : Context → ArchLine → Bool) (next : ℕ)
        → first_code (At code holds ∷ drop next arch_codes.of_line) context number line ≡ None
        → (holds context line ≡ false)
        × (first_code (drop next arch_codes.of_line) context number line ≡ None)
    later code holds next none =
        code-none code holds (drop next arch_codes.of_line) context number line none

-- a width that differs from none
width-step : (old new : Option ℕ) (width : ℕ)
    → option_map_or (λ w. option_map_or (is_other w) old false) new false ≡ false
    → (option_map_or (is_other width) old false || option_map_or (is_other width) new false)
    ≡ option_map_or (is_other width) (option_or new old) false
width-step old None width same = or-false (option_map_or (is_other width) old false)
width-step None (Some w) width same = refl
width-step (Some earlier) (Some w) width same =
    ap (λ e. is_other width e || is_other width w) (equal (earlier == w) refl same)
    ∙ or_self (is_other width w)
  where
    equal : (b : Bool) → (earlier == w) ≡ b → not b ≡ false → earlier ≡ w
    equal true e is = eqb-true earlier w e
    equal false e is = absurd (let clash : true ≡ false = is in cc)

-- behind a line without a fault
pub context-step : (draft : Progress) (number : ℕ) (line : ArchLine) → length draft.flags ≡ 12
    → fault_at draft number line ≡ None
    → context_after (context_at draft) line ≡ context_at (draft_after draft line)
context-step draft number line whole clean = λ i. record {
  stands = λ keyword. stands-marked draft.flags line.keyword keyword whole i;
  differs = λ width. width-step draft.width (width_of line) width same i;
  pins = with_pin draft.arch.pins (pin_of line);
}
  where
    same : has_other_width (context_at draft) line ≡ false
    same = no_other_width (context_at draft) number line clean

-- the lines that have a keyword, where this is what the first line of the text is
abbrev with_first : ℕ → Option ArchLine → List (ℕ × ArchLine) → List (ℕ × ArchLine)
with_first number None lines = lines
with_first number (Some line) lines = (number, line) ∷ lines

arch_lines-first : (line : TextLine) (more : List TextLine) → arch_lines (line ∷ more)
    ≡ with_first line.number (arch_line line.words) (arch_lines more)
arch_lines-first line more = go (arch_line line.words)
  where
    go : (o : Option ArchLine)
        → cons_option (option_map (λ l. (line.number, l)) o) (arch_lines more)
        ≡ with_first line.number o (arch_lines more)
    go None = refl
    go (Some l) = refl

-- the faults ahead where this is what the next line is
faults-first : (draft : Progress) (old new : LinesAhead) (line : TextLine) → IsTaken old new line
    → faults_ahead draft old
    ≡ faults_from context_after arch_codes (context_at draft)
    (with_first line.number (arch_line line.words) (arch_lines new.ahead)) (new.total + 1)
faults-first draft old new line taken =
    (λ i. faults_from context_after arch_codes (context_at draft) (arch_lines (taken.ahead i))
    (sym taken.total i + 1))
    ∙ ap (λ ls. faults_from context_after arch_codes (context_at draft) ls (new.total + 1))
    (arch_lines-first line new.ahead)

-- behind a line that was taken
pub past_line : {all : Faults} (draft now : Progress) (old new : LinesAhead) (line : TextLine)
    → length draft.flags ≡ 12 → IsTaken old new line
    → text_fault draft line.number (arch_line line.words) ≡ None
    → now ≡ text_after draft (arch_line line.words) → IsPast all (faults_ahead draft old)
    → IsPast all (faults_ahead now new)
past_line {all} draft now old new line whole taken clean after past =
    rw after
    (by_line (arch_line line.words) clean
    (subst (λ (rest : Faults). IsPast all rest) (faults-first draft old new line taken) past))
  where
    by_line : (o : Option ArchLine) → text_fault draft line.number o ≡ None
        → IsPast all (faults_from context_after arch_codes (context_at draft)
        (with_first line.number o (arch_lines new.ahead)) (new.total + 1))
        → IsPast all (faults_ahead (text_after draft o) new)
    by_line None clean so_far = so_far
    by_line (Some l) clean so_far =
        subst (λ context. IsPast all (faults_from context_after arch_codes context
        (arch_lines new.ahead) (new.total + 1)))
        (context-step draft line.number l whole clean) (past-line so_far clean)

-- where a line has no fault only memory can be short
memory : (all : Faults) (found : TextFault) → IsFaultOf None found → IsRefusal all found
memory all (Bad line code) is = absurd (let clash : None ≡ Some (Bad line code) = is in cc)
memory all (Limit code count) is = absurd (let clash : None ≡ Some (Limit code count) = is in cc)
memory all Memory is = tt

-- a line that is refused
pub refused_line : {all : Faults} (draft : Progress) (old new : LinesAhead) (line : TextLine)
    (found : TextFault) → IsTaken old new line → IsPast all (faults_ahead draft old)
    → IsFaultOf (text_fault draft line.number (arch_line line.words)) found → IsRefusal all found
refused_line {all} draft old new line found taken past is =
    by_line (arch_line line.words) is
    (subst (λ (rest : Faults). IsPast all rest) (faults-first draft old new line taken) past)
  where
    by_line : (o : Option ArchLine) → IsFaultOf (text_fault draft line.number o) found
        → IsPast all (faults_from context_after arch_codes (context_at draft)
        (with_first line.number o (arch_lines new.ahead)) (new.total + 1))
        → IsRefusal all found
    by_line (Some l) is so_far = refusal-line found so_far is
    by_line None is so_far = memory all found is

-- the architecture with what the next line says
pub arch-line : (draft now : Progress) (old new : LinesAhead) (line : TextLine)
    → IsTaken old new line
    → now ≡ text_after draft (arch_line line.words)
    → arch_with now.arch new.ahead ≡ arch_with draft.arch old.ahead
arch-line draft now old new line taken after =
    rw after (by_line (arch_line line.words))
    ∙ sym (ap (λ ls. fold arch_after draft.arch (map (λ l. l.1) ls))
    (ap arch_lines taken.ahead ∙ arch_lines-first line new.ahead))
  where
    by_line : (o : Option ArchLine) → arch_with (text_after draft o).arch new.ahead
        ≡ fold arch_after draft.arch
        (map (λ l. l.1) (with_first line.number o (arch_lines new.ahead)))
    by_line None = refl
    by_line (Some l) = refl

-- the keywords are marked in a row of the same length
pub whole-line : (draft now : Progress) (o : Option ArchLine) → length draft.flags ≡ 12
    → now ≡ text_after draft o → length now.flags ≡ 12
whole-line draft now None whole after = ap (λ (d : Progress). length d.flags) after ∙ whole
whole-line draft now (Some l) whole after =
    ap (λ (d : Progress). length d.flags) after
    ∙ length-set draft.flags (place_of l.keyword) true ∙ whole

-- behind the last line
pub past_end : {all : Faults} (draft : Progress) (lines : LinesAhead) → lines.ahead ≡ []
    → IsPast all (faults_ahead draft lines) → first_fault all
    ≡ end_fault arch_codes (context_at draft) (lines.total + 1)
past_end draft lines none past =
    past.same
    ∙ ap (λ ls. first_fault (faults_from context_after arch_codes (context_at draft)
    (arch_lines ls) (lines.total + 1))) none
    ∙ only (end_fault arch_codes (context_at draft) (lines.total + 1))
  where
    only : (o : Option TextFault) → option_or o None ≡ o
    only None = refl
    only (Some fault) = refl
