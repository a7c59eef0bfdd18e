-- What the lines of an architecture text come to.
use Rattle.std.proofs.Common.{◌≡◌, ◌+◌, ℕ, false, List, [], ◌∷◌, ◌++◌, Option, Some, None, Result, Ok, Err, refl, sym, ap, subst, ◌∙◌, append-nil, append_assoc}
use Rattle.std.specs.Prelude.{◌||◌, filter_map, fold, map}
use Rattle.std.specs.List.{cons_option, list_any}
use Rattle.std.specs.Option.{option_map_or}
use Rattle.std.proofs.Math.Bool.{or-false}
use Rattle.std.proofs.lemmas.List.Elements.{filter_map-append}
use Rattle.std.proofs.lemmas.List.Folds.{list_any-append}
use Rattle.fpga_types.specs.declared.arch.Arch.{Arch}
use Rattle.fpga_types.specs.declared.arch.PinSpec.{PinSpec}
use Rattle.fpga_text.specs.declared.fault.TextFault.{TextFault}
use Rattle.fpga_text.specs.declared.style.Style.TheVariants.{Joined}
use Rattle.fpga_text.specs.Bytes.{Bytes}
use Rattle.fpga_text.specs.Codes.{end_fault, faults_from}
use Rattle.fpga_text.specs.FirstFault.{AnswersFault, first_fault, IsFaultOf, IsRefusal}
use Rattle.fpga_text.specs.Reading.{LinesAhead}
use Rattle.fpga_text.specs.Said.{decimal_said, whole_said}
use Rattle.fpga_text.specs.Words.{line_count, text_lines}
use Rattle.fpga_text.proofs.CodeLemmas.{faults_behind-from}
use Rattle.fpga_arch.specs.declared.keyword.Keyword.{Keyword}
use Rattle.fpga_arch.specs.declared.keyword.Keyword.TheVariants.{IoRat, WidthIo, WidthX, WidthY, Inpin, Outpin, SwitchBlock, FcType, FcOutput, FcInput, FcPad, Segment}
use Rattle.fpga_arch.specs.Codes.{arch_codes, arch_faults, context_of, fraction_of, is_other, pattern_of, width_of}
use Rattle.fpga_arch.specs.Drafts.{Progress, START, arch_after, context_at, stands_in, with_pin}
use Rattle.fpga_arch.specs.Keywords.{ArchLine, arch_lines, is_of, word_behind}
use Rattle.fpga_arch.specs.Lines.{ReadsLines, arch_with, context_after, faults_ahead}
use Rattle.fpga_arch.specs.Pins.{pin_of}
use Rattle.fpga_arch.specs.Value.{arch_of, arch_value, last_said}

-- one more width
width-push : (width : ℕ) (said : Option ℕ) → list_any (is_other width) (cons_option said [])
    ≡ option_map_or (is_other width) said false
width-push width None = refl
width-push width (Some w) = or-false (is_other width w)

-- one more pin
pins-push : (pins : List PinSpec) (said : Option PinSpec) → pins ++ cons_option said []
    ≡ with_pin pins said
pins-push pins None = append-nil pins
pins-push pins (Some pin) = refl

-- each line makes the next context of the one before
context_of-push : (before : List ArchLine) (line : ArchLine) → context_of (before ++ line ∷ [])
    ≡ context_after (context_of before) line
context_of-push before line = λ i. record {
  stands = λ keyword. stands keyword i;
  differs = λ width. differs width i;
  pins = pins i;
}
  where
    stands : (keyword : Keyword) → list_any (is_of keyword) (before ++ line ∷ [])
        ≡ (list_any (is_of keyword) before || is_of keyword line)
    stands keyword = list_any-append (is_of keyword) before (line ∷ [])
        ∙ ap (λ b. list_any (is_of keyword) before || b) (or-false (is_of keyword line))

    differs : (width : ℕ) → list_any (is_other width) (filter_map width_of (before ++ line ∷ []))
        ≡ (list_any (is_other width) (filter_map width_of before)
        || option_map_or (is_other width) (width_of line) false)
    differs width = ap (list_any (is_other width)) (filter_map-append width_of before (line ∷ []))
        ∙ list_any-append (is_other width) (filter_map width_of before)
        (cons_option (width_of line) [])
        ∙ ap (λ b. list_any (is_other width) (filter_map width_of before) || b)
        (width-push width (width_of line))

    pins : filter_map pin_of (before ++ line ∷ []) ≡ with_pin (filter_map pin_of before)
        (pin_of line)
    pins = filter_map-append pin_of before (line ∷ [])
        ∙ pins-push (filter_map pin_of before) (pin_of line)

-- before the first line
none-stands : (keyword : Keyword) → false ≡ stands_in START.flags keyword
none-stands IoRat = refl
none-stands WidthIo = refl
none-stands WidthX = refl
none-stands WidthY = refl
none-stands Inpin = refl
none-stands Outpin = refl
none-stands SwitchBlock = refl
none-stands FcType = refl
none-stands FcOutput = refl
none-stands FcInput = refl
none-stands FcPad = refl
none-stands Segment = refl

context-start : context_of [] ≡ context_at START
context-start = λ i. record {
  stands = λ keyword. none-stands keyword i;
  differs = λ width. false;
  pins = [];
}

-- the lines of a whole text
abbrev pub whole_text : Bytes → LinesAhead
whole_text text = record { ahead = text_lines Joined text; taken = 0; total = line_count text }

-- the faults of a text are those ahead of its first line
faults-start : (text : Bytes) → arch_faults text ≡ faults_ahead START (whole_text text)
faults-start text =
    faults_behind-from context_after arch_codes context_of-push []
    (arch_lines (text_lines Joined text)) (line_count text + 1)
    ∙ ap (λ context. faults_from context_after arch_codes context
    (arch_lines (text_lines Joined text)) (line_count text + 1))
    context-start

-- an architecture with what lines say behind it
abbrev said_behind : Arch → List ArchLine → Arch
said_behind arch lines = record {
  io_rat = last_said (λ line. whole_said (word_behind IoRat line)) arch.io_rat lines;
  pins = arch.pins ++ filter_map pin_of lines;
  pattern = last_said (λ line. pattern_of (word_behind SwitchBlock line)) arch.pattern lines;
  fc = record {
    fractional = last_said (λ line. fraction_of (word_behind FcType line)) arch.fc.fractional lines;
    output = last_said (λ line. decimal_said (word_behind FcOutput line)) arch.fc.output lines;
    input = last_said (λ line. decimal_said (word_behind FcInput line)) arch.fc.input lines;
    pad = last_said (λ line. decimal_said (word_behind FcPad line)) arch.fc.pad lines;
  };
}

-- is what they say line by line
said-lines : (arch : Arch) (lines : List ArchLine) → fold arch_after arch lines
    ≡ said_behind arch lines
said-lines arch [] = λ i. record arch { pins = sym (append-nil arch.pins) i }
said-lines arch (line ∷ more) =
    said-lines (arch_after arch line) more
    ∙ (λ i. record (said_behind arch (line ∷ more)) { pins = pins (pin_of line) i })
  where
    pins : (said : Option PinSpec) → with_pin arch.pins said ++ filter_map pin_of more
        ≡ arch.pins ++ cons_option said (filter_map pin_of more)
    pins None = refl
    pins (Some pin) = append_assoc arch.pins (pin ∷ []) (filter_map pin_of more)

-- an answer about one fault and value is one about others that are the same
answers-same : {T : Type 0} (fault other : Option TextFault) (value is : T)
    (result : Result T TextFault)
    → fault ≡ other → is ≡ value → AnswersFault other (λ v. v ≡ is) result
    → AnswersFault fault (λ v. v ≡ value) result
answers-same fault other value is (Ok v) same one answer = (same ∙ answer.0, answer.1 ∙ one)
answers-same fault other value is (Err found) same one answer =
    subst (λ f. IsFaultOf f found) (sym same) answer

-- what was read of the lines answers for the text
pub reads : (text : Bytes) (lines now : LinesAhead) (start draft : Progress) (count : ℕ)
    (result : Result Arch TextFault) → lines ≡ whole_text text → start ≡ START
    → ReadsLines lines start now draft → count ≡ now.taken
    → AnswersFault (end_fault arch_codes (context_at draft) (count + 1))
    (λ arch. arch ≡ draft.arch) result
    → AnswersFault (first_fault (arch_faults text)) (λ arch. arch ≡ arch_value text) result
reads text lines now start draft count result is begun read counted answer =
    answers-same (first_fault (arch_faults text))
    (end_fault arch_codes (context_at draft) (count + 1))
    (arch_value text) draft.arch result same one answer
  where
    same : first_fault (arch_faults text) ≡ end_fault arch_codes (context_at draft) (count + 1)
    same = ap first_fault (faults-start text)
        ∙ (λ i. first_fault (faults_ahead (sym begun i) (sym is i))) ∙ read.fault
        ∙ ap (λ n. end_fault arch_codes (context_at draft) (n + 1)) (sym read.taken ∙ sym counted)

    one : draft.arch ≡ arch_value text
    one = read.arch ∙ (λ i. arch_with (begun i).arch (is i).ahead)
        ∙ said-lines (arch_of []) (map (λ line. line.1) (arch_lines (text_lines Joined text)))

-- a fault of a line is one of the text
pub refused : (text : Bytes) (lines : LinesAhead) (start : Progress) (found : TextFault)
    → lines ≡ whole_text text → start ≡ START → IsRefusal (faults_ahead start lines) found
    → IsRefusal (arch_faults text) found
refused text lines start found is begun refusal =
    subst (λ fault. IsFaultOf fault found)
    ((λ i. first_fault (faults_ahead (begun i) (is i))) ∙ sym (ap first_fault (faults-start text)))
    refusal
