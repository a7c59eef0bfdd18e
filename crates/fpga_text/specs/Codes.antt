-- The fault codes of a format, each told apart by a test of a line and of what stands before it.
use Rattle.std.specs.Prelude.{ℕ, Bool, List, [], ◌∷◌, ◌++◌, map, Option, None, Some, option_map, if◌then◌else◌}
use Rattle.std.specs.Option.{option_or}
use Rattle.fpga_text.specs.declared.fault.TextFault.{TextFault}
use Rattle.fpga_text.specs.declared.fault.TextFault.TheVariants.{Bad, Limit}
use Rattle.fpga_text.specs.FirstFault.{Faults}
use Rattle.fpga_text.specs.Words.{Words, TextLine}

-- a code of lines: its number, and where it holds; the code of a limit tells what it counted
pub data LineCode (Context Line : Type 0) : Type 0 where
  At : ℕ → (Context → Line → Bool) → LineCode Context Line
  Past : ℕ → (Context → Line → Option ℕ) → LineCode Context Line

-- a code of the end: its number, and where it holds
pub data EndCode (Context : Type 0) : Type 0 where
  End : ℕ → (Context → Bool) → EndCode Context

-- the codes of a format, least first, and what they look at besides a line: the context that
-- earlier lines make
pub record Codes (Context Line : Type 0) : Type 0 where
  pub context : List Line → Context
  pub of_line : List (LineCode Context Line)
  pub of_end : List (EndCode Context)

-- why the line with this number is refused: by the first of these codes that holds
abbrev pub first_code : {C L : Type 0} → List (LineCode C L) → C → ℕ → L → Option TextFault
first_code [] context number line = None
first_code (At code holds ∷ more) context number line =
    if holds context line then Some (Bad number code) else first_code more context number line
first_code (Past code count ∷ more) context number line =
    option_or (option_map (λ n. Limit code n) (count context line))
    (first_code more context number line)

-- why the end, which has this number, is refused: by the first of these codes that holds
abbrev pub first_end_code : {C : Type 0} → List (EndCode C) → C → ℕ → Option TextFault
first_end_code [] context number = None
first_end_code (End code holds ∷ more) context number =
    if holds context then Some (Bad number code) else first_end_code more context number

-- why the line with this number is refused in this context: by the least code that holds
abbrev pub line_fault : {C L : Type 0} → Codes C L → C → ℕ → L → Option TextFault
line_fault codes context number line = first_code codes.of_line context number line

-- why the end, which has this number, is refused in this context: by the least code that holds
abbrev pub end_fault : {C L : Type 0} → Codes C L → C → ℕ → Option TextFault
end_fault codes context number = first_end_code codes.of_end context number

-- the faults of numbered lines that stand behind these lines, and of the end, which has this number
abbrev pub faults_behind : {C L : Type 0} → Codes C L → List L → List (ℕ × L) → ℕ → Faults
faults_behind codes before [] end = end_fault codes (codes.context before) end ∷ []
faults_behind codes before (line ∷ more) end =
    line_fault codes (codes.context before) line.0 line.1
    ∷ faults_behind codes (before ++ line.1 ∷ []) more end

-- the faults of all numbered lines, and of the end, which has this number
abbrev pub faults_by : {C L : Type 0} → Codes C L → List (ℕ × L) → ℕ → Faults
faults_by codes lines end = faults_behind codes [] lines end

-- the same faults from a context on, where `next` makes the context behind a line
abbrev pub faults_from : {C L : Type 0} → (C → L → C) → Codes C L → C → List (ℕ × L) → ℕ → Faults
faults_from next codes context [] end = end_fault codes context end ∷ []
faults_from next codes context (line ∷ more) end =
    line_fault codes context line.0 line.1 ∷ faults_from next codes (next context line.1) more end

-- the words of each line, with its number
abbrev pub numbered_words : List TextLine → List (ℕ × Words)
numbered_words lines = map (λ line. (line.number, line.words)) lines

-- the faults of the lines of a text whose codes look at words alone
abbrev pub text_faults : {C : Type 0} → Codes C Words → List TextLine → ℕ → Faults
text_faults codes lines end = faults_by codes (numbered_words lines) end
