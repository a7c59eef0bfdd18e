-- What is said of what is refused: where, why, and by which code or cause.
use Rattle.std.specs.Prelude.{ℕ, ◌++◌, Bool, List, codes, decimal, unwrap_or, if◌then◌else◌}
use Rattle.code_words.specs.Causes.{cause_phrase, refusal_phrase, within_reach_phrase}

-- ---- why

abbrev pub line_why : (code : ℕ) → List ℕ
line_why code = unwrap_or (cause_phrase code) (codes "this line is not taken")

-- of a line of a file that is judged, in which nets may have several wires of a cell or not
abbrev pub judged_why : (several : Bool) → (cause : ℕ) → List ℕ
judged_why several cause =
    unwrap_or (if several then within_reach_phrase cause else cause_phrase cause)
    (codes "this line is not taken")

abbrev pub step_why : (cause : ℕ) → List ℕ
step_why cause = unwrap_or (refusal_phrase cause) (codes "it does not follow")

abbrev pub limit_why : (code : ℕ) → List ℕ
limit_why code = unwrap_or (cause_phrase code) (codes "a number passes its limit")

-- ---- what

-- a line of a file, what is wrong with it, and the code
abbrev pub line_said : (line code : ℕ) → List ℕ
line_said line code =
    codes ", line " ++ decimal line ++ codes ": " ++ line_why code ++ codes " (code "
    ++ decimal code ++ codes ")"

-- a line of a routed file, what is wrong with it, and the cause
abbrev pub judged_said : (several : Bool) → (line cause : ℕ) → List ℕ
judged_said several line cause =
    codes ", line " ++ decimal line ++ codes ": " ++ judged_why several cause ++ codes " (cause "
    ++ decimal cause ++ codes ")"

-- a step of a log, why it is refused, and the cause
abbrev pub step_said : (step cause : ℕ) → List ℕ
step_said step cause =
    codes ", step " ++ decimal step ++ codes ": " ++ step_why cause ++ codes " (cause "
    ++ decimal cause ++ codes "); so it refutes nothing"

-- what passes its limit, the number, and the code
abbrev pub limit_said : (code count : ℕ) → List ℕ
limit_said code count =
    limit_why code ++ codes ": " ++ decimal count ++ codes " (code " ++ decimal code
    ++ codes ")"
