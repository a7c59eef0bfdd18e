-- The line that four texts are answered by.
use Rattle.std.specs.Prelude.{◌≡◌, ◌++◌, ℕ, Result, Ok, Err, length, codes, decimal}
use Rattle.fpga_problem.specs.Refused.{AnswersTexts}
use Rattle.fpga_problem.specs.declared.refusal.Refusal.{Refusal}
use Rattle.fpga_text.specs.Bytes.{Bytes}
use Rattle.fpga_text.specs.declared.fault.TextFault.{TextFault}
use Rattle.fpga_text.specs.declared.fault.TextFault.TheVariants.{Bad, Limit, Memory}
use Rattle.fpga_types.specs.Problem.{RoutingProblem}
use Rattle.fpga_types.specs.Slots.{pairs, pin_steps, slots, steps}
use Rattle.fpga_types.specs.Texts.{Texts}

-- so many parts of each kind
abbrev pub counts_text : (slots steps pins pairs : ℕ) → Bytes
counts_text slots steps pins pairs =
    decimal slots ++ (codes " slots, " ++ (decimal steps ++ (codes " steps, "
    ++ (decimal pins ++ (codes " pin steps, " ++ (decimal pairs ++ codes " pairs"))))))

-- how many parts of each kind a problem has
abbrev pub counts_line : RoutingProblem → Bytes
counts_line p =
    counts_text (length (slots p.route)) (length (steps p.route)) (length (pin_steps p.route))
    (length (pairs (slots p.route)))

-- a fault
abbrev pub fault_line : TextFault → Bytes
fault_line (Bad line code) = codes "line " ++ (decimal line ++ (codes ": " ++ decimal code))
fault_line (Limit code count) = decimal code ++ (codes " by " ++ decimal count)
fault_line Memory = codes "no memory"

-- what is read of the texts
abbrev pub answer_line : Result RoutingProblem Refusal → Bytes
answer_line (Ok p) = counts_line p
answer_line (Err refusal) = fault_line refusal.fault

-- this line answers the texts
abbrev pub IsAnswered : Texts → (line : Bytes) → Type 0
IsAnswered texts line =
    (answer : Result RoutingProblem Refusal) × AnswersTexts texts answer
    × (line ≡ answer_line answer)
