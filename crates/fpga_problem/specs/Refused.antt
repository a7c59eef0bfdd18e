-- Which of four texts is refused, and what a reader of them answers.
use Rattle.std.specs.Prelude.{◌≡◌, ⊤, Result, MatchResult}
use Rattle.fpga_problem.specs.Texts.{AreFaultless, faults_of, problem_said}
use Rattle.fpga_problem.specs.declared.refusal.Refusal.{Refusal}
use Rattle.fpga_problem.specs.declared.text_file.TextFile.{TextFile}
use Rattle.fpga_problem.specs.declared.text_file.TextFile.TheVariants.{Architecture, Netlist, Placement, Route}
use Rattle.fpga_text.specs.FirstFault.{IsFaultless, IsRefusal}
use Rattle.fpga_types.specs.Problem.{RoutingProblem}
use Rattle.fpga_types.specs.Texts.{Texts}

-- no text that is read before this one has a fault
abbrev pub AreFaultlessBefore : Texts → TextFile → Type 0
AreFaultlessBefore texts Architecture = ⊤
AreFaultlessBefore texts Netlist = IsFaultless (faults_of texts Architecture)
AreFaultlessBefore texts Placement =
    IsFaultless (faults_of texts Architecture) × IsFaultless (faults_of texts Netlist)
AreFaultlessBefore texts Route =
    IsFaultless (faults_of texts Architecture) × IsFaultless (faults_of texts Netlist)
    × IsFaultless (faults_of texts Placement)

-- this text is the first with a fault, and this is its first; or memory ran out at it
pub record IsRefused (texts : Texts) (refusal : Refusal) : Type 0 where
  pub before : AreFaultlessBefore texts refusal.file
  pub first : IsRefusal (faults_of texts refusal.file) refusal.fault

-- a reader gives the problem that the texts say, where none has a fault; else which is refused
abbrev pub AnswersTexts : Texts → Result RoutingProblem Refusal → Type 0
AnswersTexts texts result =
    MatchResult result (λ problem. AreFaultless texts × (problem ≡ problem_said texts))
    (IsRefused texts)
