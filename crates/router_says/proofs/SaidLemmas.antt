-- What was appended of an outcome is what is to be said of it.
use Rattle.std.proofs.Common.{◌≡◌, ℕ, List, ◌++◌, Option, refl, ap, subst, ◌∙◌, append_assoc}
use Rattle.std.specs.Prelude.{codes}
use Rattle.desk_io.specs.DeskState.{DeskState}
use Rattle.fpga_types.specs.Problem.{RoutingProblem}
use Rattle.router_says.specs.AtFault.{Appends}
use Rattle.router_says.specs.Names.{asked_in}
use Rattle.router_says.specs.Raised.{raised_said}
use Rattle.router_says.specs.Said.{IsSaid, Says, SaysAnd}
use Rattle.router_says.specs.declared.faults.SystemErrors.{SystemErrors}
use Rattle.run_outcome.specs.declared.outcome.Outcome.{Outcome}
use Rattle.run_outcome.specs.declared.ran.Reason.{Reason}
use Rattle.router_words.specs.Job.{JobAsked}
use Rattle.router_words.specs.Word.{Word}

-- a text, and something behind it
pub appends-behind : (IsMore : List ℕ → Type 0) (text old between new : List ℕ)
    → between ≡ old ++ text → Appends IsMore between new → Appends (SaysAnd IsMore text) old new
appends-behind IsMore text old between new is more = (
  text ++ more.0,
  (more.0, more.1, refl),
  more.2 ∙ ap (λ (t : List ℕ). t ++ more.0) is ∙ append_assoc old text more.0,
)

-- the reason and a newline behind what is said; the job that was read is what the words ask for
pub said-whole : (before now : DeskState) (words : List Word) (errors : SystemErrors)
    (problem : Option RoutingProblem) (reason : Option Reason) (outcome : Outcome)
    (asked : Option JobAsked) (old between behind new : List ℕ)
    → asked ≡ asked_in words
    → Appends (Says before now words asked errors problem outcome) old between
    → behind ≡ between ++ raised_said reason outcome → new ≡ behind ++ codes "\n"
    → IsSaid before now words errors problem reason outcome old new
said-whole before now words errors problem reason outcome asked old between behind new is says
    more end = (
      says.0,
      subst (λ (job : Option JobAsked). Says before now words job errors problem outcome says.0) is
          says.1,
      end ∙ ap (λ (t : List ℕ). t ++ codes "\n")
          (more ∙ ap (λ (t : List ℕ). t ++ raised_said reason outcome) says.2),
    )
