-- Work on the three files of a placed netlist: what holds of it, where it comes again, and that its
-- true outcomes agree.
use Rattle.std.proofs.Common.{◌∙◌, Bool, ◌⊎◌, Option, Some, sym, ap, subst, inl, inr}
use Rattle.desk_io.specs.Files.{HasRisen}
use Rattle.fpga_problem.specs.Files.{PlacedNames}
use Rattle.fpga_problem.specs.declared.unread.Unread.{Unread}
use Rattle.fpga_problem.proofs.FileLemmas as three
use Rattle.fpga_types.specs.Problem.{PlacedNetlist}
use Rattle.run_outcome.specs.Scene.{GivesNoPlaced, WorksOnPlaced}
use Rattle.run_outcome.specs.Report.{unread_outcome}
use Rattle.run_outcome.specs.Agrees.{Agrees}
use Rattle.run_outcome.specs.Subject.{DeskState, FileMap, IsHalted, IsStopped, Source, FileFault}
use Rattle.run_outcome.specs.declared.outcome.Outcome.{Outcome}
use Rattle.run_outcome.specs.declared.text_file.TextFile.TheVariants.{Problem}
use Rattle.run_outcome.proofs.StopLaws.{HoldsOfStops, IsSpent, unread-holds}

-- what holds of outcomes that keep a run from its work holds of three files that give none
pub placed-lacks-hold : (Q : Outcome → Type 0) → HoldsOfStops Q
    → (stops : Source → FileFault → Type 0) (files : Option FileMap) (names : PlacedNames)
    (o : Outcome) → GivesNoPlaced stops files names o → Q o
placed-lacks-hold Q each stops files names o h =
    subst Q (sym h.2) (unread-holds Q each (Problem h.0.file) h.0.fault)

abbrev stop_of : Unread → Outcome
stop_of unread = unread_outcome (Problem unread.file) unread.fault

-- two true outcomes of the work on a placed netlist are one, or both are true of one placed netlist
pub placed-agrees : (timed : Bool) (files : FileMap) (names : PlacedNames)
    (says : PlacedNetlist → Outcome → Type 0) (a b : Outcome)
    → WorksOnPlaced (IsHalted (Some files)) (Some files) names says a
    → WorksOnPlaced (IsHalted (Some files)) (Some files) names says b
    → ((placed : PlacedNetlist) → says placed a → says placed b → Agrees timed a b) → Agrees timed a b
placed-agrees timed files names says a b (inl h) (inl g) agree =
    inl (h.2 ∙ ap stop_of (three.one-placed-lack files names h.0 g.0 h.1 g.1) ∙ sym g.2)
placed-agrees timed files names says a b (inl h) (inr g) agree =
    absurd (three.placed-lack-poses files names g.0 h.0 h.1 g.1)
placed-agrees timed files names says a b (inr h) (inl g) agree =
    absurd (three.placed-lack-poses files names h.0 g.0 g.1 h.1)
placed-agrees timed files names says a b (inr h) (inr g) agree =
    agree h.0 h.2 (subst (λ (placed : PlacedNetlist). says placed b)
    (three.one-placed files names g.0 h.0 g.1 h.1) g.2)

-- where the desk has not failed, the work stops for what the files hold, or memory ran out, or it
-- comes to what is told of the placed netlist
pub calm-placed : (desk now : DeskState) (names : PlacedNames)
    → ¬ HasRisen desk.faults now.faults → {works told : PlacedNetlist → Outcome → Type 0}
    → ((placed : PlacedNetlist) (o : Outcome) → works placed o → told placed o ⊎ IsSpent o)
    → (o : Outcome) → WorksOnPlaced (IsStopped desk now) desk.files names works o
    → WorksOnPlaced (IsHalted desk.files) desk.files names told o ⊎ IsSpent o
calm-placed desk now names calm on o (inl h) =
    elim (three.calm-placed-lack desk now names h.0 calm h.1) [
      | inl halt ↦ inl (inl (h.0, halt, h.2))
      | inr spent ↦ inr (h.2 ∙ ap (unread_outcome (Problem h.0.file)) spent)
    ]
calm-placed desk now names calm on o (inr h) = elim (on h.0 o h.2) [
  | inl told ↦ inl (inr (h.0, h.1, told))
  | inr spent ↦ inr spent
]
