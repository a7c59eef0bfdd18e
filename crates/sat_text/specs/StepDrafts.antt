-- The step of a line, as it was read.
use Rattle.std.specs.Prelude.{◌≡◌, Option, Some, if◌then◌else◌}
use Rattle.sat_clause.specs.Step.{Step, Added, Erased}
use Rattle.sat_text.specs.declared.step_draft.StepDraft.{StepDraft}
use Rattle.sat_text.specs.LratText.{raised}

-- the step that is held
abbrev pub held : StepDraft → Step
held draft =
    if draft.erase then Erased draft.id draft.hints.items
    else Added draft.id draft.lits.items draft.hints.items

-- the line says a step, which is held; the rule stays
pub record TakesStep (old new : StepDraft) (step : Option Step) : Type 0 where
  pub says : step ≡ Some (held new)
  pub above : new.above ≡ raised old.above step
  pub rule : new.rule ≡ old.rule
