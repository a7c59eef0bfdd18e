-- What a reader of a log, step by step, has before it.
use Rattle.std.specs.Prelude.{◌≡◌, ◌+◌, List, [], ◌∷◌}
use Rattle.fpga_text.specs.FirstFault.{Faults, IsFaultless, first_fault}
use Rattle.fpga_text.specs.Reading.{LinesAhead}
use Rattle.fpga_text.specs.Words.{line_words}
use Rattle.sat_clause.specs.Step.{Step}
use Rattle.sat_text.specs.declared.step_draft.StepDraft.{StepDraft}
use Rattle.sat_text.specs.LratText.{faults_above, steps_of}
use Rattle.sat_text.specs.StepDrafts.{held}
use Rattle.sat_text.specs.ToldLines.{told}

-- the step that was read last; the faults of the lines that are still to come and of the end; and
-- the steps that these lines say
pub record LogAhead : Type 0 where
  pub step : Step
  pub faults : Faults
  pub steps : List Step

-- what is ahead behind this step, where these lines are still to come
abbrev pub ahead_of : LinesAhead → StepDraft → LogAhead
ahead_of lines draft = record {
  step = held draft;
  faults = faults_above draft.rule draft.above (told lines.ahead) (lines.total + 1);
  steps = steps_of (line_words (told lines.ahead));
}

-- the next line has no fault, and its step was read
pub record ReadsNext (old new : LogAhead) : Type 0 where
  pub faults : first_fault old.faults ≡ first_fault new.faults
  pub steps : old.steps ≡ new.step ∷ new.steps

-- no fault and no step was ahead
pub record IsReadOut (ahead : LogAhead) : Type 0 where
  pub faultless : IsFaultless ahead.faults
  pub none : ahead.steps ≡ []
