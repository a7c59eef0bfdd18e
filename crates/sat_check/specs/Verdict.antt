-- What a verdict says, and what a lent step is.
use Rattle.std.specs.Prelude.{if◌then◌else◌}
use Rattle.sat_clause.specs.declared.log.StepView.{StepView}
use Rattle.sat_clause.specs.Step.{Step, Added, Erased}
use Rattle.sat_clause.specs.Judge.{Judgement, Accepted as IsAccepted, Refused as IsRefused}
use Rattle.sat_check.specs.declared.verdict.Verdict.{Verdict}
use Rattle.sat_check.specs.declared.verdict.Verdict.TheVariants.{Accepted, Refused}

-- the judgement that a verdict says
abbrev pub judgement_of : Verdict → Judgement
judgement_of Accepted = IsAccepted
judgement_of (Refused step cause) = IsRefused step cause

-- the step that a view lends; the hints of a deletion are its ids
abbrev pub step_of : StepView → Step
step_of view =
    if view.erase then Erased view.id view.hints.now else Added view.id view.lits.now view.hints.now
