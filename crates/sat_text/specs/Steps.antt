-- A step of a log, as it is lent.
use Rattle.std.specs.Prelude.{if◌then◌else◌}
use Rattle.sat_clause.specs.declared.log.StepView.{StepView}
use Rattle.sat_clause.specs.Step.{Step, Added, Erased}

-- the step; the hints of a deletion are its ids
abbrev pub viewed : StepView → Step
viewed view =
    if view.erase then Erased view.id view.hints.now else Added view.id view.lits.now view.hints.now
