use Rattle.std.proofs.Common.{◌∙◌, sym}
use Rattle.sat_core.proofs.TrailPlaces.{has_some}
use Rattle.sat_core.proofs.UseLaws.{pass_reason, walk_goes, walk_on}
use Rattle.sat_core.proofs.analysis.pass.Goals as goal

pub unreachable-requires : goal.unreachable-requires
unreachable-requires c =
    has_some c.args.watches.now.trail c.args.place c.entry_at-entry.result
    c.entry_at-entry.ensures.at (pass_reason c.requires.walk c.requires.below)
    (sym c.clause.ensures ∙ c.in_default.is)

pub returns-clause-goes_on : goal.returns-clause-goes_on
returns-clause-goes_on c =
    walk_goes c.requires.walk c.requires.below (sym c.is_met.ensures ∙ c.if-not-is_met.false)
    c.use_entry.ensures.uses

pub returns-clause-walk : goal.returns-clause-walk
returns-clause-walk c =
    walk_on c.requires.walk c.requires.below c.use_entry.ensures.uses c.use_entry.ensures.least
