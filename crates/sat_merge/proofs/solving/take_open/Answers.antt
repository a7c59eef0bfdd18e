use Rattle.sat_merge.proofs.SearchedLaws.{searched_rewritten}
use Rattle.sat_merge.proofs.solving.take_open.Goals as goal

-- an open log stands where it is rewritten
pub returns-clause-searched : goal.returns-clause-searched
returns-clause-searched c merged budget keep merge searched =
    searched_rewritten budget (c.in_ok-rewrite.ensures c.if-not-branch.false) merged merge keep
    c.args.answer c.requires.no_values searched
