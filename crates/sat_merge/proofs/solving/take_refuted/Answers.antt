use Rattle.std.proofs.Common.{◌∙◌, ap}
use Rattle.sat_clause.specs.LogStore.{LogState}
use Rattle.sat_core.specs.declared.answer.Answer.TheVariants.{Refuted}
use Rattle.sat_merge.proofs.SearchedLaws.{searched_rewritten}
use Rattle.sat_merge.proofs.solving.take_refuted.Goals as goal

pub rewrite-requires-clause-fresh : goal.rewrite-requires-clause-fresh
rewrite-requires-clause-fresh c =
    ap (λ (l : LogState). l.steps) (c.in_ok-take_refutation.ensures.same c.if-branch.false)
    ∙ c.requires.fresh

-- a refutation stands with lemmas
pub returns-then-branch-clause-searched : goal.returns-then-branch-clause-searched
returns-then-branch-clause-searched c keep searched =
    c.in_ok-take_refutation.ensures.searched c.if-branch.true keep searched

-- or where it is rewritten
pub returns-clause-searched : goal.returns-clause-searched
returns-clause-searched c keep searched =
    searched_rewritten c.args.budget (c.in_ok-rewrite.ensures c.if-not-branch.false)
    c.args.merged.now.cnf c.requires.merged keep Refuted (λ values is. cc) searched
