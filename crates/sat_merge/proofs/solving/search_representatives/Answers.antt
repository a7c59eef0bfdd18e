use Rattle.std.proofs.Common.{◌∙◌, subst}
use Rattle.std.proofs.lemmas.Result.{IfOk-weaker}
use Rattle.sat_core.specs.Answer.{IsAnswer}
use Rattle.sat_merge.proofs.SearchedLaws.{decided_alike, some_weaker, stopped_alike}
use Rattle.sat_merge.proofs.solving.search_representatives.Goals as goal

-- values of the representatives are as many as the variables
pub take_answer-requires-clause-values : goal.take_answer-requires-clause-values
take_answer-requires-clause-values g c values is =
    let serves = subst (IsAnswer c.args.merged.now.cnf c.args.budget c.solve.new.log.steps) is
    c.in-Ok.ensures.answer in
    serves.one_each ∙ c.requires.merged.vars

pub returns-clause-searched : goal.returns-clause-searched
returns-clause-searched g c =
    IfOk-weaker c.take_answer.result _ _ (λ found says.
    some_weaker _ _ found (λ now is.
    is c.args.keep (record {
      answer = c.in-Ok.ensures.answer;
      logged = c.in-Ok.ensures.logged;
      within = c.in-Ok.ensures.within;
      kept = c.in-Ok.ensures.kept;
    })) says) c.take_answer.ensures.searched

pub returns-clause-decided : goal.returns-clause-decided
returns-clause-decided g c =
    IfOk-weaker c.take_answer.result _ _ (λ found says.
    some_weaker _ _ found (λ now is room.
    decided_alike now c.in-Ok.answer is
    (c.in-Ok.ensures.decided (rw c.requires.merged.vars room))) says)
    c.take_answer.ensures.left_open

-- it is stopped where the search over the representatives was
pub returns-clause-stopped : goal.returns-clause-stopped
returns-clause-stopped g c =
    IfOk-weaker c.take_answer.result _ _ (λ found says.
    some_weaker _ _ found (λ now is stopped.
    c.in-Ok.ensures.stopped (stopped_alike now c.in-Ok.answer is stopped)) says)
    c.take_answer.ensures.left_open
