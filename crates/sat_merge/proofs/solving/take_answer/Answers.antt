use Rattle.std.proofs.Common.{◌∙◌, subst, sym}
use Rattle.std.proofs.lemmas.Result.{IfOk-weaker}
use Rattle.std.specs.Prelude.{Ok}
use Rattle.sat_core.specs.declared.answer.Answer.{Answer}
use Rattle.sat_core.specs.Underway.{HasSearched}
use Rattle.sat_merge.proofs.SearchedLaws.{some_weaker}
use Rattle.sat_merge.proofs.solving.take_answer.Goals as goal

-- values serve with a log without steps
pub returns-in-Model-clause-searched : goal.returns-in-Model-clause-searched
returns-in-Model-clause-searched c =
    IfOk-weaker c.try_values.result _ _ (λ found says.
    some_weaker _ _ found (λ now is keep searched.
    rw c.requires.fresh (is c.args.budget keep)) says) c.try_values.ensures.searched

pub returns-in-Spent-clause-searched : goal.returns-in-Spent-clause-searched
returns-in-Spent-clause-searched c =
    IfOk-weaker c.take_open.result _ _ (λ found says.
    some_weaker _ _ found (λ now is keep searched.
    is c.args.merged.now.cnf c.args.budget keep c.requires.merged
    (subst (λ (answer : Answer). HasSearched c.args.merged.now.cnf c.args.budget keep
    c.args.steps.now.steps (Ok answer)) c.in-Spent.is searched)) says)
    c.take_open.ensures.searched

pub returns-in-Stopped-clause-searched : goal.returns-in-Stopped-clause-searched
returns-in-Stopped-clause-searched c =
    IfOk-weaker c.take_open-in-Stopped.result _ _ (λ found says.
    some_weaker _ _ found (λ now is keep searched.
    is c.args.merged.now.cnf c.args.budget keep c.requires.merged
    (subst (λ (answer : Answer). HasSearched c.args.merged.now.cnf c.args.budget keep
    c.args.steps.now.steps (Ok answer)) c.in-Stopped.is searched)) says)
    c.take_open-in-Stopped.ensures.searched

pub returns-in-Refuted-clause-searched : goal.returns-in-Refuted-clause-searched
returns-in-Refuted-clause-searched c =
    IfOk-weaker c.take_refuted.result _ _ (λ found says.
    some_weaker _ _ found (λ now is keep searched.
    is keep (subst (λ (answer : Answer). HasSearched c.args.merged.now.cnf c.args.budget keep
    c.args.steps.now.steps (Ok answer)) c.in-Refuted.is searched)) says)
    c.take_refuted.ensures.searched

-- what is decided is not left open
pub returns-in-Model-clause-left_open : goal.returns-in-Model-clause-left_open
returns-in-Model-clause-left_open c =
    IfOk-weaker c.try_values.result _ _ (λ found says.
    some_weaker _ _ found (λ now decided none. absurd (none decided)) says)
    c.try_values.ensures.decided

pub returns-in-Refuted-clause-left_open : goal.returns-in-Refuted-clause-left_open
returns-in-Refuted-clause-left_open c =
    IfOk-weaker c.take_refuted.result _ _ (λ found says.
    some_weaker _ _ found (λ now decided none. absurd (none decided)) says)
    c.take_refuted.ensures.decided

-- and what is left open is the same answer
pub returns-in-Spent-clause-left_open : goal.returns-in-Spent-clause-left_open
returns-in-Spent-clause-left_open c =
    IfOk-weaker c.take_open.result _ _ (λ found says.
    some_weaker _ _ found (λ now same none. same ∙ sym c.in-Spent.is) says)
    c.take_open.ensures.same

pub returns-in-Stopped-clause-left_open : goal.returns-in-Stopped-clause-left_open
returns-in-Stopped-clause-left_open c =
    IfOk-weaker c.take_open-in-Stopped.result _ _ (λ found says.
    some_weaker _ _ found (λ now same none. same ∙ sym c.in-Stopped.is) says)
    c.take_open-in-Stopped.ensures.same
