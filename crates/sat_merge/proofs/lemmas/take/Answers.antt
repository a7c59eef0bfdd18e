use Rattle.std.proofs.Common.{arith}
use Rattle.std.proofs.lemmas.Result.{IfOk-weaker}
use Rattle.sat_merge.proofs.LemmaLaws.{literals_within, own_at, taken_placed}
use Rattle.sat_merge.proofs.lemmas.take.Goals as goal

pub take_new-requires-clause-literals : goal.take_new-requires-clause-literals
take_new-requires-clause-literals c =
    literals_within c.args.merged.now.cnf.vars c.clause.result.now
    (omega (arith, c.vars-vars.ensures.few, c.vars-vars.ensures.value))
    c.clause.ensures.within

pub returns-then-of-ne0-clause-taken : goal.returns-then-of-ne0-clause-taken
returns-then-of-ne0-clause-taken c = λ is vars merge are.
    taken_placed are c.place_found.new.places
    (c.place_found.ensures c.args.log.now.steps merge are.lemmas)

pub returns-clause-taken : goal.returns-clause-taken
returns-clause-taken c =
    IfOk-weaker c.take_new.result _ _ (λ ok says is vars merge are.
    says is c.args.formula.now.cnf c.args.merged.now.cnf vars
    (own_at c.args.merged.now.cnf c.args.input c.clause.result.now (omega arith)
    c.clause.ensures.value)
    (taken_placed are c.place_found.new.places
    (c.place_found.ensures c.args.log.now.steps merge are.lemmas))) c.take_new.ensures.taken
