use Rattle.std.proofs.Common.{arith}
use Rattle.sat_merge.proofs.LemmaLaws.{literals_within}
use Rattle.sat_merge.proofs.lemmas.is_kept_input.Goals as goal

pub are_kept-requires : goal.are_kept-requires
are_kept-requires c =
    literals_within c.args.formula.now.cnf.vars c.clause.result.now
    (omega (arith, c.vars-vars.ensures.few, c.vars-vars.ensures.value)) c.clause.ensures.within

pub returns : goal.returns
returns c is = (
  c.clause.result.now,
  omega arith,
  c.clause.ensures.value,
  c.are_kept.ensures.kept.0 is,
)
