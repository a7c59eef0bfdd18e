use Rattle.std.proofs.Common.{◌≡◌, arith, length}
use Rattle.std.proofs.lemmas.Bool.{eqb-true}
use Rattle.sat_merge.proofs.LemmaLaws.{few_once}
use Rattle.sat_merge.proofs.lemmas.is_once.Goals as goal

pub returns-then-clause-eq2-clause-once : goal.returns-then-clause-eq2-clause-once
returns-then-clause-eq2-clause-once c = λ is n within. record {
  within = within;
  once = few_once c.args.clause.now (omega (arith, c.if-clause-eq2.true))
      (λ two. c.differ.ensures is);
}

pub returns-clause-once : goal.returns-clause-once
returns-clause-once c = λ is n within.
    let one : length c.args.clause.now ≡ 1 = eqb-true _ _ is in
    record {
      within = within;
      once = few_once c.args.clause.now (omega (arith, one))
          (λ two. absurd (c.if-clause-eq2.false two));
    }
