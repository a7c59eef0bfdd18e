use Rattle.std.proofs.Common.{arith}
use Rattle.sat_count.proofs.RefutingLemmas.{begun-refutes}
use Rattle.sat_count.proofs.refutation.Refutation.of.Goals as goal

pub invariant_of-result : goal.invariant_of-result
invariant_of-result c =
    let found = begun-refutes c.args.formula.now.cnf c.vars.ensures.within
    (omega (arith, c.vars.ensures.few, c.vars.ensures.value)) in
    rw (c.len.ensures, c.vars.ensures.value, c.new.ensures) found
