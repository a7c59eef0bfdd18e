use Rattle.std.proofs.Common.{length, ap, arith}
use Rattle.std.proofs.lemmas.List.{length-reverse}
use Rattle.sat_watch.proofs.FewLemmas.{few_entries}
use Rattle.sat_core.proofs.UseLaws.{goes_further}
use Rattle.sat_core.proofs.analysis.first_point.Goals as goal

pub overflow_cast-place : goal.overflow_cast-place
overflow_cast-place c =
    let w = c.args.watches.now in
    let told = c.trail.ensures in
    let few = few_entries w.vars w.trail told.within told.once in
    omega (arith, few, length-reverse c.trail.result.now, ap length told.value, c.requires.few)

pub loop-lowest-preserved : goal.loop-lowest-preserved
loop-lowest-preserved c =
    let i = c.loop-lowest.invariant in
    let e = c.pass-lowest.ensures in
    record { goes_on = goes_further i.goes_on e.goes_on; walk = e.walk }
