use Rattle.std.proofs.Common.{◌≤◌, add-one, arith, get_or, pos}
use Rattle.sat_clause.specs.Literal.{lit}
use Rattle.sat_rat.specs.Counts.{count_at, one_if}
use Rattle.sat_rat.proofs.CountLaws.{times_more, times_next}
use Rattle.sat_rat.proofs.counts.Counts.take.Goals as goal

pub loop-l-preserved : goal.loop-l-preserved
loop-l-preserved c = λ m some.
    let clause = c.args.clause.now in
    let l = get_or clause c.loop-l.l-index (lit (pos 0)) in
    let before = c.loop-l.invariant m some in
    let next = times_next m clause c.loop-l.l-index (lit (pos 0)) c.loop-l-test.true in
    let left : one_if m l ≤ count_at c.loop-l.self-inside.counts.items m =
    omega (arith, before, next, some) in
    let more = times_more m clause c.loop-l.l-index (lit (pos 0)) c.loop-l-test.true in
    rw add-one (omega (arith, more, c.lower.ensures m left, before))
