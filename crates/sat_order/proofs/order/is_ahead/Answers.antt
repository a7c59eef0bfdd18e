use Rattle.std.proofs.Common.{ℕ, List, arith}
use Rattle.sat_order.proofs.SeatLaws.{late_test}
use Rattle.sat_order.proofs.OrderLaws.{before-first, behind-all}
use Rattle.sat_order.proofs.order.is_ahead.Goals as goal

pub returns-then-count-eq0-clause-behind : goal.returns-then-count-eq0-clause-behind
returns-then-count-eq0-clause-behind c =
    λ is i in_i. absurd (omega (arith, in_i, c.if-count-eq0.true))

pub returns-clause-behind : goal.returns-clause-behind
returns-clause-behind c =
    let acts : List ℕ = c.args.activities.now in let s = c.args.seats.now in
    let l = c.in-Some.ensures.least in
    λ is. behind-all acts s c.args.count c.requires.seated c.requires.count c.requires.heap
    c.args.idle.now c.in-Some.least l.there
    (before-first acts s c.args.idle.now c.at-first.result c.in-Some.least
    c.at-first.ensures.value l (omega (arith, c.if-activities-first-gt0.false))
    (late_test c.at-first.result c.in-Some.least is))
