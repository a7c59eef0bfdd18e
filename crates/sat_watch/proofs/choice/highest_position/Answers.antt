use Rattle.std.proofs.Common.{arith}
use Rattle.sat_watch.proofs.ChoiceLemmas.{highest_at, others_false}
use Rattle.sat_watch.proofs.choice.highest_position.Goals as goal

pub returns-clause-level : goal.returns-clause-level
returns-clause-level c =
    let t = c.args.trail.now in let lits = c.args.lits.now in let best = c.loop-k.best in
    let inv = c.loop-k.invariant in
    let done = c.loop-k-test.false in
    λ two. highest_at t.entries lits best inv.within
    (others_false t.vars t.entries lits c.args.but best c.requires.simple c.requires.only
    c.requires.but inv.within inv.other)
    (λ k lt. inv.most k (omega (arith, lt, done)))
