use Rattle.std.proofs.Common.{arith}
use Rattle.sat_check.specs.FalseStore.{slot_of}
use Rattle.route_core.proofs.WantedLemmas.{all-zero}
use Rattle.route_core.proofs.wanted.wipe.Goals as goal

pub returns-clause-told : goal.returns-clause-told
returns-clause-told c = λ m.
    all-zero c.loop-i.table.items
    (λ k low. c.loop-i.invariant.none k
    (omega (arith, low, c.loop-i-test.false, c.loop-i.invariant.many, c.len-i-end.ensures)))
    (slot_of m.code)
