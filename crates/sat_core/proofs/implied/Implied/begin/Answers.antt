use Rattle.std.proofs.Common.{ap, length, arith}
use Rattle.sat_core.specs.Implied.{WalkState}
use Rattle.sat_core.proofs.implied.Implied.begin.Goals as goal

pub invariant_of-self : goal.invariant_of-self
invariant_of-self c =
    let p = c.self.inside in
    let none = ap (λ (t : WalkState). length t.visits) c.self.view_is in
    let nil = ap length c.requires.none in
    record {
      few = omega (
        arith,
        none,
        nil,
        p.visits.ok.0,
        c.push_reserved.ensures.len,
        c.meet.ensures.some,
      );
      room = omega (
        arith,
        c.self.invariant.room,
        c.meet.ensures.meets.size,
        c.push_reserved.ensures.capacity,
      );
    }
