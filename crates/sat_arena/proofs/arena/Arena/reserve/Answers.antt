use Rattle.std.proofs.Common.{arith}
use Rattle.sat_arena.proofs.WriteLemmas.{opened}
use Rattle.sat_arena.proofs.arena.Arena.reserve.Goals as goal

pub returns-clause-twice : goal.returns-clause-twice
returns-clause-twice c =
    let size = (opened c.self.view_is c.self.invariant).size in
    let len = c.len-len.ensures.value in let most = c.max.ensures in
    let room = c.in_ok-self-inside.ensures.spare in
    λ _. omega (arith, size, len, most, room)
