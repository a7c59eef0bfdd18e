use Rattle.std.proofs.Common.{◌+◌, refl, arith}
use Rattle.sat_arena.proofs.BlockLemmas.{two_over}
use Rattle.sat_arena.proofs.block.Block.set_number.Goals as goal

pub invariant_of-self : goal.invariant_of-self
invariant_of-self c =
    (two_over c.self.invariant c.self.view_is c.args.index (c.args.index + 1) c.lower.result
    c.upper.result (omega (arith, c.requires.inside)) c.requires.inside c.write.ensures
    c.write-2.ensures).block

pub returns : goal.returns
returns c =
    let over =
    two_over c.self.invariant c.self.view_is c.args.index (c.args.index + 1) c.lower.result
    c.upper.result (omega (arith, c.requires.inside)) c.requires.inside c.write.ensures
    c.write-2.ensures in
    rw (over.are, c.lower.ensures, c.upper.ensures, ← c.self.view_is) refl
