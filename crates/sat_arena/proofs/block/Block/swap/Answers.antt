use Rattle.std.proofs.Common.{refl}
use Rattle.sat_arena.proofs.BlockLemmas.{two_over}
use Rattle.sat_arena.proofs.block.Block.swap.Goals as goal

pub invariant_of-self : goal.invariant_of-self
invariant_of-self c =
    (two_over c.self.invariant c.self.view_is c.args.i c.args.j c.word-second.result
    c.word-first.result c.requires.i c.requires.j c.write.ensures c.write-2.ensures).block

pub returns : goal.returns
returns c =
    let over =
    two_over c.self.invariant c.self.view_is c.args.i c.args.j c.word-second.result
    c.word-first.result c.requires.i c.requires.j c.write.ensures c.write-2.ensures in
    rw (over.are, c.word-second.ensures, c.word-first.ensures, ← c.self.view_is) refl
