use Rattle.std.proofs.Common.{refl}
use Rattle.sat_arena.proofs.BlockLemmas.{word_over}
use Rattle.sat_arena.proofs.block.Block.set.Goals as goal

pub invariant_of-self : goal.invariant_of-self
invariant_of-self c =
    (word_over c.self.invariant c.self.view_is c.args.index c.args.word c.requires
    c.write.ensures).block

pub returns : goal.returns
returns c =
    let over =
    word_over c.self.invariant c.self.view_is c.args.index c.args.word c.requires
    c.write.ensures in
    rw (over.are, ← c.self.view_is) refl
