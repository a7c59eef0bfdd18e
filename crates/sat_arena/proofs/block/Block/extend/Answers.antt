use Rattle.sat_arena.proofs.BlockLemmas.{words_behind}
use Rattle.sat_arena.proofs.block.Block.extend.Goals as goal

pub invariant_of-self : goal.invariant_of-self
invariant_of-self c =
    (words_behind c.self.invariant c.self.view_is c.args.words.now c.requires
    c.write_all.ensures.row c.write_all.ensures.size c.write_all.ensures.behind).block

pub returns-clause-words : goal.returns-clause-words
returns-clause-words c =
    (words_behind c.self.invariant c.self.view_is c.args.words.now c.requires
    c.write_all.ensures.row c.write_all.ensures.size c.write_all.ensures.behind).are
