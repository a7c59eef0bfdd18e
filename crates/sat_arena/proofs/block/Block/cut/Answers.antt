use Rattle.sat_arena.proofs.BlockLemmas.{words_cut}
use Rattle.sat_arena.proofs.block.Block.cut.Goals as goal

pub invariant_of-self : goal.invariant_of-self
invariant_of-self c = (words_cut c.self.invariant c.self.view_is c.args.len c.requires).block

pub returns-clause-words : goal.returns-clause-words
returns-clause-words c = (words_cut c.self.invariant c.self.view_is c.args.len c.requires).are
