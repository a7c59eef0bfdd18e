use Rattle.sat_arena.proofs.BlockLemmas.{held}
use Rattle.sat_arena.proofs.block.Block.word.Goals as goal

pub get-requires : goal.get-requires
get-requires c = held c.self.invariant c.self.view_is c.args.index c.requires
