use Rattle.std.proofs.Common.{take, drop, sym, ◌∙◌}
use Rattle.sat_arena.proofs.PlacesLemmas.{some_injective}
use Rattle.sat_arena.proofs.BlockLemmas.{run_held, run_is}
use Rattle.sat_arena.proofs.block.Block.run.Goals as goal

pub slice-requires : goal.slice-requires
slice-requires c =
    run_held c.self.invariant c.self.view_is c.args.from c.args.len c.requires.within
    c.requires.some

pub returns : goal.returns
returns c =
    some_injective c.slice.result.now (take c.args.len (drop c.args.from c.args.self.now.words))
    (sym c.slice.ensures ∙ run_is c.self.invariant c.self.view_is c.args.from c.args.len
    c.requires.within)
