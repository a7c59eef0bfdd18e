-- the blocks so far were finished
use Rattle.std.proofs.Common.{◌≡◌, map, take}
use Rattle.fpga_net.specs.Value.{block_of}
use Rattle.fpga_net.proofs.listed.finish_all.Given as goal

abbrev pub invariant-loop-block : goal.invariant-loop-block
invariant-loop-block l = l.all.items ≡ map (block_of l.names) (take l.block-index l.blocks)
