-- What a line that begins a block says, as the code names it.
use Rattle.fpga_net.specs.declared.begun.BegunBlock.{BegunBlock as BegunLine}
use Rattle.fpga_net.specs.Codes.{BegunBlock}

-- a block as its line begins it
abbrev pub begun_said : BegunLine → BegunBlock
begun_said block = record { name = block.name.now; kind = block.kind }
