-- the spots of the blocks so far
use Rattle.std.proofs.Common.{take}
use Rattle.std.specs.Prelude.{zip}
use Rattle.fpga_bounds.specs.Inputs.{HasInputs}
use Rattle.fpga_bounds.proofs.inputs.input_spots.Given as goal

abbrev pub invariant-loop-i : goal.invariant-loop-i
invariant-loop-i l = HasInputs l.spots (take l.i (zip l.blocks l.places))
