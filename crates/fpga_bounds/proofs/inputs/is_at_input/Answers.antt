use Rattle.std.proofs.Common.{◌∙◌, sym}
use Rattle.fpga_bounds.proofs.InputLemmas.{at-input, no-input}
use Rattle.fpga_bounds.proofs.inputs.is_at_input.Goals as goal

pub returns-in_default : goal.returns-in_default
returns-in_default c = λ placed has. no-input c.args.arch.now c.args.e placed (sym
    c.in_default.ensures)

pub returns : goal.returns
returns c = λ placed has.
    c.contains.ensures ∙ at-input c.args.arch.now c.args.e c.args.spots.now placed c.in-Some.spot
    has (sym c.in-Some.ensures)
