-- what was found and what the lines ahead make global is what all lines make global
use Rattle.std.proofs.Common.{◌≡◌, true, length}
use Rattle.std.specs.Prelude.{List, ℕ, ◌||◌}
use Rattle.fpga_text.specs.Said.{has_text}
use Rattle.fpga_net.specs.Codes.{forms_of}
use Rattle.fpga_net.specs.Forms.{globals_in}
use Rattle.fpga_net.proofs.globals.found_names.Given as goal

abbrev pub invariant-loop-line : goal.invariant-loop-line
invariant-loop-line l = (name : List ℕ) → has_text l.sought name ≡ true
    → (has_text l.found name || has_text (globals_in (forms_of l.lines.ahead)) name)
    ≡ has_text (globals_in (forms_of l.initial.lines.ahead)) name

abbrev pub decreases-loop-line : goal.decreases-loop-line
decreases-loop-line l = length l.lines.ahead
