-- What is wrong with a line after the head, by where it stands.
use Rattle.std.specs.Prelude.{ℕ, true, Option, Some}
use Rattle.fpga_text.specs.declared.fault.TextFault.{TextFault}
use Rattle.fpga_text.specs.Codes.{line_fault}
use Rattle.fpga_route.specs.declared.standing.Standing.{Standing}
use Rattle.fpga_route.specs.Codes.{Context, route_codes}
use Rattle.fpga_route.specs.Forms.{Form}

-- what stands before a line that stands here
abbrev pub context_at : Standing → Context
context_at at =
    record { grid = Some at.grid; in_body = true; nets = at.nets; in_global = at.in_global }

-- why a line of this form and number is refused here
abbrev pub later_fault : Standing → ℕ → Form → Option TextFault
later_fault at number form = line_fault route_codes (context_at at) number form
