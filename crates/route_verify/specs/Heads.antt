-- The cause against a Net line.
use Rattle.std.specs.Prelude.{ℕ, Bool, not, ◌||◌, Option, None, Some, if◌then◌else◌}
use Rattle.fpga_text.specs.declared.fault.TextFault.{TextFault}
use Rattle.fpga_text.specs.declared.fault.TextFault.TheVariants.{Bad}
use Rattle.route_verify.specs.Causes.{number_of}
use Rattle.route_verify.specs.declared.cause.Cause.TheVariants.{MissingSink, Unfit}

-- by whether the netlist has the net in this form, an earlier Net line has its name, it is an
-- ordinary net without elements, and a sink lacks its line there
abbrev pub head_cause : (line : ℕ) → (known repeated bare lacking : Bool) → Option TextFault
head_cause line known repeated bare lacking =
    if lacking then Some (Bad line (number_of MissingSink))
    else if not known || repeated || bare then Some (Bad line (number_of Unfit)) else None
