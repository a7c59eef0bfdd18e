-- nothing was appended, and no pin so far is one
use Rattle.std.proofs.Common.{◌≡◌, drop, map}
use Rattle.std.specs.Prelude.{find, string_bytes}
use Rattle.router_says.specs.AtFault.{is_on_global_pin, use_said}
use Rattle.router_says.proofs.pin_use.append_global_pin.Given as goal

abbrev pub invariant-loop-used : goal.invariant-loop-used
invariant-loop-used l = record {
  same : string_bytes l.out ≡ string_bytes l.initial.out;
  ahead : find is_on_global_pin (map use_said (drop l.used-index l.uses))
      ≡ find is_on_global_pin (map use_said l.uses);
}
