-- nothing was appended, and no net so far is one of a pair
use Rattle.std.proofs.Common.{◌≡◌, drop, map}
use Rattle.std.specs.Prelude.{string_bytes}
use Rattle.router_says.specs.AtFault.{first_pair, use_said}
use Rattle.router_says.proofs.pin_use.append_shared_class.Given as goal

abbrev pub invariant-loop-i : goal.invariant-loop-i
invariant-loop-i l = record {
  same : string_bytes l.out ≡ string_bytes l.initial.out;
  ahead : first_pair (map use_said (drop l.i l.uses)) ≡ first_pair (map use_said l.uses);
}
