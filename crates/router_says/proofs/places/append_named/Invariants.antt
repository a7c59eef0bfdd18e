use Rattle.std.proofs.Common.{◌≡◌, ◌++◌, take}
use Rattle.std.specs.Prelude.{flat_map, string_bytes}
use Rattle.router_says.specs.Seen.{net_said}
use Rattle.router_says.proofs.places.append_named.Given as goal

-- the nets so far were appended
abbrev pub invariant-loop-slot : goal.invariant-loop-slot
invariant-loop-slot l = string_bytes l.out
    ≡ string_bytes l.initial.out ++ flat_map (net_said l.problem) (take l.slot-index l.row)
