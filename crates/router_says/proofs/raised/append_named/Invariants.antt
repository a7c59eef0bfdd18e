use Rattle.std.proofs.Common.{◌≡◌, ◌++◌, take}
use Rattle.std.specs.Prelude.{flat_map, string_bytes}
use Rattle.router_says.specs.Raised.{net_said}
use Rattle.router_says.proofs.raised.append_named.Given as goal

-- the nets so far were appended
abbrev pub invariant-loop-number : goal.invariant-loop-number
invariant-loop-number l = string_bytes l.out
    ≡ string_bytes l.initial.out ++ flat_map (net_said l.netlist) (take l.number-index l.row)
