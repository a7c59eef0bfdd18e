-- the lines of the nets so far were appended
use Rattle.std.proofs.Common.{◌≡◌, ◌++◌, take}
use Rattle.std.specs.Prelude.{flat_map}
use Rattle.run_placed.specs.Bound.{net_line}
use Rattle.run_placed.proofs.bounding.append_nets.Given as goal

abbrev pub invariant-loop-number : goal.invariant-loop-number
invariant-loop-number l = l.lines.items
    ≡ l.initial.lines.items ++ flat_map (net_line l.netlist) (take l.number-index l.numbers)
