use Rattle.std.proofs.Common.{◌≡◌, ◌++◌, map, filter}
use Rattle.std.specs.List.{range_with_len}
use Rattle.fpga_types.specs.Boxes.{opens}
use Rattle.fpga_graph.specs.Wires.{wire_in}
use Rattle.fpga_graph.proofs.beside.add_opened.Given as goal

-- the wires of the tracks so far
abbrev pub invariant-loop-track : goal.invariant-loop-track
invariant-loop-track l = l.wires.items ≡ l.fn.wires.items
    ++ map (wire_in l.cell) (filter (opens l.arch l.width l.pin) (range_with_len 0 l.track))
