use Rattle.std.proofs.Common.{◌≡◌, ◌≤◌, take, length, filter_map}
use Rattle.fpga_graph.specs.Around.{joint_in}
use Rattle.fpga_graph.proofs.graph.Graph.joints_around.Given as goal

-- the wires of the cells so far
abbrev pub invariant-loop-cell : goal.invariant-loop-cell
invariant-loop-cell l =
    (l.joints.items ≡ filter_map (joint_in l.self l.wire) (take l.cell-index l.cell-items))
    × (length l.joints.items ≤ l.cell-index)
