-- the tracks are marked that the pins of the lines so far reach
use Rattle.std.proofs.Common.{◌≡◌, ℕ, false, filter_map, slice_index_or, take}
use Rattle.std.specs.List.{list_any}
use Rattle.fpga_graph.specs.Wires.{wire_in}
use Rattle.route_reach.specs.Encoding.{reaches}
use Rattle.route_reach.specs.Ends.{opin_of}
use Rattle.route_reach.proofs.source.row_of_outs.Given as goal

abbrev pub invariant-loop-e : goal.invariant-loop-e
invariant-loop-e l = (t : ℕ) → slice_index_or l.row t false
    ≡ list_any (λ out. reaches l.graph out (wire_in l.cell t))
    (filter_map opin_of (take l.e-index l.elems))
