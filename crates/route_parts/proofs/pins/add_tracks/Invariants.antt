-- the wires of the tracks so far
use Rattle.std.proofs.Common.{◌≡◌, ◌++◌, false, map, filter}
use Rattle.std.specs.Prelude.{slice_index_or}
use Rattle.std.specs.List.{range_with_len}
use Rattle.fpga_graph.specs.Wires.{wire_in}
use Rattle.route_parts.proofs.pins.add_tracks.Given as goal

abbrev pub invariant-loop-track : goal.invariant-loop-track
invariant-loop-track l = l.wires.items ≡ l.fn.wires.items ++ map (wire_in l.cell)
    (filter (λ track. slice_index_or l.tracks track false) (range_with_len 0 l.track))
