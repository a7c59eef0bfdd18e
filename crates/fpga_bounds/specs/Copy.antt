-- The nets of a route with the tracks of their slots.
use Rattle.std.specs.Prelude.{ℕ, List, map}
use Rattle.std.specs.List.{enumerate_from}
use Rattle.fpga_types.specs.Legal.{with_track}
use Rattle.fpga_types.specs.declared.problem.Slot.{Slot}
use Rattle.fpga_types.specs.declared.route.RouteNet.{RouteNet}

-- the net at this position, in which each channel line has the track of its slot
abbrev pub net_with_tracks : List Slot → List ℕ → ℕ → RouteNet → RouteNet
net_with_tracks all tracks n net = record net { elems = map (with_track all tracks n) net.elems }

-- all nets, each with the tracks of its slots
abbrev pub nets_with_tracks : List Slot → List ℕ → List RouteNet → List RouteNet
nets_with_tracks all tracks nets =
    map (λ n. net_with_tracks all tracks n.0 n.1) (enumerate_from 0 nets)
