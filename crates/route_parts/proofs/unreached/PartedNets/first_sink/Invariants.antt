-- the sinks so far are reached
use Rattle.std.proofs.Common.{◌≡◌, ℕ, ◌<◌, Some}
use Rattle.std.specs.Prelude.{slice_get}
use Rattle.fpga_types.specs.declared.netlist.PinRef.{PinRef}
use Rattle.route_parts.specs.Marks.{graph_in, placed_in}
use Rattle.route_parts.specs.Unreached.{IsSinkReached}
use Rattle.route_parts.proofs.unreached.PartedNets.first_sink.Given as goal

abbrev pub invariant-loop-number : goal.invariant-loop-number
invariant-loop-number l = (k : ℕ) (pin : PinRef) → k < l.number
    → slice_get l.net.sinks k ≡ Some pin
    → IsSinkReached (placed_in l.self) (graph_in l.self).width l.net pin
