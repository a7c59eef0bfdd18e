-- the sinks of the ordinary nets so far are reached
use Rattle.std.proofs.Common.{◌≡◌, ℕ, ◌<◌, Some, false}
use Rattle.std.specs.Prelude.{slice_get}
use Rattle.fpga_types.specs.declared.netlist.Net.{Net}
use Rattle.route_parts.specs.Marks.{graph_in, placed_in}
use Rattle.route_parts.specs.Unreached.{AreSinksReached}
use Rattle.route_parts.proofs.unreached.PartedNets.first_net.Given as goal

abbrev pub invariant-loop-net : goal.invariant-loop-net
invariant-loop-net l = (number : ℕ) (net : Net) → number < l.net
    → slice_get (placed_in l.self).netlist.nets number ≡ Some net → net.global ≡ false
    → AreSinksReached (placed_in l.self) (graph_in l.self).width net
