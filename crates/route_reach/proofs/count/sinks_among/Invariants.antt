-- the sinks of the lines so far, of which the last is remembered
use Rattle.std.proofs.Common.{◌≡◌, ◌≤◌, None, length, take}
use Rattle.std.specs.List.{last_or}
use Rattle.std.specs.Prelude.{filter_map}
use Rattle.fpga_types.specs.Slots.{adjacent}
use Rattle.route_reach.specs.Ends.{sink_pin}
use Rattle.route_reach.proofs.count.sinks_among.Given as goal

abbrev pub invariant-loop-e : goal.invariant-loop-e
invariant-loop-e l = record {
  count : l.count ≡ length (filter_map sink_pin (adjacent (take l.e-index l.elems)));
  few : l.count ≤ l.e-index;
  previous : l.previous ≡ last_or None (take l.e-index l.elems);
}
