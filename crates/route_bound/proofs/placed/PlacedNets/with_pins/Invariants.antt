-- the pins so far are covered, and one of them is where the span was made wider
use Rattle.std.proofs.Common.{ℕ, ◌<◌, ◌≤◌, get_or}
use Rattle.fpga_types.specs.declared.netlist.PinRef.{PinRef}
use Rattle.route_bound.specs.Spans.{Covers, WidensByAny}
use Rattle.route_bound.proofs.placed.PlacedNets.with_pins.Given as goal

abbrev pub invariant-loop-pin : goal.invariant-loop-pin
invariant-loop-pin l = record {
  low : l.wider.low ≤ l.fn.span.low;
  high : l.fn.span.high ≤ l.wider.high;
  covers : (k : ℕ) (d : PinRef) → k < l.pin-index → Covers l.self l.kind (get_or l.pins k d) l.wider;
  by : WidensByAny l.self l.kind l.pins l.fn.span l.wider;
}
