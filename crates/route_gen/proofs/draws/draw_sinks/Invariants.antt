use Rattle.std.proofs.Common.{◌≡◌}
use Rattle.route_gen.specs.Draws.{drawing, input_table, sinks_of}
use Rattle.route_gen.proofs.draws.draw_sinks.Given as goal

abbrev pub invariant-loop-net : goal.invariant-loop-net
invariant-loop-net l = record {
  state : l.rand ≡ (drawing l.fn.seed l.side l.net).state;
  sinks : l.sinks.items ≡ sinks_of l.fn.seed l.side l.net;
  inputs : l.inputs.items ≡ input_table l.side (sinks_of l.fn.seed l.side l.net);
}
