-- the clauses of the nets so far were added
use Rattle.std.proofs.Common.{take}
use Rattle.std.specs.Prelude.{flat_map}
use Rattle.fpga_types.specs.Slots.{numbered_nets}
use Rattle.route_encode.specs.Adding.{Adds}
use Rattle.route_reach.specs.Encoding.{frame_of, sinks_reached}
use Rattle.route_reach.proofs.sinks.SinkReach.add_sinks.Given as goal

abbrev pub invariant-loop-n : goal.invariant-loop-n
invariant-loop-n l = Adds l.initial.formula
    (flat_map (sinks_reached (frame_of l.self.width l.self.variables.reach l.problem))
    (take l.n (numbered_nets l.problem.route))) l.formula
