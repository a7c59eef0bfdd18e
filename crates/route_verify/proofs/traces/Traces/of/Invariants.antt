-- the nets so far have their positions
use Rattle.std.proofs.Common.{take}
use Rattle.route_verify.specs.Traces.{AreTraced}
use Rattle.route_verify.proofs.traces.Traces.of.Given as goal

abbrev pub invariant-loop-i : goal.invariant-loop-i
invariant-loop-i l = AreTraced (take l.i l.nets) l.numbers
