use Rattle.std.proofs.Common.{◌≡◌, ℕ, ◌+◌, ◌*◌, ◌<◌, None, true, false}
use Rattle.std.specs.Prelude.{slice_index_or}
use Rattle.route_reach.specs.Tree.{reached_at}
use Rattle.route_reach.proofs.printer.NetPrinter.wire_in.Given as goal

abbrev pub invariant-loop-track : goal.invariant-loop-track
invariant-loop-track l = (t : ℕ) → t < l.track → slice_index_or l.marks t false ≡ true
    → reached_at l.self.tree.now (l.place * l.width + t) ≡ None
