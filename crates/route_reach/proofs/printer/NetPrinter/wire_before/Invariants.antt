use Rattle.std.proofs.Common.{◌≡◌, ℕ, ◌<◌, Some, true, false}
use Rattle.std.specs.Prelude.{slice_index_or}
use Rattle.route_reach.specs.Tree.{reached_at, tree_slot, tree_track}
use Rattle.route_reach.specs.declared.tree.Reached.{Reached}
use Rattle.route_reach.proofs.printer.NetPrinter.wire_before.Given as goal

abbrev pub invariant-loop-slot : goal.invariant-loop-slot
invariant-loop-slot l = (j : ℕ) → j < l.slot-index → (k : ℕ) (r : Reached)
    → reached_at l.self.tree.now k ≡ Some r
    → tree_slot l.self.tree.now k ≡ slice_index_or l.slot-items j 0
    → slice_index_or l.opened (tree_track l.self.tree.now k) false ≡ true → ⊥
