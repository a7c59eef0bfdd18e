use Rattle.std.proofs.Common.{◌≡◌, ℕ, Some, true, false, sym, ap, subst, ◌∙◌}
use Rattle.std.specs.Prelude.{slice_index_or}
use Rattle.list_laws.proofs.Places.{some_is}
use Rattle.route_reach.specs.Tree.{reached_at, tree_slot, tree_track}
use Rattle.route_reach.specs.declared.tree.Reached.{Reached}
use Rattle.route_reach.proofs.PinWires.{there-is, wire-number}
use Rattle.route_reach.proofs.printer.NetPrinter.wire_in.Goals as goal

pub returns-then-is_some-clause-found : goal.returns-then-is_some-clause-found
returns-then-is_some-clause-found c = λ k same.
    let r = there-is c.reached.result (sym c.is_some.ensures ∙ c.if-is_some.true) in
    let number = wire-number c.args.self.now.tree.now c.args.slot c.loop-track.track
    c.first-first.result c.width-width.result c.first-first.ensures c.width-width.ensures
    c.if-slot-first.false c.loop-track-test.true in
    let mark : slice_index_or c.args.marks.now c.loop-track.track false ≡ true =
    c.if-marks-track.true in
    subst (λ (n : ℕ). (x : Reached) × (reached_at c.args.self.now.tree.now n ≡ Some x)
    × (tree_slot c.args.self.now.tree.now n ≡ c.args.slot)
    × (slice_index_or c.args.marks.now (tree_track c.args.self.now.tree.now n) false ≡ true))
    (some_is same) (
      r.0,
      sym c.reached.ensures ∙ r.1,
      number.0,
      ap (λ (t : ℕ). slice_index_or c.args.marks.now t false) number.1 ∙ mark,
    )
