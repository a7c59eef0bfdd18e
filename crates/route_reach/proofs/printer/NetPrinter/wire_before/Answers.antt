use Rattle.std.proofs.Common.{◌≡◌, ◌<◌, List, Some, length, get_or, sym, subst, ◌∙◌, arith}
use Rattle.std.specs.Prelude.{ℕ}
use Rattle.std.proofs.lemmas.Option.{get_or_from_slice_get, slice_get_within}
use Rattle.list_laws.proofs.Members.{In, In-get}
use Rattle.list_laws.proofs.Places.{In-place, some_is}
use Rattle.fpga_bounds.specs.Pairs.{AreDistinct}
use Rattle.fpga_bounds.proofs.PairLemmas.{slots-distinct}
use Rattle.fpga_graph.specs.Wires.{Reaches}
use Rattle.route_reach.specs.Near.{touched_slots}
use Rattle.route_reach.specs.Printer.{frame_of}
use Rattle.route_reach.specs.Printing.{wire_of}
use Rattle.route_reach.specs.Tree.{reached_at, tree_slot, tree_track}
use Rattle.route_reach.specs.declared.tree.Reached.{Reached}
use Rattle.route_reach.proofs.PinWires.{reaches-touched, touched-reaches}
use Rattle.route_reach.proofs.printer.NetPrinter.wire_before.Goals as goal

pub touched_slots-slots-requires-clause-distinct : goal.touched_slots-slots-requires-clause-distinct
touched_slots-slots-requires-clause-distinct c =
    subst AreDistinct (sym c.requires.is.numbers) (slots-distinct c.args.self.now.problem.now.route)

pub returns-in-Some-clause-found : goal.returns-in-Some-clause-found
returns-in-Some-clause-found c = λ k same.
    let found = c.wire_in.ensures.found c.in-Some.k c.in-Some.is in
    let items : List ℕ = c.as_slice-slot-items.result.now in
    let are : items ≡ touched_slots c.args.self.now.graph.now c.args.self.now.numbers.now
    c.args.self.now.number c.args.pin =
    c.as_slice-slot-items.ensures.value ∙ c.touched_slots-slots.ensures in
    let among : In items (get_or items c.loop-slot.slot-index 0) =
    In-get items c.loop-slot.slot-index 0 c.loop-slot-test.true in
    let touched : In (touched_slots c.args.self.now.graph.now c.args.self.now.numbers.now
    c.args.self.now.number c.args.pin) (tree_slot c.args.self.now.tree.now c.in-Some.k) =
    subst (λ (ss : List ℕ). In ss (tree_slot c.args.self.now.tree.now c.in-Some.k)) are
    (subst (In items) (sym found.2) among) in
    subst (λ (n : ℕ). (x : Reached) × (reached_at c.args.self.now.tree.now n ≡ Some x)
    × Reaches c.args.self.now.graph.now c.args.pin (wire_of (frame_of c.args.self.now) n))
    (some_is same) (
      found.0,
      found.1,
      touched-reaches (frame_of c.args.self.now) c.requires.is.frame c.args.self.now.graph.now
          c.requires.is.graph c.args.self.now.numbers.now c.requires.is.numbers c.args.pin
          c.in-Some.k found.0 found.1 touched
          (sym (c.opened-opened.ensures (tree_track c.args.self.now.tree.now c.in-Some.k))
          ∙ found.3),
    )

pub returns-clause-none : goal.returns-clause-none
returns-clause-none c = λ none k r there reaches_it.
    let items : List ℕ = c.as_slice-slot-items.result.now in
    let are : items ≡ touched_slots c.args.self.now.graph.now c.args.self.now.numbers.now
    c.args.self.now.number c.args.pin =
    c.as_slice-slot-items.ensures.value ∙ c.touched_slots-slots.ensures in
    let at = reaches-touched (frame_of c.args.self.now) c.requires.is.frame
    c.args.self.now.graph.now c.requires.is.graph c.args.self.now.numbers.now
    c.requires.is.numbers c.args.pin k r there reaches_it in
    let place = In-place items (tree_slot c.args.self.now.tree.now k)
    (subst (λ (ss : List ℕ). In ss (tree_slot c.args.self.now.tree.now k)) (sym are) at.0) in
    let inside : place.0 < length items =
    slice_get_within items place.0 (tree_slot c.args.self.now.tree.now k) place.1 in
    let past = c.loop-slot-test.false in
    c.loop-slot.invariant place.0 (omega (arith, inside, past)) k r there
    (sym (get_or_from_slice_get items place.0 (tree_slot c.args.self.now.tree.now k) 0 place.1))
    (c.opened-opened.ensures (tree_track c.args.self.now.tree.now k) ∙ at.1)
