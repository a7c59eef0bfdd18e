-- The wires of a tree that a pin reaches, and the IPINs of the net that has the tree.
use Rattle.std.proofs.Common.{◌≡◌, ℕ, zero, suc, ◌+◌, ◌-◌, ◌*◌, ◌/◌, ◌%◌, ◌<◌, ◌≤◌, Bool, true, false, Option, Some, None, List, [], ◌∷◌, length, take, drop, refl, sym, ap, subst, ◌∙◌, arith}
use Rattle.std.specs.Prelude.{◌&&◌, ◌==◌, filter_map, slice_get, is_some, if◌then◌else◌}
use Rattle.std.specs.List.{last_or}
use Rattle.std.specs.Option.{option_map_or}
use Rattle.std.proofs.lemmas.Bool.{false≢true}
use Rattle.std.proofs.lemmas.Nat.{div-mul-add, mod-mul-add}
use Rattle.list_laws.proofs.Members.{In, In-all, In-filter, In-filter_map, from_In-filter}
use Rattle.list_laws.proofs.Places.{get-In, last-push, some_is, take-get}
use Rattle.fpga_graph.specs.GraphOf.{GraphOf}
use Rattle.fpga_graph.specs.Wires.{Reaches}
use Rattle.fpga_types.specs.Boxes.{opens}
use Rattle.fpga_types.specs.Kinds.{is_ipin, is_sink, is_source, may_follow}
use Rattle.fpga_types.specs.Pins.{HasPin}
use Rattle.fpga_types.specs.Slots.{adjacent, elem_pin, slot_at, slots}
use Rattle.fpga_types.specs.Touching.{touches}
use Rattle.fpga_types.specs.declared.grid.PinAt.{PinAt}
use Rattle.fpga_types.specs.declared.problem.Slot.{Slot}
use Rattle.fpga_types.specs.declared.route.Elem.{Elem}
use Rattle.fpga_types.proofs.MeetingLemmas.{both_true}
use Rattle.route_reach.specs.Ends.{ins, sink_pin}
use Rattle.route_reach.specs.Near.{touched_slots}
use Rattle.route_reach.specs.Printing.{IsFrame, NetFrame, graph_in, wire_of}
use Rattle.route_reach.specs.Tree.{IsServed, TreeOf, reached_at, tree_slot, tree_track}
use Rattle.route_reach.specs.declared.tree.Reached.{Reached}
use Rattle.route_reach.proofs.ElemLemmas.{labelled-pin}
use Rattle.route_reach.proofs.FrameLemmas.{sound-line}
use Rattle.route_reach.proofs.NetSinks.{behind-ipin, ipin-pin as ipin-kinds}
use Rattle.route_reach.proofs.OwnLines.{in-order, last-sink}
use Rattle.route_reach.proofs.PinLines.{ins-known}
use Rattle.route_reach.proofs.Wires.{in-slots_in, is-reaches, reaches-is}

-- ---- numbers

-- the wire of a slot and a track by its number
pub wire-number : (tree : TreeOf) (slot track first width : ℕ) → first ≡ tree.first
    → width ≡ tree.width → first ≤ slot → track < width
    → (tree_slot tree ((slot - first) * width + track) ≡ slot)
    × (tree_track tree ((slot - first) * width + track) ≡ track)
wire-number tree slot track first width starts wide low less =
    let below : track < tree.width = omega (arith, wide, less) in
    let place : ((slot - first) * tree.width + track) / tree.width ≡ slot - first =
    div-mul-add (slot - first) tree.width track below in (
      ap (λ (w : ℕ). tree.first + ((slot - first) * w + track) / tree.width) wide
          ∙ ap (λ (n : ℕ). tree.first + n) place ∙ (omega (arith, starts, low)),
      ap (λ (w : ℕ). ((slot - first) * w + track) % tree.width) wide
          ∙ mod-mul-add (slot - first) tree.width track below,
    )

pub there-is : {T : Type 0} (o : Option T) → is_some o ≡ true → (x : T) × (o ≡ Some x)
there-is None h = absurd (false≢true h)
there-is (Some x) h = (x, refl)

-- ---- pins

adjacent-in : {T : Type 0} (xs : List T) (k : ℕ) (a b : T) → slice_get xs k ≡ Some a
    → slice_get xs (suc k) ≡ Some b → slice_get (adjacent xs) k ≡ Some (a, b)
adjacent-in [] k a b h g = cc
adjacent-in (x ∷ []) k a b h g = cc
adjacent-in (x ∷ y ∷ ys) zero a b h g = λ i. Some (some_is h i, some_is g i)
adjacent-in (x ∷ y ∷ ys) (suc k) a b h g = adjacent-in (y ∷ ys) k a b h g

-- a list that goes on behind a place has an element there
next-there : {T : Type 0} (xs : List T) (k : ℕ) → (length (drop k xs) == 0) ≡ false
    → (x : T) × (slice_get xs k ≡ Some x)
next-there [] zero h = absurd (false≢true (sym h))
next-there [] (suc k) h = absurd (false≢true (sym h))
next-there (x ∷ xs) zero h = (x, refl)
next-there (x ∷ xs) (suc k) h = next-there xs k h

module _ (f : NetFrame) (is : IsFrame f) where
  abbrev all : List Slot
  all = slots f.problem.route

  -- a pin reaches a wire where it touches its slot and opens its track
  module _ (g : GraphOf) (fabric : g ≡ graph_in f) (given : List Slot) (numbers : given ≡ all)
      (pin : PinAt) (k : ℕ) (r : Reached) (there : reached_at f.tree k ≡ Some r) where
    pub touched-reaches : In (touched_slots g given f.number pin) (tree_slot f.tree k)
        → opens g.arch g.width pin (tree_track f.tree k) ≡ true → Reaches g pin (wire_of f k)
    touched-reaches among open_it =
        let touched = from_In-filter (λ s. touches g.arch g.grid pin (slot_at given s).cell) _
        (tree_slot f.tree k) among in
        let cell : touches g.arch g.grid pin (slot_at all (tree_slot f.tree k)).cell ≡ true =
        ap (λ (ss : List Slot). touches g.arch g.grid pin (slot_at ss (tree_slot f.tree k)).cell)
        (sym numbers) ∙ touched.1 in
        reaches-is g pin (wire_of f k) (λ i. cell i && open_it i)

    pub reaches-touched : Reaches g pin (wire_of f k)
        → In (touched_slots g given f.number pin) (tree_slot f.tree k)
        × (opens g.arch g.width pin (tree_track f.tree k) ≡ true)
    reaches-touched h =
        let both = both_true (touches g.arch g.grid pin (wire_of f k).cell)
        (opens g.arch g.width pin (wire_of f k).track) (is-reaches g pin (wire_of f k) h) in (
          subst (λ (ss : List Slot). In (touched_slots g ss f.number pin) (tree_slot f.tree k))
              (sym numbers)
              (In-filter (λ s. touches g.arch g.grid pin (slot_at all s).cell) _
              (tree_slot f.tree k)
              (in-slots_in all f.number (tree_slot f.tree k) (is.tree.within k r there)
              (is.tree.own k r there)) both.0),
          both.1,
        )

  -- the IPIN lines of the net
  module _ (i : ℕ) (e : Elem) (at : slice_get f.net.elems i ≡ Some e)
      (ipin : is_ipin e.kind ≡ true) where
    pub ipin-pin : (pin : PinAt) × (elem_pin e ≡ Some pin)
    ipin-pin = labelled-pin e (ipin-kinds e.kind ipin).0
        (sound-line f is e (get-In f.net.elems i e at)).label

    next : (b : Elem) × (slice_get f.net.elems (suc i) ≡ Some b) × (is_sink b.kind ≡ true)
    next = go (length (drop (suc i) f.net.elems) == 0) refl
      where
        go : (last : Bool) → (length (drop (suc i) f.net.elems) == 0) ≡ last
            → (b : Elem) × (slice_get f.net.elems (suc i) ≡ Some b) × (is_sink b.kind ≡ true)
        go true last = absurd (false≢true (sym (ipin-kinds e.kind ipin).2
            ∙ last-sink f is i e at last))
        go false more =
            let b = next-there f.net.elems (suc i) more in
            let before : last_or None (take (suc i) f.net.elems) ≡ Some e =
            ap (last_or None) (take-get f.net.elems i e at) ∙ last-push None (take i f.net.elems) e
            in
            let order : may_follow e.kind b.0.kind ≡ true =
            sym (ap (λ (o : Option Elem). option_map_or (λ (a : Elem). may_follow a.kind b.0.kind)
            o (is_source b.0.kind)) before) ∙ in-order f is (suc i) b.0 b.1 in
            (b.0, b.1, behind-ipin e.kind b.0.kind order ipin)

    sink-pin : (pin : PinAt) → elem_pin e ≡ Some pin
        → In (filter_map sink_pin (adjacent f.net.elems)) pin
    sink-pin pin has =
        In-filter_map sink_pin (adjacent f.net.elems) (e, next.0) pin
        (get-In (adjacent f.net.elems) i (e, next.0)
        (adjacent-in f.net.elems i e next.0 at next.1))
        ((λ n. if next.2 n then (if ipin n then elem_pin e else None) else None) ∙ has)

    -- its pin is one of the architecture's, and reaches a wire of the tree
    pub ipin-known : (pin : PinAt) → elem_pin e ≡ Some pin → HasPin f.problem.arch pin
    ipin-known pin has = In-all (HasPin f.problem.arch)
        (filter_map sink_pin (adjacent f.net.elems)) pin
        (ins-known f.problem is.fits f.number f.net is.here) (sink-pin pin has)

    pub ipin-served : (pin : PinAt) → elem_pin e ≡ Some pin
        → IsServed (graph_in f) all f.tree pin
    ipin-served pin has = In-all (IsServed (graph_in f) all f.tree) (ins f.net) pin is.serves
        (subst (λ (b : Bool). In (if b then [] else filter_map sink_pin (adjacent f.net.elems)) pin)
        (sym is.ordinary) (sink-pin pin has))
