-- A net of a problem's global route, and the wires of its tree.
use Rattle.std.proofs.Common.{◌≡◌, ℕ, ◌+◌, ◌*◌, ◌/◌, ◌%◌, ◌<◌, true, false, Option, Some, List, [], take, refl, sym, ap, subst, ◌∙◌, arith}
use Rattle.std.specs.Prelude.{◌&&◌, not, nat_lt, filter_map, slice_get}
use Rattle.std.specs.List.{list_any}
use Rattle.std.specs.Option.{option_map_or}
use Rattle.std.proofs.Math.Bool.{and-false}
use Rattle.std.proofs.Math.Nat.{mod-add-div, mod-lt}
use Rattle.std.proofs.lemmas.Bool.{false≢true}
use Rattle.std.proofs.lemmas.Bool.Decides.{Decides-ltb}
use Rattle.list_laws.proofs.Members.{In, In-all, In-contains, from_In-filter_map, list_any-from_In}
use Rattle.list_laws.proofs.Places.{find-first, get-In, some_is}
use Rattle.fpga_types.specs.Fit.{same_elem}
use Rattle.fpga_types.specs.Kinds.{is_channel, same_label, takes}
use Rattle.fpga_types.specs.Slots.{channel_at, elem_cell, slot_at, slots}
use Rattle.fpga_types.specs.Sound.{IsSoundElem, IsSoundNet}
use Rattle.fpga_types.specs.declared.grid.Cell.{Cell}
use Rattle.fpga_types.specs.declared.grid.Wire.{Wire}
use Rattle.fpga_types.specs.declared.problem.Slot.{Slot}
use Rattle.fpga_types.specs.declared.route.Elem.{Elem}
use Rattle.fpga_types.specs.declared.route.ElemKind.{ElemKind}
use Rattle.fpga_types.specs.declared.route.ElemKind.TheVariants.{Source, Opin, ChanX, ChanY, Ipin, Sink}
use Rattle.fpga_types.specs.declared.route.Label.{Label}
use Rattle.fpga_types.specs.declared.route.Label.TheVariants.{Track}
use Rattle.fpga_types.specs.declared.route.RouteNet.{RouteNet}
use Rattle.fpga_types.proofs.FitsLemmas.{Fits-line}
use Rattle.fpga_types.proofs.NameLaws.{name_itself}
use Rattle.fpga_bounds.specs.NetFit.{head_line}
use Rattle.fpga_bounds.proofs.LineLemmas.{elem_line}
use Rattle.route_reach.specs.Printing.{IsFrame, IsOwn, NetFrame, wire_line, wire_of}
use Rattle.route_reach.specs.Tree.{reached_at, tree_slot}
use Rattle.route_reach.specs.declared.tree.Reached.{Reached}
use Rattle.route_reach.proofs.LineFacts.{cell-same, line-channel}
use Rattle.route_reach.proofs.Wires.{one-slot, slot-on_trace}
use Rattle.route_verify.specs.Lines.{is_stray_in, is_trace_named, trace_named}
use Rattle.route_verify.proofs.FittingLine.{IsFitting, fitting}
use Rattle.route_verify.proofs.TrackedLines.{elem-among, head-among}

-- a channel line that takes its label is labelled as one
cell-label : (e : Elem) (cell : Cell) → elem_cell e ≡ Some cell → takes e.kind e.label ≡ true
    → same_label e.label Track ≡ true
cell-label e cell is label = go e.kind e.label is label
  where
    go : (k : ElemKind) (l : Label) → channel_at k e.x e.y ≡ Some cell → takes k l ≡ true
        → same_label l Track ≡ true
    go ChanX Track h t = refl
    go ChanY Track h t = refl
    go ChanX l h t = absurd (false≢true t)
    go ChanY l h t = absurd (false≢true t)
    go Source l h t = cc
    go Opin l h t = cc
    go Ipin l h t = cc
    go Sink l h t = cc

module _ (f : NetFrame) (is : IsFrame f) where
  abbrev nets : List RouteNet
  nets = f.problem.route.nets

  abbrev all : List Slot
  all = slots f.problem.route

  -- the lines of the net fit
  pub fits-at : (j : ℕ) (e : Elem) → slice_get f.net.elems j ≡ Some e
      → IsFitting f.problem (elem_line (take f.number nets) f.net j e)
  fits-at j e at = fitting f.problem (elem_line (take f.number nets) f.net j e)
      (Fits-line f.problem is.fits (elem_line (take f.number nets) f.net j e)
      (elem-among nets f.number f.net j e is.here at))

  pub head-fits : IsFitting f.problem (head_line (take f.number nets) f.net)
  head-fits = fitting f.problem (head_line (take f.number nets) f.net)
      (Fits-line f.problem is.fits (head_line (take f.number nets) f.net)
      (head-among nets f.number f.net is.here))

  -- the trace by its name is that of the net
  pub trace : trace_named nets f.net.name ≡ f.net.elems
  trace = ap (λ (o : Option RouteNet). option_map_or (λ (other : RouteNet). other.elems) o [])
      (find-first (is_trace_named f.net.name) nets f.number f.net is.here head-fits.first
      (name_itself f.net.name))

  pub sound-line : (e : Elem) → In f.net.elems e → IsSoundElem f.problem.route.grid e
  sound-line e i =
      let sound : IsSoundNet f.problem.route.grid f.net =
      In-all (IsSoundNet f.problem.route.grid) nets f.net is.given.route.nets
      (get-In nets f.number f.net is.here) in
      In-all (IsSoundElem f.problem.route.grid) f.net.elems e sound.elems i

  module _ (k : ℕ) (r : Reached) (there : reached_at f.tree k ≡ Some r) where
    -- the cell of the wire has a line in the net
    wire-there : list_any (same_elem (wire_line (wire_of f k))) f.net.elems ≡ true
    wire-there =
        let slot : Slot = slot_at all (tree_slot f.tree k) in
        let on = slot-on_trace f.problem.route (tree_slot f.tree k) (is.tree.within k r there) in
        let net : f.net ≡ on.0 =
        some_is (sym is.here ∙ ap (slice_get nets) (sym (is.tree.own k r there)) ∙ on.1) in
        let line = from_In-filter_map elem_cell on.0.elems slot.cell
        (In-contains (filter_map elem_cell on.0.elems) slot.cell on.2) in
        let among : In f.net.elems line.0 =
        subst (λ (n : RouteNet). In n.elems line.0) (sym net) line.1 in
        list_any-from_In (same_elem (wire_line (wire_of f k))) f.net.elems line.0 among
        (cell-same line.0 (wire_of f k) line.2
        (cell-label line.0 slot.cell line.2 (sound-line line.0 among).label))

    pub wire-near : is_stray_in nets f.net.name (wire_line (wire_of f k)) ≡ false
    wire-near = (λ i. is_channel (wire_line (wire_of f k)).kind
        && not (list_any (same_elem (wire_line (wire_of f k))) (trace i)))
        ∙ (λ i. is_channel (wire_line (wire_of f k)).kind && not (wire-there i))
        ∙ and-false (is_channel (wire_line (wire_of f k)).kind)

    some-tracks : 0 < f.tree.width
    some-tracks = omega (arith, is.wide, is.tree.width)

    -- its track is below the width
    pub wire-low : nat_lt (wire_of f k).track f.width ≡ true
    wire-low =
        let low : k % f.tree.width < f.tree.width = mod-lt k some-tracks in
        (Decides-ltb (k % f.tree.width) f.width).1 (omega (arith, low, is.tree.width))

  -- each wire has one number
  pub one-number : (j k : ℕ) (q r : Reached) → reached_at f.tree j ≡ Some q
      → reached_at f.tree k ≡ Some r → wire_of f j ≡ wire_of f k → j ≡ k
  one-number j k q r there here same =
      let width : ℕ = f.tree.width in
      let slots_same : slot_at all (tree_slot f.tree j) ≡ slot_at all (tree_slot f.tree k) =
      (λ i. record {
        net = (is.tree.own j q there ∙ sym (is.tree.own k r here)) i;
        cell = (same i).cell;
      }) in
      let slot : tree_slot f.tree j ≡ tree_slot f.tree k =
      one-slot f.problem.route (tree_slot f.tree j) (tree_slot f.tree k)
      (is.tree.within j q there) (is.tree.within k r here) slots_same in
      let rows : j / width ≡ k / width = omega (arith, slot) in
      let tracks : j % width ≡ k % width = ap (λ (w : Wire). w.track) same in
      sym (mod-add-div j width) ∙ (λ i. tracks i + width * rows i) ∙ mod-add-div k width

  -- the line on a wire is one of the net's own
  pub wire-own : (k : ℕ) (r : Reached) → reached_at f.tree k ≡ Some r
      → IsOwn f (wire_line (wire_of f k))
  wire-own k r there = record {
    pin = λ other. absurd (false≢true (sym other ∙ line-channel (wire_of f k)));
    wire = λ channel. (k, r, there, refl);
  }
