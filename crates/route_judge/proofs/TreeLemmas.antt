-- The lines of a net of a routed file that nothing is against are those of a tree to its sinks.
use Rattle.std.proofs.Common.{◌≡◌, ◌≢◌, ℕ, Bool, true, false, Option, Some, None, List, get_or, take, refl, sym, ap, subst, ◌∙◌, arith}
use Rattle.std.specs.Prelude.{◌&&◌, ◌||◌, ◌==◌, Contains, not, option_map, slice_get}
use Rattle.std.specs.List.{last_or, list_any}
use Rattle.std.specs.Option.{option_map_or}
use Rattle.std.proofs.Math.Bool.{or-true}
use Rattle.std.proofs.lemmas.Bool.{eq-eqb, false≢true, not-false}
use Rattle.std.proofs.lemmas.List.Sums.{AllPass-from_list_all}
use Rattle.std.proofs.lemmas.Option.{slice_get-get_or}
use Rattle.list_laws.proofs.Members.{In, In-all, In-list_any, all-from_In, contains-In, list_any-from_In}
use Rattle.list_laws.proofs.Places.{In-place, get-In, get-take, get-taken}
use Rattle.fpga_text.specs.FirstFault.{IsFaultless}
use Rattle.fpga_types.specs.Fit.{same_elem}
use Rattle.fpga_types.specs.Fits.{has_sink}
use Rattle.fpga_types.specs.Kinds.{is_channel, is_ipin, is_sink, is_source, may_follow, same_kind, same_label, takes}
use Rattle.fpga_types.specs.Problem.{RoutingProblem}
use Rattle.fpga_types.specs.Slots.{channel_at}
use Rattle.fpga_types.specs.Sound.{IsSound, IsSoundElem, IsSoundNet}
use Rattle.fpga_types.specs.Terminals.{is_terminal, named_terminal, sinks_named}
use Rattle.fpga_types.specs.declared.grid.Axis.{Axis}
use Rattle.fpga_types.specs.declared.grid.Axis.TheVariants.{X, Y}
use Rattle.fpga_types.specs.declared.grid.Cell.{Cell}
use Rattle.fpga_types.specs.declared.grid.Wire.{Wire}
use Rattle.fpga_types.specs.declared.problem.Terminal.{Terminal}
use Rattle.fpga_types.specs.declared.route.Elem.{Elem}
use Rattle.fpga_types.specs.declared.route.ElemKind.{ElemKind}
use Rattle.fpga_types.specs.declared.route.ElemKind.TheVariants.{Source, Opin, ChanX, ChanY, Ipin, Sink}
use Rattle.fpga_types.specs.declared.route.Label.{Label}
use Rattle.fpga_types.specs.declared.route.Label.TheVariants.{Track}
use Rattle.fpga_types.specs.declared.route.RouteNet.{RouteNet}
use Rattle.route_judge.specs.Judged.{placed_route_causes}
use Rattle.route_judge.specs.Says.{IsTreeTo, StandsInTree}
use Rattle.route_judge.proofs.CleanLines.{and-second, fine, sinks-there, stood, tree-line}
use Rattle.route_judge.proofs.KindLemmas.{channel-wire, on-wire, terminal-is, wire-channel}
use Rattle.route_verify.specs.Depths.{same_tracked}
use Rattle.route_verify.specs.Lines.{has_wire, is_on_wire}
use Rattle.route_verify.specs.Wiring.{elem_wire}
use Rattle.route_verify.proofs.LegalLines.{same_label-itself}

-- the channels of an axis
abbrev along : Axis → ElemKind
along X = ChanX
along Y = ChanY

-- what the line of a wire is
record IsLineOn (e : Elem) (w : Wire) : Type 0 where
  kind : e.kind ≡ along w.cell.axis
  x : e.x ≡ w.cell.x
  y : e.y ≡ w.cell.y
  track : e.number ≡ w.track

line-on : (e : Elem) (w : Wire) → elem_wire e ≡ Some w → IsLineOn e w
line-on e w is = go e.kind refl is
  where
    made : (v : Wire) → v ≡ w → e.kind ≡ along v.cell.axis → e.x ≡ v.cell.x → e.y ≡ v.cell.y
        → e.number ≡ v.track → IsLineOn e w
    made v same kind x y track =
        subst (IsLineOn e) same (record { kind = kind; x = x; y = y; track = track })

    go : (k : ElemKind) → e.kind ≡ k
        → option_map {T = Cell} {U = Wire} (λ cell. record { cell = cell; track = e.number })
        (channel_at k e.x e.y) ≡ Some w → IsLineOn e w
    go ChanX kind h = made
        (record { cell = record { axis = X; x = e.x; y = e.y }; track = e.number }) (cc) kind refl
        refl refl
    go ChanY kind h = made
        (record { cell = record { axis = Y; x = e.x; y = e.y }; track = e.number }) (cc) kind refl
        refl refl
    go Source kind h = cc
    go Opin kind h = cc
    go Ipin kind h = cc
    go Sink kind h = cc

along-itself : (a : Axis) → same_kind (along a) (along a) ≡ true
along-itself X = refl
along-itself Y = refl

-- channel lines with tracks on one wire are equal
same-wire-lines : (e x : Elem) (w : Wire) → elem_wire e ≡ Some w → elem_wire x ≡ Some w
    → e.label ≡ Track → x.label ≡ Track → same_tracked e x ≡ true
same-wire-lines e x w first second one two =
    let p = line-on e w first in
    let q = line-on x w second in
    let kinds : same_kind e.kind x.kind ≡ true =
    (λ i. same_kind (p.kind i) (q.kind i)) ∙ along-itself w.cell.axis in
    let labels : same_label e.label x.label ≡ true = (λ i. same_label (one i) (two i)) in
    let track : (e.number == x.number) ≡ true = eq-eqb e.number x.number (p.track ∙ sym q.track) in
    rw (
      kinds,
      eq-eqb e.x x.x (p.x ∙ sym q.x),
      eq-eqb e.y x.y (p.y ∙ sym q.y),
      labels,
      track,
      or-true (is_channel e.kind),
      or-true (not (is_channel e.kind)),
    ) refl

-- another line equals what it equals without a track
same-other : (e x : Elem) → is_channel e.kind ≡ false → same_elem e x ≡ true
    → same_tracked e x ≡ true
same-other e x other same =
    (λ i. same i && (not (other i) || e.number == x.number))

-- SINK lines at one terminal are equal
same-sinks : (a b : Elem) → is_sink a.kind ≡ true → is_sink b.kind ≡ true
    → named_terminal a ≡ named_terminal b → same_elem a b ≡ true
same-sinks a b first second same =
    rw (
      kinds a.kind b.kind first second,
      eq-eqb a.x b.x (ap (λ (t : Terminal). t.x) same),
      eq-eqb a.y b.y (ap (λ (t : Terminal). t.y) same),
      (λ i. same_label ((same i).label) b.label) ∙ same_label-itself b.label,
      eq-eqb a.number b.number (ap (λ (t : Terminal). t.number) same),
      or-true (is_channel a.kind),
    ) refl
  where
    kinds : (k m : ElemKind) → is_sink k ≡ true → is_sink m ≡ true → same_kind k m ≡ true
    kinds Sink m h g = g
    kinds k m h g = absurd (false≢true h)

-- what follows a SINK is neither an IPIN nor a SINK
behind-sink : (k m : ElemKind) → may_follow k m ≡ true → is_sink k ≡ true
    → (is_ipin m ≡ false) × (is_sink m ≡ false)
behind-sink Sink Source follows is = (refl, refl)
behind-sink Sink Opin follows is = (refl, refl)
behind-sink Sink ChanX follows is = (refl, refl)
behind-sink Sink ChanY follows is = (refl, refl)
behind-sink Sink Ipin follows is = absurd (false≢true follows)
behind-sink Sink Sink follows is = absurd (false≢true follows)
behind-sink k m follows is = absurd (false≢true is)

module _ (strict : Bool) (width : ℕ) (p : RoutingProblem) (sound : IsSound p.route)
    (clean : IsFaultless (placed_route_causes strict width p)) (n : ℕ) (net : RouteNet)
    (here : slice_get p.route.nets n ≡ Some net) (ordinary : net.global ≡ false) where
  -- a channel line is labelled with its track
  labelled : (e : Elem) → In net.elems e → is_channel e.kind ≡ true → e.label ≡ Track
  labelled e among is = track e.kind e.label
      (In-all (IsSoundElem p.route.grid) net.elems e
      (In-all (IsSoundNet p.route.grid) p.route.nets net sound.nets
      (get-In p.route.nets n net here)).elems among).label is
    where
      track : (k : ElemKind) (l : Label) → takes k l ≡ true → is_channel k ≡ true → l ≡ Track
      track ChanX Track h c = refl
      track ChanY Track h c = refl
      track ChanX l h c = absurd (false≢true h)
      track ChanY l h c = absurd (false≢true h)
      track k l h c = absurd (false≢true c)

  module _ (i : ℕ) (e : Elem) (at : slice_get net.elems i ≡ Some e) where
    abbrev before : List Elem
    before = take i net.elems

    branched : (d : Elem) → last_or None before ≡ Some d → is_sink d.kind ≡ true
        → list_any (same_tracked e) before ≡ true
    branched d last sink = go (is_channel e.kind) refl
      where
        follows : may_follow d.kind e.kind ≡ true
        follows = sym (ap (λ (o : Option Elem).
            option_map_or (λ (d : Elem). may_follow d.kind e.kind) o (is_source e.kind)) last)
            ∙ (tree-line strict width p clean n net here i e at ordinary).order

        old : (list_any (same_elem e) before ≡ true)
            × ((not (is_channel e.kind) || option_map_or (has_wire before) (elem_wire e) false)
            ≡ true)
        old =
            let kinds = behind-sink d.kind e.kind follows sink in
            stood (is_ipin e.kind) (is_sink e.kind)
            (option_map_or (λ (d : Elem). is_sink d.kind) (last_or None before) false)
            (list_any (same_elem e) before)
            (not (is_channel e.kind) || option_map_or (has_wire before) (elem_wire e) false)
            (fine strict width p clean n net here i e at).joined kinds.0 kinds.1
            (ap (λ (o : Option Elem). option_map_or (λ (d : Elem). is_sink d.kind) o false) last
            ∙ sink)

        go : (b : Bool) → is_channel e.kind ≡ b → list_any (same_tracked e) before ≡ true
        go false other =
            let line = In-list_any (same_elem e) before old.0 in
            list_any-from_In (same_tracked e) before line.0 line.1
            (same-other e line.0 other line.2)
        go true channel =
            let w = channel-wire e channel in
            let on : has_wire before w.0 ≡ true =
            sym ((λ k. not (channel k) || option_map_or (has_wire before) (w.1 k) false)) ∙ old.1 in
            let line = In-list_any (is_on_wire w.0) before on in
            let spot = In-place before line.0 line.1 in
            let place = get-take net.elems i spot.0 line.0 spot.1 in
            let wire = on-wire w.0 line.0 line.2 in
            list_any-from_In (same_tracked e) before line.0 line.1
            (same-wire-lines e line.0 w.0 w.1 wire
            (labelled e (get-In net.elems i e at) channel)
            (labelled line.0 (get-In net.elems spot.0 line.0 place.1)
            (wire-channel line.0 w.0 wire)))

    stands : StandsInTree before e
    stands = record {
      order = (tree-line strict width p clean n net here i e at ordinary).order;
      branch = branched;
    }

    own-sink : is_sink e.kind ≡ true → Contains (sinks_named p net.name) (named_terminal e)
    own-sink sink =
        let sinks = sinks_named p net.name in
        let any = In-list_any (is_terminal e) sinks
        (not-false (list_any (is_terminal e) sinks)
        (and-second (is_sink e.kind) (not (list_any (is_terminal e) sinks))
        (fine strict width p clean n net here i e at).sink sink)) in
        contains-In sinks (named_terminal e)
        (subst (In sinks) (sym (terminal-is e any.0 any.2)) any.1)

    new-sink : (d : Elem) → In before d → is_sink d.kind ≡ true → is_sink e.kind ≡ true
        → named_terminal d ≢ named_terminal e
    new-sink d among first second same =
        false≢true (sym (and-second (is_sink e.kind) (list_any (same_elem e) before)
        (fine strict width p clean n net here i e at).once second)
        ∙ list_any-from_In (same_elem e) before d among
        (same-sinks e d second first (sym same)))

  pub tree : IsTreeTo (sinks_named p net.name) net.elems
  tree = record {
    lines = stands;
    each = AllPass-from_list_all (has_sink net.elems) (sinks_named p net.name)
        (sinks-there strict width p clean n net here ordinary);
    own = all-from_In
        (λ (e : Elem). is_sink e.kind ≡ true → Contains (sinks_named p net.name) (named_terminal e))
        net.elems (λ e among.
        let place = In-place net.elems e among in own-sink place.0 e place.1);
    once = λ i j x first inside.
        let d : Elem = get_or net.elems i x in
        let e : Elem = get_or net.elems j x in
        let at_d : slice_get net.elems i ≡ Some d =
        slice_get-get_or net.elems i x (omega (arith, first, inside)) in
        let at_e : slice_get net.elems j ≡ Some e = slice_get-get_or net.elems j x inside in
        new-sink j e at_e d
        (get-In (take j net.elems) i d (get-taken net.elems j i d first at_d));
  }
