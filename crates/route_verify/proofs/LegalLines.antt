-- No cause holds at a line of a problem's route with the tracks of a legal routing.
use Rattle.std.proofs.Common.{◌≡◌, ℕ, zero, suc, ◌+◌, Bool, true, false, Option, Some, None, List, [], ◌∷◌, ◌++◌, take, refl, sym, ap, ◌∙◌}
use Rattle.std.specs.Prelude.{◌&&◌, ◌||◌, map, not, option_map, slice_get, if◌then◌else◌}
use Rattle.std.specs.List.{last_or, list_any}
use Rattle.std.specs.Option.{option_map_or, option_or}
use Rattle.std.proofs.lemmas.Bool.{eq-eqb, false≢true, or_parts}
use Rattle.list_laws.proofs.Members.{list_any-from_In}
use Rattle.list_laws.proofs.Places.{find-first, get-In, get-before, last-changed, last-push, take-get}
use Rattle.fpga_graph.specs.GraphOf.{GraphOf}
use Rattle.fpga_text.specs.Codes.{first_code}
use Rattle.fpga_text.specs.FirstFault.{Faults, IsFaultless, first_fault}
use Rattle.fpga_text.specs.declared.fault.TextFault.{TextFault}
use Rattle.fpga_text.specs.declared.fault.TextFault.TheVariants.{Bad}
use Rattle.fpga_text.proofs.FaultLemmas.{faultless-line, first_fault-append, option_or-none}
use Rattle.fpga_types.specs.Fit.{RouteLine, context_of, route_lines, same_elem}
use Rattle.fpga_types.specs.Fits.{Fits, array_fault, end_fault, lacks_net, lacks_sink, net_line_fault, same_size}
use Rattle.fpga_types.specs.Kinds.{is_channel, same_kind, same_label}
use Rattle.fpga_types.specs.Legal.{IsLegalFor, route_of}
use Rattle.fpga_types.specs.Problem.{RoutingProblem}
use Rattle.fpga_types.specs.Slots.{channel_at, elem_slot, slots}
use Rattle.fpga_types.specs.Sound.{IsSound}
use Rattle.fpga_types.specs.declared.grid.Axis.TheVariants.{X, Y}
use Rattle.fpga_types.specs.declared.netlist.Net.{Net}
use Rattle.fpga_types.specs.declared.problem.Slot.{Slot}
use Rattle.fpga_types.specs.declared.route.Elem.{Elem}
use Rattle.fpga_types.specs.declared.route.ElemKind.{ElemKind}
use Rattle.fpga_types.specs.declared.route.ElemKind.TheVariants.{Source, Opin, ChanX, ChanY, Ipin, Sink}
use Rattle.fpga_types.specs.declared.route.Label.{Label}
use Rattle.fpga_types.specs.declared.route.Label.TheVariants.{Class, Pin, Pad, Track}
use Rattle.fpga_types.specs.declared.route.RouteNet.{RouteNet}
use Rattle.fpga_types.specs.declared.route.RouteText.{RouteText}
use Rattle.fpga_types.proofs.FitsLemmas.{Fits-line}
use Rattle.fpga_bounds.specs.NetFit.{head_line}
use Rattle.fpga_bounds.proofs.LineLemmas.{elem_line}
use Rattle.fpga_types.proofs.NameLaws.{name_itself}
use Rattle.route_verify.specs.Judged.{array_cause, causes, end_cause, graph_of, judged, judgement_by, line_cause, line_causes}
use Rattle.route_verify.specs.Lines.{JudgedLine, is_stray_in, is_too_high, is_unconnected, is_unfit, repeats_cell, is_trace_named, judged_line, trace_named}
use Rattle.route_verify.specs.Wiring.{are_parted, are_unconnected, elem_wire, misses, pin_on}
use Rattle.route_verify.specs.declared.judgement.Judgement.TheVariants.{Legal}
use Rattle.route_verify.proofs.CodeLemmas.{faultless-lines}
use Rattle.route_verify.proofs.FittingLine.{IsFitting, fitting}
use Rattle.route_verify.proofs.LegalWires.{alone, connected, not-past}
use Rattle.route_verify.proofs.SlotWires.{met-again}
use Rattle.route_verify.proofs.TrackLemmas.{has_net-tracked, tracked}
use Rattle.route_verify.proofs.TrackedLines.{elem-among, head-among, lines-tracked, route_of-is, tracked_line, tracked_route}
use Rattle.route_verify.proofs.UnreadTests.{cell-again, elem-unfit, head-unfit, lacking-tracked}

-- nothing is unconnected where nothing stands before
nothing-before : (g : GraphOf) (o : Option Elem) → are_unconnected g None o ≡ false
nothing-before g None = refl
nothing-before g (Some e) = λ k. parted (elem_wire e) k || missed (elem_wire e) k
    || missed_pin (pin_on (Some e)) k
  where
    parted : (w : Option _) → are_parted g None w ≡ false
    parted None = refl
    parted (Some w) = refl

    missed : (w : Option _) → misses g None w ≡ false
    missed None = refl
    missed (Some w) = refl

    missed_pin : (pin : Option _) → misses g pin None ≡ false
    missed_pin None = refl
    missed_pin (Some pin) = refl

-- a line equals itself, whatever its number was if it is a channel
pub same_kind-itself : (kind : ElemKind) → same_kind kind kind ≡ true
same_kind-itself Source = refl
same_kind-itself Opin = refl
same_kind-itself ChanX = refl
same_kind-itself ChanY = refl
same_kind-itself Ipin = refl
same_kind-itself Sink = refl

pub same_label-itself : (label : Label) → same_label label label ≡ true
same_label-itself Class = refl
same_label-itself Pin = refl
same_label-itself Pad = refl
same_label-itself Track = refl

same_channel-itself : (e : Elem) (number : ℕ) → is_channel e.kind ≡ true
    → same_elem (record e { number = number }) e ≡ true
same_channel-itself e number is = rw (
  same_kind-itself e.kind,
  eq-eqb e.x e.x refl,
  eq-eqb e.y e.y refl,
  same_label-itself e.label,
  is,
) refl

-- a channel line has a slot
channel-slot : (n : ℕ) (e : Elem) → is_channel e.kind ≡ true
    → (s : Slot) × (elem_slot n e ≡ Some s)
channel-slot n e is = go e.kind is
  where
    go : (kind : ElemKind) → is_channel kind ≡ true → (s : Slot)
        × (option_map (λ cell. record { net = n; cell = cell }) (channel_at kind e.x e.y) ≡ Some s)
    go ChanX c = (record { net = n; cell = record { axis = X; x = e.x; y = e.y } }, refl)
    go ChanY c = (record { net = n; cell = record { axis = Y; x = e.x; y = e.y } }, refl)
    go kind c = absurd (false≢true c)

-- none of the causes holds at a line
record HasNoCause (g : GraphOf) (at : JudgedLine) : Type 0 where
  connected : is_unconnected g at ≡ false
  low : is_too_high g at ≡ false
  alone : at.wire_taken ≡ false
  near : at.stray ≡ false
  new : repeats_cell at ≡ false
  whole : at.fit.lacking ≡ false
  fitting : is_unfit g at ≡ false

uncaused : (g : GraphOf) (at : JudgedLine) (n : ℕ) → HasNoCause g at
    → first_code line_causes g n at ≡ None
uncaused g at n c =
    λ i. if c.connected i then Some (Bad n 801) else if c.low i then Some (Bad n 802)
    else if c.alone i then Some (Bad n 803) else if c.near i then Some (Bad n 804)
    else if c.new i then Some (Bad n 805) else if c.whole i then Some (Bad n 806)
    else if c.fitting i then Some (Bad n 807) else None

module _ (p : RoutingProblem) (sound : IsSound p.route) (fits : Fits p) (width : ℕ)
    (tracks : List ℕ) (legal : IsLegalFor p.arch width p.route tracks) where
  abbrev all : List Slot
  all = slots p.route

  abbrev nets : List RouteNet
  nets = p.route.nets

  -- no line of the global route has a code of the fit
  head-fits : (n : ℕ) (net : RouteNet) → slice_get nets n ≡ Some net
      → IsFitting p (head_line (take n nets) net)
  head-fits n net here = fitting p (head_line (take n nets) net)
      (Fits-line p fits (head_line (take n nets) net) (head-among nets n net here))

  elem-fits : (n : ℕ) (net : RouteNet) (i : ℕ) (e : Elem) → slice_get nets n ≡ Some net
      → slice_get net.elems i ≡ Some e → IsFitting p (elem_line (take n nets) net i e)
  elem-fits n net i e here at = fitting p (elem_line (take n nets) net i e)
      (Fits-line p fits (elem_line (take n nets) net i e) (elem-among nets n net i e here at))

  -- there is none against a Net line
  head-legal : (n : ℕ) (net : RouteNet) → slice_get nets n ≡ Some net
      → line_cause width p (tracked_line all tracks n (head_line (take n nets) net)) ≡ None
  head-legal n net here =
      let line : RouteLine = head_line (take n nets) net in
      let fit = head-fits n net here in
      uncaused (graph_of width p) (judged_line p (tracked_line all tracks n line)) net.line
      (record {
        connected = refl;
        low = refl;
        alone = refl;
        near = refl;
        new = refl;
        whole = lacking-tracked all tracks p width n line ∙ fit.once;
        fitting = head-unfit all tracks p width n (take n nets) net fit;
      })

  module _ (n : ℕ) (net : RouteNet) (i : ℕ) (e : Elem) (here : slice_get nets n ≡ Some net)
      (at : slice_get net.elems i ≡ Some e) where
    abbrev retracked : Elem → Elem
    retracked = tracked all tracks n

    abbrev line : RouteLine
    line = elem_line (take n nets) net i e

    -- the line is connected with the one before
    joined : are_unconnected (graph_of width p) (last_or None (map retracked (take i net.elems)))
        (Some (retracked e)) ≡ false
    joined = ap (λ (o : Option Elem). are_unconnected (graph_of width p) o (Some (retracked e)))
        (last-changed retracked None (take i net.elems))
        ∙ go i at
      where
        go : (k : ℕ) → slice_get net.elems k ≡ Some e → are_unconnected (graph_of width p)
            (option_map retracked (last_or None (take k net.elems))) (Some (retracked e)) ≡ false
        go zero there = first net.elems
          where
            first : (es : List Elem) → are_unconnected (graph_of width p)
                (option_map retracked (last_or None (take 0 es))) (Some (retracked e)) ≡ false
            first [] = nothing-before (graph_of width p) (Some (retracked e))
            first (d ∷ ds) = nothing-before (graph_of width p) (Some (retracked e))
        go (suc k) there =
            let before = get-before net.elems k e there in
            ap (λ (o : Option Elem). are_unconnected (graph_of width p) (option_map retracked o)
            (Some (retracked e)))
            (ap (last_or None) (take-get net.elems k before.0 before.1)
            ∙ last-push None (take k net.elems) before.0)
            ∙ connected p sound fits width tracks legal n net here k before.0 e before.1 there

    -- its cell is one of the net's
    trace : trace_named nets net.name ≡ net.elems
    trace = ap (λ (o : Option RouteNet). option_map_or (λ (other : RouteNet). other.elems) o [])
        (find-first (is_trace_named net.name) nets n net here (head-fits n net here).first
        (name_itself net.name))

    no-stray : is_stray_in nets net.name (retracked e) ≡ false
    no-stray = (λ k. is_channel e.kind && not (list_any (same_elem (retracked e)) (trace k)))
        ∙ go (is_channel e.kind) refl
      where
        go : (b : Bool) → is_channel e.kind ≡ b
            → (b && not (list_any (same_elem (retracked e)) net.elems)) ≡ false
        go false is = refl
        go true is = ap not (list_any-from_In (same_elem (retracked e)) net.elems e
            (get-In net.elems i e at) (same_channel-itself e (retracked e).number is))

    met : is_channel e.kind ≡ true → (context_of line).again ≡ true
        → (judged_line p (tracked_line all tracks n line)).wire_again ≡ true
    met is again = let s = channel-slot n e is in
        met-again p tracks n e (take i net.elems) s.0 s.1 again

    -- there is none against an element line
    elem-legal : line_cause width p (tracked_line all tracks n line) ≡ None
    elem-legal =
        let fit = elem-fits n net i e here at in
        uncaused (graph_of width p) (judged_line p (tracked_line all tracks n line)) e.line
        (record {
          connected = joined;
          low = not-past p sound fits width tracks legal n net here i e at;
          alone = alone p sound fits width tracks legal n net here i e at;
          near = no-stray;
          new = cell-again all tracks p width n (take n nets) net (take i net.elems) e _ fit met;
          whole = lacking-tracked all tracks p width n line
              ∙ (or_parts _ (lacks_sink p line) fit.once).1;
          fitting = elem-unfit all tracks p width n (take n nets) net (take i net.elems) e _ fit
              met;
        })

  -- the file: the route with the tracks
  abbrev found : RouteText
  found = tracked_route p.route tracks

  lines-legal : IsFaultless (map (line_cause width p) (route_lines found))
  lines-legal = faultless-lines (line_cause width p) (route_lines found)
      (lines-tracked all tracks (λ line. line_cause width p line ≡ None) nets head-legal elem-legal)

  -- nothing is against the array line and the end
  behind : (array_fault p ≡ None) × (end_fault p ≡ None)
  behind =
      let lines : Faults = map (net_line_fault p) (route_lines p.route) in
      let parts = faultless-line (array_fault p) (lines ++ end_fault p ∷ []) fits in
      let ends = option_or-none (first_fault lines) (first_fault (end_fault p ∷ []))
      (sym (first_fault-append lines (end_fault p ∷ [])) ∙ parts.1) in
      (parts.0, (option_or-none (end_fault p) None ends.1).0)

  array-legal : array_cause p found ≡ None
  array-legal = go (same_size p.placement.grid p.route.grid) behind.0
    where
      go : (b : Bool) → (if b then None else Some (Bad p.route.grid_line 501)) ≡ None
          → (if b then None else Some (Bad p.route.grid_line 807)) ≡ None
      go true is = refl
      go false is = cc

  end-legal : end_cause p found ≡ None
  end-legal = (λ k. if list_any (λ (net : Net). not net.global
      && not (has_net-tracked all tracks nets net.name k)) p.netlist.nets
      then Some (Bad (p.route.lines + 1) 806) else None) ∙ go (lacks_net p) behind.1
    where
      go : (b : Bool) → (if b then Some (Bad (p.route.lines + 1) 502) else None) ≡ None
          → (if b then Some (Bad (p.route.lines + 1) 806) else None) ≡ None
      go true is = cc
      go false is = refl

  pub legal-judged : judged width p (route_of p.route tracks) ≡ Legal
  legal-judged =
      let lines : Faults = map (line_cause width p) (route_lines found) in
      let clean : IsFaultless (causes width p found) =
      ap (λ (o : Option TextFault). option_or o (first_fault (lines ++ end_cause p found ∷ [])))
      array-legal
      ∙ first_fault-append lines (end_cause p found ∷ [])
      ∙ ap (λ (o : Option TextFault). option_or o (first_fault (end_cause p found ∷ [])))
      lines-legal
      ∙ ap (λ (o : Option TextFault). option_or o None) end-legal in
      ap (judged width p) (route_of-is p.route tracks) ∙ ap judgement_by clean
