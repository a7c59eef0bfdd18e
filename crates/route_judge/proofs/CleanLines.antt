-- What is known of the lines of a routed file where nothing is against them.
use Rattle.std.proofs.Common.{◌≡◌, ℕ, ◌+◌, suc, Bool, true, false, Option, Some, None, List, [], ◌∷◌, ◌++◌, drop, length, take, refl, sym, ap, ◌∙◌}
use Rattle.std.specs.Prelude.{◌&&◌, ◌||◌, ◌==◌, not, map, slice_get}
use Rattle.std.specs.List.{last_or, list_all, list_any}
use Rattle.std.specs.Option.{option_map_or}
use Rattle.std.proofs.lemmas.Bool.{false≢true, not-false, or_parts}
use Rattle.list_laws.proofs.Members.{In}
use Rattle.fpga_bounds.specs.NetFit.{head_line}
use Rattle.fpga_bounds.proofs.LineLemmas.{elem_line}
use Rattle.fpga_graph.specs.GraphOf.{GraphOf}
use Rattle.fpga_text.specs.FirstFault.{Faults, IsFaultless, first_fault}
use Rattle.fpga_types.specs.Fit.{RouteLine, is_pin_of, route_lines, same_elem}
use Rattle.fpga_types.specs.Fits.{Device, ProblemContext, has_net, has_sink, is_known, is_moved_sink, is_other_ipin, is_other_opin, lacks_net, same_size}
use Rattle.fpga_types.specs.Kinds.{is_channel, is_ipin, is_opin, is_sink, is_source, may_follow}
use Rattle.fpga_types.specs.Problem.{RoutingProblem}
use Rattle.fpga_types.specs.Terminals.{driver_named, is_input, is_ordinary_pin_at, is_pin_at, named_terminal, sinks_named}
use Rattle.fpga_types.specs.declared.grid.Wire.{Wire}
use Rattle.fpga_types.specs.declared.route.Elem.{Elem}
use Rattle.fpga_types.specs.declared.route.RouteNet.{RouteNet}
use Rattle.route_judge.specs.Judged.{placed_line_cause, placed_route_causes}
use Rattle.route_judge.proofs.KindLemmas.{wire-channel}
use Rattle.route_judge.proofs.LeadLemmas.{IsTreeLine}
use Rattle.route_judge.proofs.LineCauses.{HasNoCause, IsFine, failed, fine-line, no-cause, parts-of, passed}
use Rattle.route_verify.specs.Judged.{array_cause, end_cause, graph_of}
use Rattle.route_verify.specs.Lines.{device_in, has_wire, is_wire_of, judged_line}
use Rattle.route_verify.specs.Wiring.{elem_wire}
use Rattle.route_verify.proofs.CodeLemmas.{faultless-each}
use Rattle.route_verify.proofs.EqualLines.{channel_number}
use Rattle.route_verify.proofs.TrackLemmas.{channel-kind}
use Rattle.route_verify.proofs.TrackedLines.{elem-among, head-among}

-- what follows from a test of several parts that does not pass
pub and-second : (a b : Bool) → (a && b) ≡ false → a ≡ true → b ≡ false
and-second true b none is = none
and-second false b none is = absurd (false≢true is)

ordered : (global orderly last sink : Bool)
    → (not global && (not orderly || last && not sink)) ≡ false → global ≡ false → orderly ≡ true
ordered false true last sink none is = refl
ordered false false last sink none is = absurd (false≢true (sym none))
ordered true orderly last sink none is = absurd (false≢true (sym is))

-- a branch that is not loose is one of a line that stood before
pub stood : (ipin sink branch again wire : Bool)
    → (not ipin && not sink && branch && not (again && wire)) ≡ false → ipin ≡ false
    → sink ≡ false → branch ≡ true → (again ≡ true) × (wire ≡ true)
stood false false true true true none i s b = (refl, refl)
stood false false true true false none i s b = absurd (false≢true (sym none))
stood false false true false wire none i s b = absurd (false≢true (sym none))
stood true sink branch again wire none i s b = absurd (false≢true (sym i))
stood ipin true branch again wire none i s b = absurd (false≢true (sym s))
stood ipin sink false again wire none i s b = absurd (false≢true b)

no-sink-lacks : (global last all : Bool) → (not global && last && not all) ≡ false
    → global ≡ false → last ≡ true → all ≡ true
no-sink-lacks false true true none ordinary is = refl
no-sink-lacks false true false none ordinary is = absurd (false≢true (sym none))
no-sink-lacks true last all none ordinary is = absurd (false≢true (sym ordinary))
no-sink-lacks global false all none ordinary is = absurd (false≢true is)

-- the last place of a list
last-place : {T : Type 0} (x : T) (xs : List T) → (k : ℕ) × (y : T) × (slice_get (x ∷ xs) k ≡ Some y)
    × (take k (x ∷ xs) ++ y ∷ [] ≡ x ∷ xs) × (drop (suc k) (x ∷ xs) ≡ [])
last-place x [] = (0, x, refl, refl, refl)
last-place {T} x (y ∷ ys) =
    let r = last-place y ys in
    (suc r.0, r.1, r.2, ap (λ (zs : List T). x ∷ zs) r.3, r.4)

module _ (strict : Bool) (width : ℕ) (p : RoutingProblem)
    (clean : IsFaultless (placed_route_causes strict width p)) where
  abbrev g : GraphOf
  g = graph_of width p

  abbrev nets : List RouteNet
  nets = p.route.nets

  abbrev lines : Faults
  lines = map (placed_line_cause strict width p) (route_lines p.route)

  parts : (array_cause p p.route ≡ None) × (first_fault lines ≡ None)
      × (end_cause p p.route ≡ None)
  parts = parts-of (array_cause p p.route) (end_cause p p.route) lines clean

  -- the arrays have one size
  pub one-size : same_size p.placement.grid p.route.grid ≡ true
  one-size = passed (same_size p.placement.grid p.route.grid) p.route.grid_line 807 parts.0

  -- each ordinary net has its Net line
  pub all-there : lacks_net p ≡ false
  all-there = failed (lacks_net p) (p.route.lines + 1) 806 parts.2

  -- none of the causes holds at a line
  pub quiet : (line : RouteLine) → In (route_lines p.route) line
      → HasNoCause strict g (judged_line p line)
  quiet line among = no-cause strict width p line
      (faultless-each (placed_line_cause strict width p) (route_lines p.route) parts.1 line among)

  module _ (n : ℕ) (net : RouteNet) (here : slice_get nets n ≡ Some net) where
    at-head : HasNoCause strict g (judged_line p (head_line (take n nets) net))
    at-head = quiet (head_line (take n nets) net) (head-among nets n net here)

    head-fine : IsFine g (judged_line p (head_line (take n nets) net))
    head-fine = fine-line g (judged_line p (head_line (take n nets) net)) at-head.fine

    -- the netlist has the net in this form, and no earlier net has its name
    pub known : is_known p net.name net.global ≡ true
    known = not-false (is_known p net.name net.global) head-fine.known

    pub new : has_net (take n nets) net.name ≡ false
    new = head-fine.first

    module _ (i : ℕ) (e : Elem) (at : slice_get net.elems i ≡ Some e) where
      abbrev line : RouteLine
      line = elem_line (take n nets) net i e

      at-elem : HasNoCause strict g (judged_line p line)
      at-elem = quiet line (elem-among nets n net i e here at)

      pub fine : IsFine g (judged_line p line)
      fine = fine-line g (judged_line p line) at-elem.fine

      abbrev before : List Elem
      before = take i net.elems

      abbrev fit : ProblemContext
      fit = (judged_line p line).fit

      abbrev device : Device
      device = device_in g

      pins : (is_other_opin device fit e ≡ false) × (is_other_ipin fit e ≡ false)
          × (is_moved_sink device fit e ≡ false)
      pins =
          let three = or_parts (is_other_opin device fit e || is_other_ipin fit e)
          (is_moved_sink device fit e) fine.pin in
          let two = or_parts (is_other_opin device fit e) (is_other_ipin fit e) three.0 in
          (two.0, two.1, three.1)

      -- no earlier net is on its wire, or has its pin
      pub lone-wire : (w : Wire) → elem_wire e ≡ Some w → is_wire_of (take n nets) w ≡ false
      lone-wire w is =
          sym (ap (λ (o : Option Wire). option_map_or (is_wire_of (take n nets)) o false) is)
          ∙ at-elem.alone

      pub lone-pin : is_pin_of (take n nets) e ≡ false
      lone-pin = fine.alone

      -- it is a line of a tree
      pub tree-line : net.global ≡ false
          → IsTreeLine g (driver_named p net.name) (is_input p) before e
      tree-line ordinary = record {
        order = ordered net.global
            (option_map_or (λ (d : Elem). may_follow d.kind e.kind) (last_or None before)
            (is_source e.kind)) (length (drop (suc i) net.elems) == 0) (is_sink e.kind) fine.order
            ordinary;
        connected = at-elem.connected;
        low = at-elem.low;
        opin = λ opin. not-false _ (and-second (is_opin e.kind)
            (not (option_map_or (λ at. is_ordinary_pin_at g.arch at e) (driver_named p net.name)
            false)) pins.0 opin);
        ipin = λ ipin. not-false _ (and-second (is_ipin e.kind) (not (is_input p e)) pins.1 ipin);
        sink = λ sink d here ipin.
            let at : Bool = not (is_pin_at g.arch (named_terminal e) d) in
            not-false _ (and-second (is_ipin d.kind) at
            (sym (ap (λ (o : Option Elem). option_map_or (λ (d : Elem). is_ipin d.kind
            && not (is_pin_at g.arch (named_terminal e) d)) o false) here)
            ∙ and-second (is_sink e.kind) (option_map_or (λ (d : Elem). is_ipin d.kind
            && not (is_pin_at g.arch (named_terminal e) d)) (last_or None before) false) pins.2
            sink) ipin);
        branch = λ d here sink w is.
            let channel = wire-channel e w is in
            let other = channel-kind e.kind channel in
            let old = stood (is_ipin e.kind) (is_sink e.kind)
            (option_map_or (λ (d : Elem). is_sink d.kind) (last_or None before) false)
            (list_any (same_elem e) before)
            (not (is_channel e.kind) || option_map_or (has_wire before) (elem_wire e) false)
            fine.joined other.ipin other.sink
            (ap (λ (o : Option Elem). option_map_or (λ (d : Elem). is_sink d.kind) o false) here
            ∙ sink) in
            sym (ap (λ (o : Option Wire). option_map_or (has_wire before) o false) is)
            ∙ channel_number (is_channel e.kind)
            (option_map_or (has_wire before) (elem_wire e) false) old.1 channel;
      }

      sinks-so-far : net.global ≡ false → (length (drop (suc i) net.elems) == 0) ≡ true
          → list_all (has_sink (before ++ e ∷ [])) (sinks_named p net.name) ≡ true
      sinks-so-far ordinary last = no-sink-lacks net.global (length (drop (suc i) net.elems) == 0)
          (list_all (has_sink (before ++ e ∷ [])) (sinks_named p net.name)) at-elem.whole
          ordinary last

    -- each sink of an ordinary net has its line
    pub sinks-there : net.global ≡ false
        → list_all (has_sink net.elems) (sinks_named p net.name) ≡ true
    sinks-there ordinary = go net.elems refl
      where
        go : (es : List Elem) → net.elems ≡ es
            → list_all (has_sink es) (sinks_named p net.name) ≡ true
        go [] is = no-sink-lacks net.global (length net.elems == 0)
            (list_all (has_sink []) (sinks_named p net.name)) at-head.whole ordinary
            (ap (λ (es : List Elem). length es == 0) is)
        go (x ∷ xs) is =
            let end = last-place x xs in
            let at : slice_get net.elems end.0 ≡ Some end.1 =
            ap (λ (es : List Elem). slice_get es end.0) is ∙ end.2 in
            ap (λ (es : List Elem). list_all (has_sink es) (sinks_named p net.name))
            (sym ((λ k. take end.0 (is k) ++ end.1 ∷ []) ∙ end.3))
            ∙ sinks-so-far end.0 end.1 at ordinary
            (ap (λ (es : List Elem). length es == 0)
            ((λ k. drop (suc end.0) (is k)) ∙ end.4))
