-- Where no code of the fit holds at a line, none of those that a routed file is judged by holds at
-- the line with its track, whatever the tracks are.
use Rattle.std.proofs.Common.{◌≡◌, ℕ, Bool, true, false, Option, Some, None, List, [], ◌∷◌, ◌++◌, length, refl, sym, ap, ◌∙◌}
use Rattle.std.specs.Prelude.{◌&&◌, ◌||◌, ◌==◌, map, not, option_map}
use Rattle.std.specs.List.{last_or, list_all, list_any}
use Rattle.std.specs.Option.{option_map_or}
use Rattle.std.proofs.lemmas.Bool.{false≢true, or_parts}
use Rattle.std.proofs.lemmas.List.{length-map, map-append}
use Rattle.fpga_types.specs.Fit.{RouteLine, comes_again, context_of, is_branch, is_out_of_order}
use Rattle.fpga_types.specs.Fits.{has_sink, is_other_pin, is_other_sink, is_other_source, lacks_sink, so_far}
use Rattle.fpga_types.specs.Kinds.{is_channel, is_ipin, is_opin, is_sink, is_source, may_follow}
use Rattle.fpga_types.specs.Problem.{RoutingProblem}
use Rattle.fpga_types.specs.Terminals.{driver_named, is_input, is_ordinary_pin_at, is_pin_at, is_terminal, named_terminal, sinks_named}
use Rattle.fpga_types.specs.declared.problem.Slot.{Slot}
use Rattle.fpga_types.specs.declared.problem.Terminal.{Terminal}
use Rattle.fpga_types.specs.declared.route.Elem.{Elem}
use Rattle.fpga_types.specs.declared.route.RouteNet.{RouteNet}
use Rattle.fpga_bounds.specs.NetFit.{head_line, line_at}
use Rattle.route_verify.specs.Judged.{graph_of}
use Rattle.route_verify.specs.Lines.{JudgedLine, branches_loose, device_in, is_again, is_other_again, is_sink_again, is_unfit, judged_line, repeats_cell}
use Rattle.route_verify.proofs.FittingLine.{IsFitting}
use Rattle.list_laws.proofs.Places.{last-changed}
use Rattle.route_verify.proofs.TrackLemmas.{again-tracked, channel-kind, has_net-tracked, has_sink-tracked, pin_of-tracked, tracked, unread}
use Rattle.route_verify.proofs.TrackedLines.{tracked_line}

guarded : (a b x y : Bool) → a ≡ false → b ≡ false → (a && x) ≡ (b && y)
guarded a b x y p q = (λ i. p i && x) ∙ (λ i. sym q i && y)

module _ (all : List Slot) (tracks : List ℕ) (p : RoutingProblem) (width n : ℕ) where
  abbrev retracked : Elem → Elem
  retracked = tracked all tracks n

  so_far-tracked : (before : List Elem) (o : Option Elem)
      → option_map_or (λ e. map retracked before ++ e ∷ []) (option_map retracked o)
      (map retracked before)
      ≡ map retracked (option_map_or (λ e. before ++ e ∷ []) o before)
  so_far-tracked before None = refl
  so_far-tracked before (Some e) = sym (map-append retracked before (e ∷ []))

  -- whether a sink has no SINK line does not depend on the tracks
  pub lacking-tracked : (line : RouteLine)
      → lacks_sink p (tracked_line all tracks n line) ≡ lacks_sink p line
  lacking-tracked line =
      let count = length-map line.after retracked in
      let met : (at : Terminal) → has_sink (so_far (tracked_line all tracks n line)) at
      ≡ has_sink (so_far line) at =
      λ at. ap (λ (es : List Elem). has_sink es at) (so_far-tracked line.before line.elem)
      ∙ has_sink-tracked all tracks n (so_far line) at in
      λ i. not line.net.global && count i == 0
      && not (list_all (λ at. met at i) (sinks_named p line.net.name))

  -- a Net line
  pub head-unfit : (earlier : List RouteNet) (net : RouteNet)
      → IsFitting p (head_line earlier net)
      → is_unfit (graph_of width p)
      (judged_line p (tracked_line all tracks n (head_line earlier net))) ≡ false
  head-unfit earlier net fit =
      let repeated = has_net-tracked all tracks earlier net.name in
      let count = length-map net.elems retracked in
      (λ i. fit.known i || repeated i || false || false || false || false || false || false || false
      || (not net.global && (false || count i == 0 && not false)))
      ∙ (λ i. false || fit.first i || false || false || false || false || false || false || false
      || fit.order i)

  -- an element line
  module _ (earlier : List RouteNet) (net : RouteNet) (before : List Elem) (e : Elem)
      (after : List Elem) where
    abbrev line : RouteLine
    line = line_at earlier net (before, e, after)

    abbrev at : JudgedLine
    at = judged_line p (tracked_line all tracks n line)

    abbrev previous : Option Elem
    previous = last_or None before

    previous-is : last_or None (map retracked before) ≡ option_map retracked previous
    previous-is = last-changed retracked None before

    branch-is : is_branch at.fit.route ≡ is_branch (context_of line)
    branch-is =
        ap (λ (o : Option Elem). option_map_or (λ (d : Elem). is_sink d.kind) o false) previous-is
        ∙ go previous
      where
        go : (o : Option Elem)
            → option_map_or (λ (d : Elem). is_sink d.kind) (option_map retracked o) false
            ≡ option_map_or (λ (d : Elem). is_sink d.kind) o false
        go None = refl
        go (Some d) = refl

    again-is : at.fit.route.again ≡ (context_of line).again
    again-is = again-tracked all tracks n e before

    comes_again-is : comes_again at.fit.route ≡ comes_again (context_of line)
    comes_again-is = λ i. not (is_sink e.kind) && not (branch-is i) && again-is i

    module _ (fit : IsFitting p line) where
      source : is_other_source at.fit ≡ false
      source = unread all tracks (λ (d : Elem). is_source d.kind
          && not (option_map_or (is_terminal d) (driver_named p net.name) false)) n e
          (λ number is. guarded _ _ _ _ (channel-kind e.kind is).source
          (channel-kind e.kind is).source)
          ∙ fit.source

      sink : is_other_sink at.fit ≡ false
      sink = unread all tracks (λ (d : Elem). is_sink d.kind
          && not (list_any (is_terminal d) (sinks_named p net.name))) n e
          (λ number is. guarded _ _ _ _ (channel-kind e.kind is).sink (channel-kind e.kind is).sink)
          ∙ fit.sink

      once : is_sink_again at.fit.route ≡ false
      once = (λ i. is_sink e.kind && again-is i)
          ∙ (or_parts (is_sink e.kind && (context_of line).again) (lacks_sink p line) fit.once).0

      -- the pin before a SINK
      abbrev moved : Elem → Elem → Bool
      moved d q = is_ipin q.kind && not (is_pin_at p.arch (named_terminal d) q)

      abbrev other_pin : Option Elem → Elem → Bool
      other_pin o d = is_opin d.kind && not (option_map_or
          (λ driver. is_ordinary_pin_at p.arch driver d) (driver_named p net.name) false)
          || is_ipin d.kind && not (is_input p d)
          || is_sink d.kind && option_map_or (moved d) o false

      pin : is_other_pin (device_in (graph_of width p)) at.fit ≡ false
      pin = ap (λ (o : Option Elem). other_pin o (retracked e)) previous-is
          ∙ unread all tracks (other_pin (option_map retracked previous)) n e (λ number is.
          let kind = channel-kind e.kind is in
          (λ i. kind.opin i && not (option_map_or
          (λ driver. is_ordinary_pin_at p.arch driver (record e { number = number }))
          (driver_named p net.name) false)
          || kind.ipin i && not (is_input p (record e { number = number }))
          || kind.sink i && option_map_or (moved (record e { number = number }))
          (option_map retracked previous) false)
          ∙ sym (λ i. kind.opin i && not (option_map_or
          (λ driver. is_ordinary_pin_at p.arch driver e) (driver_named p net.name) false)
          || kind.ipin i && not (is_input p e)
          || kind.sink i && option_map_or (moved e) (option_map retracked previous) false))
          ∙ (λ i. is_opin e.kind && not (option_map_or
          (λ driver. is_ordinary_pin_at p.arch driver e) (driver_named p net.name) false)
          || is_ipin e.kind && not (is_input p e) || is_sink e.kind && go previous i)
          ∙ fit.pin
        where
          go : (o : Option Elem) → option_map_or (moved e) (option_map retracked o) false
              ≡ option_map_or (moved e) o false
          go None = refl
          go (Some q) = unread all tracks (moved e) n q (λ number is.
              guarded _ _ _ _ (channel-kind q.kind is).ipin (channel-kind q.kind is).ipin)

      other : is_other_again at.fit.route ≡ false
      other = λ i. (comes_again-is ∙ fit.new) i && not (is_channel e.kind)

      alone : at.fit.route.taken ≡ false
      alone = pin_of-tracked all tracks n e earlier ∙ fit.alone

      order : is_out_of_order at.fit.route ≡ false
      order = (λ i. not net.global && (not (option_map_or
          (λ (d : Elem). may_follow d.kind e.kind) (previous-is i) (is_source e.kind))
          || length-map after retracked i == 0 && not (is_sink e.kind)))
          ∙ (λ i. not net.global && (not (go previous i) || length after == 0
          && not (is_sink e.kind)))
          ∙ fit.order
        where
          go : (o : Option Elem) → option_map_or (λ (d : Elem). may_follow d.kind e.kind)
              (option_map retracked o) (is_source e.kind)
              ≡ option_map_or (λ (d : Elem). may_follow d.kind e.kind) o (is_source e.kind)
          go None = refl
          go (Some d) = refl

      -- where a channel that comes again is on its wire again
      module _ (met : is_channel e.kind ≡ true → (context_of line).again ≡ true
          → at.wire_again ≡ true) where
        met-again : is_again at (retracked e) ≡ (context_of line).again
        met-again = (λ i. again-is i && (not (is_channel e.kind) || at.wire_again))
            ∙ go (context_of line).again refl (is_channel e.kind) refl
          where
            go : (again : Bool) → (context_of line).again ≡ again → (channel : Bool)
                → is_channel e.kind ≡ channel → (again && (not channel || at.wire_again)) ≡ again
            go false a channel c = refl
            go true a false c = refl
            go true a true c = met c a

        loose : branches_loose at ≡ false
        loose = (λ i. not (is_ipin e.kind) && not (is_sink e.kind) && branch-is i
            && not (met-again i)) ∙ fit.joined

        pub elem-unfit : is_unfit (graph_of width p) at ≡ false
        elem-unfit = λ i. false || false || source i || sink i || once i || pin i || other i
            || loose i || alone i || order i

        -- a cell that comes again does so in branch position, on its wire
        pub cell-again : repeats_cell at ≡ false
        cell-again = (λ i. is_channel e.kind && again-is i && not (branch-is i && at.wire_again))
            ∙ go (is_channel e.kind) refl (context_of line).again refl
            (is_branch (context_of line)) refl
          where
            new : (channel again branch : Bool) → is_channel e.kind ≡ channel
                → (context_of line).again ≡ again → is_branch (context_of line) ≡ branch
                → (not (is_sink e.kind) && not branch && again) ≡ false
            new channel again branch c a b =
                (λ i. not (is_sink e.kind) && not (sym b i) && sym a i) ∙ fit.new

            go : (channel : Bool) → is_channel e.kind ≡ channel → (again : Bool)
                → (context_of line).again ≡ again → (branch : Bool)
                → is_branch (context_of line) ≡ branch
                → (channel && again && not (branch && at.wire_again)) ≡ false
            go false c again a branch b = refl
            go true c false a branch b = refl
            go true c true a true b = ap not (met c a)
            go true c true a false b = absurd (false≢true (sym (
                (λ i. not (sym (channel-kind e.kind c).sink i) && true && true)
                ∙ new true true false c a b)))
