-- The lines of the global route that are printed: the SOURCE, the OPINs, IPINs and SINKs.
use Rattle.std.proofs.Common.{◌≡◌, ℕ, ◌<◌, Bool, true, false, Option, Some, None, List, [], ◌∷◌, length, take, refl, sym, ap, subst, ◌∙◌, arith}
use Rattle.std.specs.Prelude.{◌&&◌, ◌||◌, not, nat_lt, slice_get}
use Rattle.std.specs.List.{last_or, list_any}
use Rattle.std.specs.Option.{option_map_or}
use Rattle.std.proofs.lemmas.Bool.{not-false, or_parts}
use Rattle.list_laws.proofs.Members.{In}
use Rattle.list_laws.proofs.Places.{In-place}
use Rattle.fpga_bounds.proofs.LineLemmas.{elem_line}
use Rattle.fpga_types.specs.Fit.{RouteLine, context_of, is_branch, same_elem}
use Rattle.fpga_types.specs.Fits.{device_of, is_moved_sink, is_other_ipin, is_other_opin, lacks_sink, problem_context}
use Rattle.fpga_types.specs.Kinds.{is_channel, is_ipin, is_opin, is_sink, is_source, may_follow}
use Rattle.fpga_types.specs.Terminals.{driver_named, is_input, is_ordinary_pin_at, is_pin_at, is_terminal, named_terminal, sinks_named}
use Rattle.fpga_types.specs.declared.route.Elem.{Elem}
use Rattle.fpga_types.specs.declared.route.ElemKind.{ElemKind}
use Rattle.fpga_types.specs.declared.route.ElemKind.TheVariants.{Source, Opin, Ipin, Sink}
use Rattle.route_reach.specs.Printing.{IsFrame, IsPrinting, IsQuietBehind, NetFrame, ends_of, graph_in, is_end, is_open}
use Rattle.route_reach.specs.declared.printed.Printed.{Printed}
use Rattle.route_reach.proofs.BranchLemmas.{no-last, open-sink}
use Rattle.route_reach.proofs.FoundLemmas.{opin-is}
use Rattle.route_reach.proofs.FrameLemmas.{fits-at}
use Rattle.route_reach.proofs.LineFacts.{any-filter, channel-kinds, ipin-is, sink-is, sink-kinds, source-is}
use Rattle.route_reach.proofs.NetSinks.{before-ipin}
use Rattle.route_reach.proofs.PinLines.{passed}
use Rattle.route_reach.proofs.QuietKinds.{IsQuietSeen, ipin-after, opin-after, opin-branch, sink-after, source-branch, source-first}
use Rattle.route_verify.specs.Depths.{deep_lines, same_tracked}
use Rattle.route_verify.specs.Lines.{has_wire}
use Rattle.route_verify.specs.Reach.{depth_at_pin}
use Rattle.route_verify.specs.Wiring.{elem_wire, misses, pin_on, wire_on}
use Rattle.route_verify.proofs.EqualLines.{same_elem-is}
use Rattle.route_verify.proofs.FittingLine.{IsFitting}

-- a search for an IPIN or a SINK finds it among these
pub any-ends : (e : Elem) (xs : List Elem) → is_end e ≡ true
    → list_any (same_elem e) (ends_of xs) ≡ list_any (same_elem e) xs
any-ends e xs end = any-filter (same_elem e) is_end xs
    (λ x same. let kind = (same_elem-is e x same).kind in
    ap (λ (k : ElemKind). is_ipin k || is_sink k) (sym kind) ∙ end)

module _ (f : NetFrame) (is : IsFrame f) where
  module _ (j : ℕ) (e : Elem) (at : slice_get f.net.elems j ≡ Some e) where
    abbrev line : RouteLine
    line = elem_line (take f.number f.problem.route.nets) f.net j e

    fit : IsFitting f.problem line
    fit = fits-at f is j e at

    abbrev previous : Option Elem
    previous = last_or None (take j f.net.elems)

    -- it may stand where it does
    pub in-order : option_map_or (λ (a : Elem). may_follow a.kind e.kind) previous
        (is_source e.kind) ≡ true
    in-order =
        let test : Bool = not (option_map_or (λ (a : Elem). may_follow a.kind e.kind) previous
        (is_source e.kind)) in
        let rest : Bool = (context_of line).last && not (is_sink e.kind) in
        let both : (test || rest) ≡ false =
        sym (ap (λ (b : Bool). not b && (test || rest)) is.ordinary) ∙ fit.order in
        not-false _ (or_parts test rest both).0

    -- the last line is a SINK
    pub last-sink : (context_of line).last ≡ true → is_sink e.kind ≡ true
    last-sink last =
        let test : Bool = not (option_map_or (λ (a : Elem). may_follow a.kind e.kind) previous
        (is_source e.kind)) in
        let rest : Bool = (context_of line).last && not (is_sink e.kind) in
        let both : (test || rest) ≡ false =
        sym (ap (λ (b : Bool). not b && (test || rest)) is.ordinary) ∙ fit.order in
        passed (context_of line).last (is_sink e.kind) (or_parts test rest both).1 last

    abbrev other_opin : Bool
    other_opin = is_other_opin (device_of f.problem) (problem_context f.problem line) e

    abbrev other_ipin : Bool
    other_ipin = is_other_ipin (problem_context f.problem line) e

    abbrev moved : Bool
    moved = is_moved_sink (device_of f.problem) (problem_context f.problem line) e

    pins : (other_opin ≡ false) × (other_ipin ≡ false) × (moved ≡ false)
    pins =
        let last = or_parts (other_opin || other_ipin) moved fit.pin in
        let first = or_parts other_opin other_ipin last.0 in
        (first.0, first.1, last.1)

    -- a SOURCE is the driver
    pub drives : is_source e.kind ≡ true
        → option_map_or (is_terminal e) (driver_named f.problem f.net.name) false ≡ true
    drives source = passed (is_source e.kind)
        (option_map_or (is_terminal e) (driver_named f.problem f.net.name) false) fit.source source

    -- an OPIN is one of its pins
    pub drives-out : is_opin e.kind ≡ true
        → option_map_or (λ driver. is_ordinary_pin_at f.problem.arch driver e)
        (driver_named f.problem f.net.name) false ≡ true
    drives-out opin = passed (is_opin e.kind)
        (option_map_or (λ driver. is_ordinary_pin_at f.problem.arch driver e)
        (driver_named f.problem f.net.name) false) pins.0 opin

    -- an IPIN is an input, and new
    pub takes-in : is_ipin e.kind ≡ true → is_input f.problem e ≡ true
    takes-in ipin = passed (is_ipin e.kind) (is_input f.problem e) pins.1 ipin

    pub ipin-new : is_ipin e.kind ≡ true → list_any (same_elem e) (take j f.net.elems) ≡ false
    ipin-new ipin =
        let kind = ipin-is e.kind ipin in
        let again : Bool = list_any (same_elem e) (take j f.net.elems) in
        let branch : is_branch (context_of line) ≡ false = go previous in-order in
        sym (λ i. not (ap is_sink kind i) && not (branch i) && again) ∙ fit.new
      where
        go : (o : Option Elem)
            → option_map_or (λ (a : Elem). may_follow a.kind e.kind) o (is_source e.kind) ≡ true
            → option_map_or (λ (a : Elem). is_sink a.kind) o false ≡ false
        go None h = refl
        go (Some a) h = (channel-kinds a.kind (before-ipin a.kind e.kind h ipin)).3

    -- a SINK is one of the net's, and new
    pub ends-at : is_sink e.kind ≡ true
        → list_any (is_terminal e) (sinks_named f.problem f.net.name) ≡ true
    ends-at sink = passed (is_sink e.kind)
        (list_any (is_terminal e) (sinks_named f.problem f.net.name)) fit.sink sink

    pub sink-new : is_sink e.kind ≡ true → list_any (same_elem e) (take j f.net.elems) ≡ false
    sink-new sink =
        let again : Bool = list_any (same_elem e) (take j f.net.elems) in
        sym (λ i. sink i && again)
        ∙ (or_parts (is_sink e.kind && again) (lacks_sink f.problem line) fit.once).0

    -- it stands behind an IPIN of its terminal
    pub behind-pin : (a : Elem) → previous ≡ Some a → is_sink e.kind ≡ true
        → is_ipin a.kind ≡ true
        → is_pin_at f.problem.arch (named_terminal e) a ≡ true
    behind-pin a before sink ipin =
        let there : Bool = is_pin_at f.problem.arch (named_terminal e) a in
        passed (is_ipin a.kind) there
        (sym (λ i. sink i && option_map_or (λ (b : Elem). is_ipin b.kind
        && not (is_pin_at f.problem.arch (named_terminal e) b)) (before i) false) ∙ pins.2) ipin

  -- ---- behind the lines that are printed

  module _ (printed : Printed) (so_far : IsPrinting f printed) (e : Elem) where
    abbrev lines : List Elem
    lines = printed.lines.items

    abbrev IsSeen : Option Elem → Elem → Type 0
    IsSeen o x = IsQuietSeen f lines o (list_any (same_elem e) lines)
        (option_map_or (has_wire lines) (elem_wire e) false)
        (depth_at_pin (deep_lines same_tracked lines)) x

    of-kind : (o : Option Elem) (k : ElemKind) → last_or None lines ≡ o → e.kind ≡ k
        → IsSeen o (record e { kind = k }) → IsQuietBehind f lines e
    of-kind o k last kind quiet =
        subst (λ (p : Option Elem). IsSeen p e) (sym last)
        (subst (λ (m : ElemKind). IsSeen o (record e { kind = m })) (sym kind) quiet)

    pub source-quiet : slice_get f.net.elems 0 ≡ Some e → is_source e.kind ≡ true
        → is_open lines ≡ true → IsQuietBehind f lines e
    source-quiet at source free = go (last_or None lines) refl
      where
        go : (o : Option Elem) → last_or None lines ≡ o → IsQuietBehind f lines e
        go None last =
            of-kind None Source last (source-is e.kind source)
            (source-first f is.ordinary lines (list_any (same_elem e) lines) _ _ e
            (drives 0 e at source) (ap (list_any (same_elem e)) (no-last lines last)))
        go (Some a) last =
            let sink : is_sink a.kind ≡ true =
            sym (ap (λ (o : Option Elem). option_map_or (λ (b : Elem). is_sink b.kind) o true) last)
            ∙ free in
            of-kind (Some a) Source last (source-is e.kind source)
            (source-branch f is.ordinary lines (list_any (same_elem e) lines) _ _ e a sink
            (drives 0 e at source) (so_far.begun e at (some lines last)))
          where
            some : (xs : List Elem) → last_or None xs ≡ Some a → 0 < length xs
            some [] h = cc
            some (x ∷ xs) h = omega arith

    pub opin-first : In f.net.elems e → is_opin e.kind ≡ true → (a : Elem)
        → last_or None lines ≡ Some a → is_source a.kind ≡ true
        → list_any (same_elem e) lines ≡ false → IsQuietBehind f lines e
    opin-first among opin a last source new =
        let place = In-place f.net.elems e among in
        of-kind (Some a) Opin last (opin-is e.kind opin)
        (opin-after f is.ordinary lines (list_any (same_elem e) lines) _ _ e a source
        (drives-out place.0 e place.1 opin) new)

    pub opin-again : In f.net.elems e → is_opin e.kind ≡ true → is_open lines ≡ true
        → 0 < length lines → list_any (same_elem e) lines ≡ true → IsQuietBehind f lines e
    opin-again among opin free some there =
        let place = In-place f.net.elems e among in
        let a = open-sink lines free some in
        of-kind (Some a.0) Opin a.1 (opin-is e.kind opin)
        (opin-branch f is.ordinary lines (list_any (same_elem e) lines) _ _ e a.0 a.2
        (drives-out place.0 e place.1 opin) there)

    module _ (j : ℕ) (at : slice_get f.net.elems j ≡ Some e)
        (ends : ends_of lines ≡ ends_of (take j f.net.elems)) where
      new-here : is_end e ≡ true → list_any (same_elem e) (take j f.net.elems) ≡ false
          → list_any (same_elem e) lines ≡ false
      new-here end new = sym (any-ends e lines end) ∙ ap (list_any (same_elem e)) ends
          ∙ any-ends e (take j f.net.elems) end ∙ new

      pub ipin-quiet : is_ipin e.kind ≡ true → (a : Elem) → last_or None lines ≡ Some a
          → is_channel a.kind ≡ true
          → misses (graph_in f) (pin_on (Some e)) (wire_on (Some a)) ≡ false
          → IsQuietBehind f lines e
      ipin-quiet ipin a last channel reached =
          let kind = ipin-is e.kind ipin in
          of-kind (Some a) Ipin last kind
          (ipin-after f is.ordinary lines (list_any (same_elem e) lines) _ _ e a channel
          (subst (λ (k : ElemKind). misses (graph_in f) (pin_on (Some (record e { kind = k })))
          (wire_on (Some a)) ≡ false) kind reached)
          (takes-in j e at ipin)
          (new-here (ap (λ (b : Bool). b || is_sink e.kind) ipin) (ipin-new j e at ipin)))

      pub sink-quiet : is_sink e.kind ≡ true → (a : Elem) → last_or None lines ≡ Some a
          → last_or None (take j f.net.elems) ≡ Some a → is_ipin a.kind ≡ true
          → option_map_or (λ d. nat_lt f.reach d) (depth_at_pin (deep_lines same_tracked lines))
          false ≡ false
          → IsQuietBehind f lines e
      sink-quiet sink a last before ipin low =
          let kind = sink-is e.kind sink in
          of-kind (Some a) Sink last kind
          (sink-after f is.ordinary lines (list_any (same_elem e) lines) _ _ e a ipin
          (ends-at j e at sink) (behind-pin j e at a before sink ipin)
          (new-here (sink-kinds e.kind sink).1 (sink-new j e at sink)) low)
