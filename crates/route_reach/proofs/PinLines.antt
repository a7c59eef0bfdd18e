-- The pin lines of a problem that fits: the pins are the architecture's, those that a net begins at
-- have one place, and there are no more sinks than pin steps.
use Rattle.std.proofs.Common.{◌≡◌, ℕ, suc, ◌<◌, Bool, true, false, Option, Some, None, length, take, drop, inr, refl, sym, ap, subst, ◌∙◌}
use Rattle.std.specs.Prelude.{◌&&◌, ◌||◌, ◌==◌, All, not, filter_map, slice_get, if◌then◌else◌}
use Rattle.std.specs.Option.{option_map_or, option_or}
use Rattle.std.proofs.lemmas.Bool.{eqb-true, false≢true}
use Rattle.std.proofs.lemmas.Option.{slice_get_within}
use Rattle.list_laws.proofs.Members.{In, In-flat_map, In-list_any, In-map, all-from_In, from_In-filter_map}
use Rattle.list_laws.proofs.Places.{In-place, none_is_not_some, some_is}
use Rattle.fpga_types.specs.Fit.{net_lines, splits}
use Rattle.fpga_types.specs.Fits.{Fits, ProblemContext, device_of, is_moved_sink, is_other_ipin, is_other_opin, is_other_pin, is_other_sink, is_other_source, is_pin_apart, is_sink_not_once, net_line_fault, problem_context}
use Rattle.fpga_types.specs.Kinds.{is_ipin, is_opin, is_sink}
use Rattle.fpga_types.specs.Pins.{HasPin}
use Rattle.fpga_types.specs.Problem.{RoutingProblem}
use Rattle.fpga_types.specs.Slots.{adjacent, labelled_pin}
use Rattle.fpga_types.specs.Terminals.{driver_named, is_input, is_input_of, is_number_of, is_ordinary, is_ordinary_pin_at, is_pin_at, placed_blocks, takes_in}
use Rattle.fpga_types.specs.declared.arch.Arch.{Arch}
use Rattle.fpga_types.specs.declared.arch.PinSpec.{PinSpec}
use Rattle.fpga_types.specs.declared.grid.PinAt.{PinAt}
use Rattle.fpga_types.specs.declared.netlist.BlockKind.{BlockKind}
use Rattle.fpga_types.specs.declared.netlist.BlockKind.TheVariants.{Input, Output, Logic}
use Rattle.fpga_types.specs.declared.problem.Terminal.{Terminal}
use Rattle.fpga_types.specs.declared.route.Elem.{Elem}
use Rattle.fpga_types.specs.declared.route.ElemKind.{ElemKind}
use Rattle.fpga_types.specs.declared.route.ElemKind.TheVariants.{Source, Opin, ChanX, ChanY, Ipin, Sink}
use Rattle.fpga_types.specs.declared.route.Label.{Label}
use Rattle.fpga_types.specs.declared.route.Label.TheVariants.{Class, Pin, Pad, Track}
use Rattle.fpga_types.specs.declared.route.RouteNet.{RouteNet}
use Rattle.fpga_types.proofs.FitLemmas.{In-splits}
use Rattle.fpga_types.proofs.FitsLemmas.{Fits-line}
use Rattle.fpga_types.proofs.MeetingLemmas.{both_true}
use Rattle.fpga_bounds.specs.NetFit.{line_at}
use Rattle.fpga_bounds.proofs.LineLemmas.{elem_line}
use Rattle.fpga_bounds.proofs.StepFacts.{adjacent-there}
use Rattle.route_reach.specs.Ends.{ipin_of, opin_of, sink_pin}
use Rattle.route_reach.specs.Pins.{AreTogether, pin_place}

pub neither : {T : Type 0} (a b : Option T) → option_or a b ≡ None → (a ≡ None) × (b ≡ None)
neither None b h = (refl, h)
neither (Some x) b h = cc

-- where none of five codes holds, the fourth does not
fourth : {T : Type 0} (s t u v w : T) (a b c d e : Bool)
    → (if a then Some s else if b then Some t else if c then Some u else if d then Some v
    else if e then Some w else None) ≡ None → d ≡ false
fourth s t u v w true b c d e h = cc
fourth s t u v w false true c d e h = cc
fourth s t u v w false false true d e h = cc
fourth s t u v w false false false true e h = cc
fourth s t u v w false false false false e h = refl

not-either : (a b : Bool) → (a || b) ≡ false → (a ≡ false) × (b ≡ false)
not-either false b h = (refl, h)
not-either true b h = cc

-- a test that is not failed is passed
pub passed : (a b : Bool) → (a && not b) ≡ false → a ≡ true → b ≡ true
passed a true h g = refl
passed true false h g = cc
passed false false h g = g

spec-known : (arch : Arch) (test : PinSpec → Bool) (pin : ℕ)
    → option_map_or test (slice_get arch.pins pin) false ≡ true → pin < length arch.pins
spec-known arch test pin h = go (slice_get arch.pins pin) refl h
  where
    go : (o : Option PinSpec) → slice_get arch.pins pin ≡ o → option_map_or test o false ≡ true
        → pin < length arch.pins
    go None e g = absurd (false≢true g)
    go (Some spec) e g = slice_get_within arch.pins pin spec e

-- the pin with a label and a number, where these are of a terminal
known-labelled : (arch : Arch) (class_or_pad : Label) (m : ℕ) (label : Label) (x y n : ℕ)
    (pin : PinAt) → labelled_pin label x y n ≡ Some pin
    → is_number_of arch class_or_pad m label n ≡ true → HasPin arch pin
known-labelled arch l m Pad x y n pin h g =
    subst (HasPin arch) (some_is h) tt
known-labelled arch Class m Pin x y n pin h g =
    subst (HasPin arch) (some_is h)
    (spec-known arch (λ (spec : PinSpec). spec.class == m) n g)
known-labelled arch Pin m Pin x y n pin h g = absurd (false≢true g)
known-labelled arch Pad m Pin x y n pin h g = absurd (false≢true g)
known-labelled arch Track m Pin x y n pin h g = absurd (false≢true g)
known-labelled arch l m Class x y n pin h g = absurd (none_is_not_some h)
known-labelled arch l m Track x y n pin h g = absurd (none_is_not_some h)

-- the pin with a label and a number that are of an input
known-input : (arch : Arch) (kind : BlockKind) (sub : ℕ) (label : Label) (x y n : ℕ) (pin : PinAt)
    → labelled_pin label x y n ≡ Some pin → takes_in arch kind sub label n ≡ true → HasPin arch pin
known-input arch kind sub Pad x y n pin h g = subst (HasPin arch) (some_is h) tt
known-input arch Logic sub Pin x y n pin h g =
    subst (HasPin arch) (some_is h)
    (spec-known arch (λ (spec : PinSpec). not spec.output && not spec.global) n g)
known-input arch Input sub Pin x y n pin h g = absurd (false≢true g)
known-input arch Output sub Pin x y n pin h g = absurd (false≢true g)
known-input arch kind sub Class x y n pin h g = absurd (none_is_not_some h)
known-input arch kind sub Track x y n pin h g = absurd (none_is_not_some h)

-- the place of the pin with a label
labelled-place : (label : Label) (x y n : ℕ) (pin : PinAt) → labelled_pin label x y n ≡ Some pin
    → pin_place pin ≡ (x, y)
labelled-place Pad x y n pin h = ap pin_place (sym (some_is h))
labelled-place Pin x y n pin h = ap pin_place (sym (some_is h))
labelled-place Class x y n pin h = cc
labelled-place Track x y n pin h = cc

-- an OPIN line and its pin
opin-parts : (e : Elem) (pin : PinAt) → opin_of e ≡ Some pin
    → (is_opin e.kind ≡ true) × (labelled_pin e.label e.x e.y e.number ≡ Some pin)
opin-parts e pin h = go e.kind h
  where
    go : (k : ElemKind) → opin_of (record e { kind = k }) ≡ Some pin
        → (is_opin k ≡ true) × (labelled_pin e.label e.x e.y e.number ≡ Some pin)
    go Opin g = (refl, g)
    go Source g = cc
    go ChanX g = cc
    go ChanY g = cc
    go Ipin g = cc
    go Sink g = cc

ipin-parts : (e : Elem) (pin : PinAt) → ipin_of e ≡ Some pin
    → (is_ipin e.kind ≡ true) × (labelled_pin e.label e.x e.y e.number ≡ Some pin)
ipin-parts e pin h = go e.kind h
  where
    go : (k : ElemKind) → ipin_of (record e { kind = k }) ≡ Some pin
        → (is_ipin k ≡ true) × (labelled_pin e.label e.x e.y e.number ≡ Some pin)
    go Ipin g = (refl, g)
    go Source g = cc
    go ChanX g = cc
    go ChanY g = cc
    go Opin g = cc
    go Sink g = cc

-- a line that is at a pin of the driver
driver-line : (arch : Arch) (driver : Option Terminal) (e : Elem)
    → option_map_or (λ d. is_ordinary_pin_at arch d e) driver false ≡ true
    → (d : Terminal) × (driver ≡ Some d) × (is_pin_at arch d e ≡ true)
driver-line arch None e h = absurd (false≢true h)
driver-line arch (Some d) e h =
    (d, refl, (both_true (is_pin_at arch d e) (is_ordinary arch e.label e.number) h).0)

module _ (p : RoutingProblem) (fits : Fits p) where
  -- no line of the route has a fault
  pub line-clean : (n : ℕ) (net : RouteNet) (i : ℕ) (e : Elem) → slice_get p.route.nets n ≡ Some net
      → slice_get net.elems i ≡ Some e
      → net_line_fault p (elem_line (take n p.route.nets) net i e) ≡ None
  line-clean n net i e here there =
      Fits-line p fits (elem_line (take n p.route.nets) net i e)
      (In-flat_map (λ s. net_lines s.0 s.1) (splits p.route.nets)
      (take n p.route.nets, net, drop (suc n) p.route.nets)
      (elem_line (take n p.route.nets) net i e) (In-splits p.route.nets n net here)
      (inr (In-map (line_at (take n p.route.nets) net) (splits net.elems)
      (take i net.elems, e, drop (suc i) net.elems) (In-splits net.elems i e there))))

  module _ (n : ℕ) (net : RouteNet) (here : slice_get p.route.nets n ≡ Some net) where
    abbrev at : ℕ → Elem → ProblemContext
    at i e = problem_context p (elem_line (take n p.route.nets) net i e)

    pin-fine : (i : ℕ) (e : Elem) → slice_get net.elems i ≡ Some e
        → is_other_pin (device_of p) (at i e) ≡ false
    pin-fine i e there =
        let clean = neither _ _ (line-clean n net i e here there) in
        fourth _ _ _ _ _ (is_other_source (at i e)) (is_other_sink (at i e))
        (is_sink_not_once (at i e)) (is_other_pin (device_of p) (at i e))
        (is_pin_apart (device_of p) (at i e)) clean.0

    -- an OPIN line is at a pin of the driver
    at-driver : (i : ℕ) (e : Elem) → slice_get net.elems i ≡ Some e → is_opin e.kind ≡ true
        → (d : Terminal) × (driver_named p net.name ≡ Some d) × (is_pin_at p.arch d e ≡ true)
    at-driver i e there opin =
        let first = not-either (is_other_opin (device_of p) (at i e) e || is_other_ipin (at i e) e)
        (is_moved_sink (device_of p) (at i e) e) (pin-fine i e there) in
        let own = not-either (is_other_opin (device_of p) (at i e) e) (is_other_ipin (at i e) e)
        first.0 in
        driver-line p.arch (driver_named p net.name) e (passed (is_opin e.kind) _ own.0 opin)

    at-input : (i : ℕ) (e : Elem) → slice_get net.elems i ≡ Some e → is_ipin e.kind ≡ true
        → is_input p e ≡ true
    at-input i e there ipin =
        let first = not-either (is_other_opin (device_of p) (at i e) e || is_other_ipin (at i e) e)
        (is_moved_sink (device_of p) (at i e) e) (pin-fine i e there) in
        let own = not-either (is_other_opin (device_of p) (at i e) e) (is_other_ipin (at i e) e)
        first.0 in
        passed (is_ipin e.kind) _ own.1 ipin

    -- what is known of the pin of an OPIN line
    out-facts : (pin : PinAt) → In (filter_map opin_of net.elems) pin
        → (d : Terminal) × (driver_named p net.name ≡ Some d) × HasPin p.arch pin
        × (pin_place pin ≡ (d.x, d.y))
    out-facts pin i =
        let line = from_In-filter_map opin_of net.elems pin i in
        let place = In-place net.elems line.0 line.1 in
        let parts = opin-parts line.0 pin line.2 in
        let driver = at-driver place.0 line.0 place.1 parts.0 in
        let e : Elem = line.0 in
        let d : Terminal = driver.0 in
        let both = both_true (e.x == d.x && e.y == d.y)
        (is_number_of p.arch d.label d.number e.label e.number) driver.2 in
        let spot = both_true (e.x == d.x) (e.y == d.y) both.0 in
        let x = eqb-true e.x d.x spot.0 in
        let y = eqb-true e.y d.y spot.1 in (
          d,
          driver.1,
          known-labelled p.arch d.label d.number e.label e.x e.y e.number pin parts.1 both.1,
          labelled-place e.label e.x e.y e.number pin parts.1 ∙ (λ j. (x j, y j)),
        )

    -- the pins that the net begins at
    pub outs-together : AreTogether p.arch (filter_map opin_of net.elems)
    outs-together = record {
      known = all-from_In (HasPin p.arch) (filter_map opin_of net.elems)
          (λ pin i. (out-facts pin i).2);
      together = all-from_In
          (λ a. All (λ b. pin_place a ≡ pin_place b) (filter_map opin_of net.elems))
          (filter_map opin_of net.elems)
          (λ a i. all-from_In (λ b. pin_place a ≡ pin_place b) (filter_map opin_of net.elems)
          (λ b j. one a b (out-facts a i) (out-facts b j)));
    }
      where
        one : (a b : PinAt)
            → ((d : Terminal) × (driver_named p net.name ≡ Some d) × HasPin p.arch a
            × (pin_place a ≡ (d.x, d.y)))
            → ((d : Terminal) × (driver_named p net.name ≡ Some d) × HasPin p.arch b
            × (pin_place b ≡ (d.x, d.y))) → pin_place a ≡ pin_place b
        one a b u v =
            let same = some_is (sym u.1 ∙ v.1) in
            u.3 ∙ ap (λ (d : Terminal). (d.x, d.y)) same ∙ sym v.3

    in-known : (pin : PinAt) → In (filter_map sink_pin (adjacent net.elems)) pin
        → HasPin p.arch pin
    in-known pin i =
        let line = from_In-filter_map sink_pin (adjacent net.elems) pin i in
        let place = In-place (adjacent net.elems) line.0 line.1 in
        let ends = adjacent-there net.elems place.0 line.0 place.1 in
        let parts = ipin-parts line.0.0 pin (behind line.0 line.2) in
        input line.0.0 parts.1 (at-input place.0 line.0.0 ends.0 parts.0)
      where
        behind : (q : Elem × Elem) → sink_pin q ≡ Some pin → ipin_of q.0 ≡ Some pin
        behind q h = go (is_sink q.1.kind) h
          where
            go : (b : Bool) → (if b then ipin_of q.0 else None) ≡ Some pin → ipin_of q.0 ≡ Some pin
            go true g = g
            go false g = cc

        input : (e : Elem) → labelled_pin e.label e.x e.y e.number ≡ Some pin
            → is_input p e ≡ true → HasPin p.arch pin
        input e h g =
            let found = In-list_any (is_input_of p.arch e) (placed_blocks p) g in
            let both = both_true (e.x == found.0.1.x && e.y == found.0.1.y)
            (takes_in p.arch found.0.0.kind found.0.1.sub e.label e.number) found.2 in
            known-input p.arch found.0.0.kind found.0.1.sub e.label e.x e.y e.number pin h both.1

    -- the pins that the net ends at
    pub ins-known : All (HasPin p.arch) (filter_map sink_pin (adjacent net.elems))
    ins-known = all-from_In (HasPin p.arch) (filter_map sink_pin (adjacent net.elems)) in-known
