-- Nets that are printed share no pin, since the nets of the global route do not.
use Rattle.std.proofs.Common.{◌≡◌, ℕ, Bool, true, false, Some, List, take, refl, sym, ap, ◌∙◌}
use Rattle.std.specs.Prelude.{◌&&◌, ◌||◌, ◌==◌, not, slice_get, Contains, IsTrue}
use Rattle.std.specs.List.{list_any}
use Rattle.std.proofs.lemmas.Bool.{eq-eqb, eqb-true, false≢true}
use Rattle.list_laws.proofs.Members.{In, In-all, In-contains, In-list_any, list_any-from_In}
use Rattle.list_laws.proofs.Places.{In-place, get-In}
use Rattle.fpga_bounds.proofs.LineLemmas.{elem_line}
use Rattle.fpga_types.specs.Fit.{is_pin_of, same_elem, same_pin, same_place}
use Rattle.fpga_types.specs.Fits.{Fits}
use Rattle.fpga_types.specs.Kinds.{is_channel, is_pin, same_label}
use Rattle.fpga_types.specs.Problem.{RoutingProblem}
use Rattle.fpga_types.specs.declared.route.Elem.{Elem}
use Rattle.fpga_types.specs.declared.route.ElemKind.{ElemKind}
use Rattle.fpga_types.specs.declared.route.ElemKind.TheVariants.{Opin, Ipin}
use Rattle.fpga_types.specs.declared.route.Label.{Label}
use Rattle.fpga_types.specs.declared.route.Label.TheVariants.{Class, Pin, Pad, Track}
use Rattle.fpga_types.specs.declared.route.RouteNet.{RouteNet}
use Rattle.fpga_types.proofs.FitsLemmas.{Fits-line}
use Rattle.fpga_types.proofs.MeetingLemmas.{both_true}
use Rattle.route_reach.specs.Good.{IsRoutedNet, is_pin_among}
use Rattle.route_verify.proofs.EqualLines.{AreEqual, same_elem-is, same_label-is}
use Rattle.route_verify.proofs.FittingLine.{fitting}
use Rattle.route_verify.proofs.TrackedLines.{elem-among}

pin-other : (k : ElemKind) → is_pin k ≡ true → is_channel k ≡ false
pin-other Opin h = refl
pin-other Ipin h = refl
pin-other k h = absurd (false≢true h)

label-itself : (l : Label) → same_label l l ≡ true
label-itself Class = refl
label-itself Pin = refl
label-itself Pad = refl
label-itself Track = refl

-- a pin line of a routed net equals one of the net in the global route
line-in : (net found : RouteNet) → IsRoutedNet net found → (e : Elem) → In found.elems e
    → is_pin e.kind ≡ true → (z : Elem) × In net.elems z × AreEqual e z
line-in net found routed e among pin =
    let any = In-list_any (same_elem e) net.elems
    (go (is_pin e.kind) pin
    (In-all (λ d. IsTrue (is_pin_among net.elems d)) found.elems e routed.pins among)) in
    (any.0, any.1, same_elem-is e any.0 any.2)
  where
    go : (b : Bool) → b ≡ true → (not b || list_any (same_elem e) net.elems) ≡ true
        → list_any (same_elem e) net.elems ≡ true
    go true i h = h
    go false i h = absurd (false≢true i)

-- lines that equal two lines at one pin are at one pin
pins-equal : (a b c d : Elem) → same_pin a b ≡ true → AreEqual a c → AreEqual b d
    → same_pin c d ≡ true
pins-equal a b c d h s t =
    let all = both_true (is_pin a.kind && is_pin b.kind && same_place a b)
    (a.number == b.number) h in
    let front = both_true (is_pin a.kind && is_pin b.kind) (same_place a b) all.0 in
    let kinds = both_true (is_pin a.kind) (is_pin b.kind) front.0 in
    let place = both_true (a.x == b.x && a.y == b.y) (same_label a.label b.label) front.1 in
    let spot = both_true (a.x == b.x) (a.y == b.y) place.0 in
    let x : c.x ≡ d.x = sym s.x ∙ eqb-true a.x b.x spot.0 ∙ t.x in
    let y : c.y ≡ d.y = sym s.y ∙ eqb-true a.y b.y spot.1 ∙ t.y in
    let label : c.label ≡ d.label = sym s.label ∙ same_label-is a.label b.label place.1 ∙ t.label
    in
    let number : c.number ≡ d.number =
    sym (s.number (pin-other a.kind kinds.0)) ∙ eqb-true a.number b.number all.1
    ∙ t.number (pin-other b.kind kinds.1) in
    (λ i. (ap is_pin (sym s.kind) ∙ kinds.0) i && (ap is_pin (sym t.kind) ∙ kinds.1) i
    && (eq-eqb c.x d.x x i && eq-eqb c.y d.y y i
    && ((λ j. same_label (label j) d.label) ∙ label-itself d.label) i)
    && eq-eqb c.number d.number number i)

module _ (p : RoutingProblem) (fits : Fits p) (n : ℕ) (net found : RouteNet)
    (here : slice_get p.route.nets n ≡ Some net) (routed : IsRoutedNet net found)
    (earlier : List RouteNet)
    (each : (m : ℕ) (other : RouteNet) → slice_get earlier m ≡ Some other → (given : RouteNet)
    × (slice_get (take n p.route.nets) m ≡ Some given) × IsRoutedNet given other) where
  -- no earlier net has a pin of the net's
  pub pins-apart : (e : Elem) → Contains found.elems e → is_pin_of earlier e ≡ false
  pins-apart e has = go (is_pin_of earlier e) refl
    where
      go : (b : Bool) → is_pin_of earlier e ≡ b → b ≡ false
      go false h = refl
      go true h =
          let net_of = In-list_any (λ (other : RouteNet). list_any (same_pin e) other.elems)
          earlier h in
          let line = In-list_any (same_pin e) net_of.0.elems net_of.2 in
          let all = both_true (is_pin e.kind && is_pin line.0.kind && same_place e line.0)
          (e.number == line.0.number) line.2 in
          let front = both_true (is_pin e.kind && is_pin line.0.kind) (same_place e line.0) all.0 in
          let kinds = both_true (is_pin e.kind) (is_pin line.0.kind) front.0 in
          let place = In-place earlier net_of.0 net_of.1 in
          let given = each place.0 net_of.0 place.1 in
          let there = line-in given.0 net_of.0 given.2 line.0 line.1 kinds.1 in
          let own = line-in net found routed e (In-contains found.elems e has) kinds.0 in
          let spot = In-place net.elems own.0 own.1 in
          let fit = fitting p (elem_line (take n p.route.nets) net spot.0 own.0)
          (Fits-line p fits (elem_line (take n p.route.nets) net spot.0 own.0)
          (elem-among p.route.nets n net spot.0 own.0 here spot.1)) in
          absurd (false≢true (sym fit.alone
          ∙ list_any-from_In (λ (other : RouteNet). list_any (same_pin own.0) other.elems)
          (take n p.route.nets) given.0 (get-In (take n p.route.nets) place.0 given.0 given.1)
          (list_any-from_In (same_pin own.0) given.0.elems there.0 there.1
          (pins-equal e line.0 own.0 there.0 line.2 own.2 there.2))))
