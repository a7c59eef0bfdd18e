-- Each channel line of a generated route has a track.
use Rattle.std.specs.List.{AllByRecursion, enumerate_from}
use Rattle.std.proofs.Common.{◌≡◌, ◌∙◌, ℕ, ◌*◌, ◌≤◌, List, [], ◌∷◌, refl, sym, ap, subst, true}
use Rattle.std.proofs.lemmas.Bool.{false≢true}
use Rattle.fpga_bounds.proofs.SlotCountLemmas.{AreTracks}
use Rattle.fpga_route.specs.ReadBack.{SameButLines, elem_without_line, net_without_lines}
use Rattle.fpga_types.specs.Kinds.{is_channel}
use Rattle.fpga_types.specs.declared.limits.TheConstants.{SIDE_LIMIT}
use Rattle.fpga_types.specs.declared.route.Elem.{Elem}
use Rattle.fpga_types.specs.declared.route.ElemKind.TheVariants.{Ipin, Sink as SinkKind}
use Rattle.fpga_types.specs.declared.route.Label.TheVariants.{Class, Pin, Track}
use Rattle.fpga_types.specs.declared.route.RouteNet.{RouteNet}
use Rattle.list_laws.proofs.Members.{In, In-map, from_In-map}
use Rattle.route_gen.specs.Draws.{location_of, sinks_of}
use Rattle.route_gen.specs.Fitting.{AreRead}
use Rattle.route_gen.specs.Generated.{generated}
use Rattle.route_gen.specs.Routes.{route_net, route_to}
use Rattle.route_gen.specs.Traces.{cells, elem_at, trace}
use Rattle.route_gen.specs.declared.draws.Sink.{Sink}
use Rattle.route_gen.specs.declared.location.Location.{Location}
use Rattle.route_gen.specs.declared.trace.TheConstants.{INPUT_CLASS}
use Rattle.route_gen.proofs.ReadingLemmas.{route-reads}
use Rattle.route_gen.proofs.TraceLemmas.{all_joined}
use Rattle.route_gen.proofs.WalkLemmas.{in-all}
use Rattle.route_gen.proofs.WayLemmas.{cells-all}
use Rattle.run_outcome.specs.Subject.{RoutingProblem, RouteText}

-- each channel line of a route has a track
abbrev pub HasTracks : RouteText → Type 0
HasTracks route = (net : RouteNet) → In route.nets net → AreTracks net.elems

abbrev IsTracked : Elem → Type 0
IsTracked e = is_channel e.kind ≡ true → e.label ≡ Track

trace-tracked : (driver sink : Location) (pin : ℕ) →
    AllByRecursion IsTracked (trace driver sink pin)
trace-tracked driver sink pin = (
  λ h. absurd (false≢true h),
  (
    λ h. absurd (false≢true h),
    all_joined IsTracked (cells driver sink)
        (elem_at Ipin sink Pin pin ∷ elem_at SinkKind sink Class INPUT_CLASS ∷ [])
        (cells-all IsTracked driver sink (λ x y h. refl) (λ x y h. refl))
        (λ h. absurd (false≢true h), (λ h. absurd (false≢true h), tt)),
  ),
)

made-tracks : (side : ℕ) (sinks : List Sink) → HasTracks (route_to side sinks)
made-tracks side sinks = λ net i e j.
    let r = from_In-map (route_net side) (enumerate_from 0 sinks) net i in
    let driver = location_of side r.0.0 in
    let sink = location_of side r.0.1.block in
    in-all IsTracked (trace driver sink r.0.1.pin) e (trace-tracked driver sink r.0.1.pin)
    (subst (λ (n : RouteNet). In n.elems e) (sym r.2) j)

-- so has one with other lines
same-tracks : (route other : RouteText) → SameButLines route other → HasTracks other →
    HasTracks route
same-tracks route other same tracks = λ net i e j channel.
    let n = from_In-map net_without_lines other.nets (net_without_lines net)
    (subst (λ (r : RouteText). In r.nets (net_without_lines net)) same
    (In-map net_without_lines route.nets net i)) in
    let x = from_In-map elem_without_line n.0.elems (elem_without_line e)
    (subst (λ (m : RouteNet). In m.elems (elem_without_line e)) (sym n.2)
    (In-map elem_without_line net.elems e j)) in
    let label : x.0.label ≡ e.label = ap (λ (a : Elem). a.label) x.2 in
    let kind : is_channel x.0.kind ≡ is_channel e.kind =
    ap (λ (a : Elem). is_channel a.kind) x.2 in
    sym label ∙ tracks n.0 n.1 x.0 x.1 (kind ∙ channel)

pub texts-tracks : (seed side nets : ℕ) (p : RoutingProblem) → 1 ≤ side → side ≤ SIDE_LIMIT →
    nets ≤ side * side → AreRead (generated seed side nets) p → HasTracks p.route
texts-tracks seed side nets p some limit few read =
    let sinks = sinks_of seed side nets in
    let back = route-reads seed side nets some limit few in
    let route : back.0 ≡ p.route = back.1.1 ∙ sym read.route.1 in
    same-tracks p.route (route_to side sinks)
    (subst (λ (r : RouteText). SameButLines r (route_to side sinks)) route back.2)
    (made-tracks side sinks)
