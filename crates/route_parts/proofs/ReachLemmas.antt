-- A terminal opens a wire of a part that a net's driver opens exactly where a way leads to it.
use Rattle.std.proofs.Common.{◌≡◌, ℕ, ◌≤◌, Bool, true, false, Option, Some, None, List, [], ◌∷◌, length, refl, sym, ap, ◌∙◌, subst, inl, inr, arith}
use Rattle.std.specs.Prelude.{◌==◌, slice_get, zip}
use Rattle.std.specs.List.{list_any}
use Rattle.std.specs.Option.{option_map_or}
use Rattle.std.proofs.lemmas.Bool.{false≢true}
use Rattle.list_laws.proofs.Members.{In, In-all, In-filter_map, In-list_any, list_any-from_In}
use Rattle.list_laws.proofs.Places.{get-In}
use Rattle.fpga_graph.specs.GraphOf.{GraphOf}
use Rattle.fpga_graph.specs.Wires.{Reaches}
use Rattle.fpga_types.specs.Placed.{IsWay, OpensWire, Way, is_terminal_pin, last_wire}
use Rattle.fpga_types.specs.Problem.{PlacedNetlist}
use Rattle.fpga_types.specs.Terminals.{driver_in, sinks_in, terminal_in}
use Rattle.fpga_types.specs.declared.grid.PinAt.{PinAt}
use Rattle.fpga_types.specs.declared.grid.Wire.{Wire}
use Rattle.fpga_types.specs.declared.netlist.Net.{Net}
use Rattle.fpga_types.specs.declared.netlist.PinRef.{PinRef}
use Rattle.fpga_types.specs.declared.problem.Terminal.{Terminal}
use Rattle.route_parts.specs.Links.{AreLinked, AreParts, part_in}
use Rattle.route_parts.specs.Marks.{AreMarked, IsParted, Parted, graph_at, is_marked, is_reached_by, is_sink_reached_by}
use Rattle.route_parts.specs.Opening.{driven_wires, terminal_wires}
use Rattle.route_parts.specs.Unreached.{HasNoRouting, IsReached, IsSinkReached, IsUnreachedSink}
use Rattle.route_parts.proofs.LinkLemmas.{last-alike}
use Rattle.route_parts.proofs.PinLemmas.{eqb-is, from-terminal, in-terminal, is-eqb, opened-wire}

module _ (placed : PlacedNetlist) (width count : ℕ) (table : List ℕ) (net : Net)
    (marks : List Bool) (some : 1 ≤ width) (parts : AreParts (graph_at placed width) count table)
    (marked : AreMarked (graph_at placed width) table
    (driven_wires placed (graph_at placed width) net) marks) where
  abbrev g : GraphOf
  g = graph_at placed width

  abbrev part : Wire → ℕ
  part = part_in g table

  -- a wire that the driver opens is opened by a driver that is there
  from-driven : (u : Wire) → In (driven_wires placed g net) u
      → (driver : Terminal) × (driver_in placed net ≡ Some driver) × In (terminal_wires g driver) u
  from-driven u i = go (driver_in placed net) refl i
    where
      go : (o : Option Terminal) → driver_in placed net ≡ o
          → In (option_map_or (terminal_wires g) o []) u → (driver : Terminal)
          × (driver_in placed net ≡ Some driver) × In (terminal_wires g driver) u
      go None e i = absurd i
      go (Some driver) e i = (driver, e, i)

  -- a way over the wires that link two wires
  way-over : (driver sink : Terminal) (u w : Wire) (from to : PinAt)
      → is_terminal_pin placed.arch driver from ≡ true → Reaches g from u → AreLinked g u w
      → is_terminal_pin placed.arch sink to ≡ true → Reaches g to w
      → (way : Way) × IsWay placed width driver sink way
  way-over driver sink u w from to is_from opens_u linked is_to opens_w = (
    record { leaves = from; first = u; rest = linked.rest; enters = to },
    record {
      leaves = is_from;
      starts = record { touches = opens_u.touches; opens = opens_u.opens };
      joined = linked.joined;
      ends = subst (λ (x : Wire). OpensWire placed.arch placed.placement.grid width to x)
          (sym linked.last) (record { touches = opens_w.touches; opens = opens_w.opens });
      enters = is_to;
    },
  )

  pub reached : (at : Terminal)
      → list_any (is_marked g table marks) (terminal_wires g at) ≡ true
      → IsReached placed width net at
  reached at h =
      let sink = In-list_any (is_marked g table marks) (terminal_wires g at) h in
      let w : Wire = sink.0 in
      let to = from-terminal g at w sink.1 in
      let source = In-list_any (λ u. part u == part w) (driven_wires placed g net)
      (sym (marked (part w)) ∙ sink.2) in
      let u : Wire = source.0 in
      let driver = from-driven u source.1 in
      let from = from-terminal g driver.0 u driver.2 in
      let linked = parts.linked u w (opened-wire g from.0 u some from.2)
      (opened-wire g to.0 w some to.2) (eqb-is (part u) (part w) source.2) in
      let way = way-over driver.0 at u w from.0 to.0 from.1 from.2 linked to.1 to.2 in
      record { driver = driver.0; is_driver = driver.1; way = way.0; is_way = way.1 }

  pub not-reached : (at : Terminal)
      → list_any (is_marked g table marks) (terminal_wires g at) ≡ false
      → IsReached placed width net at → ⊥
  not-reached at h is =
      let way : Way = is.way in
      let u : Wire = way.first in
      let w : Wire = last_wire way.first way.rest in
      let opens_u : Reaches g way.leaves u =
      record { touches = is.is_way.starts.touches; opens = is.is_way.starts.opens } in
      let opens_w : Reaches g way.enters w =
      record { touches = is.is_way.ends.touches; opens = is.is_way.ends.opens } in
      let in_u = in-terminal g is.driver u way.leaves is.is_way.leaves opens_u in
      let in_w = in-terminal g at w way.enters is.is_way.enters opens_w in
      let driven : In (driven_wires placed g net) u =
      subst (λ (o : Option Terminal). In (option_map_or (terminal_wires g) o []) u)
      (sym is.is_driver) in_u in
      let alike = last-alike g count table parts u way.rest
      (opened-wire g way.leaves u some opens_u) is.is_way.joined in
      let is_marked_w : is_marked g table marks w ≡ true =
      marked (part w) ∙ list_any-from_In (λ x. part x == part w) (driven_wires placed g net) u
      driven (is-eqb (part u) (part w) (sym alike)) in
      false≢true (sym h ∙ list_any-from_In (is_marked g table marks) (terminal_wires g at) w in_w
      is_marked_w)

-- what a sink that is not reached is
pub sink-not-reached : (n : Parted) (net : Net) (marks : List Bool) (number : ℕ) (pin : PinRef)
    → slice_get net.sinks number ≡ Some pin → IsParted n
    → AreMarked n.graph n.table (driven_wires n.placed n.graph net) marks
    → is_sink_reached_by n marks pin ≡ false → IsUnreachedSink n.placed n.graph.width net number
sink-not-reached n net marks number pin at_place parted marked h =
    go (terminal_in n.placed pin) refl h
  where
    go : (o : Option Terminal) → terminal_in n.placed pin ≡ o
        → option_map_or (is_reached_by n marks) o true ≡ false
        → IsUnreachedSink n.placed n.graph.width net number
    go None e h = absurd (false≢true (sym h))
    go (Some at) e h = record {
      pin = pin;
      is_pin = at_place;
      at = at;
      is_there = e;
      unreached = subst
          (λ (g : GraphOf). AreParts g n.count n.table
          → AreMarked g n.table (driven_wires n.placed g net) marks
          → list_any (is_marked g n.table marks) (terminal_wires g at) ≡ false
          → IsReached n.placed n.graph.width net at → ⊥) (sym parted.graph_is)
          (λ parts marked h. not-reached n.placed n.graph.width n.count n.table net marks
          parted.some parts marked at h) parted.parts marked h;
    }

pub sink-reached : (n : Parted) (net : Net) (marks : List Bool) (pin : PinRef)
    → IsParted n
    → AreMarked n.graph n.table (driven_wires n.placed n.graph net) marks
    → is_sink_reached_by n marks pin ≡ true → IsSinkReached n.placed n.graph.width net pin
sink-reached n net marks pin parted marked h at there =
    let found : is_reached_by n marks at ≡ true =
    subst (λ (o : Option Terminal). option_map_or (is_reached_by n marks) o true ≡ true) there h in
    subst
    (λ (g : GraphOf). AreParts g n.count n.table
    → AreMarked g n.table (driven_wires n.placed g net) marks
    → list_any (is_marked g n.table marks) (terminal_wires g at) ≡ true
    → IsReached n.placed n.graph.width net at) (sym parted.graph_is)
    (λ parts marked h. reached n.placed n.graph.width n.count n.table net marks parted.some parts
    marked at h) parted.parts marked found

-- an element has its partner
partner : {A B : Type 0} (xs : List A) (ys : List B) (x : A) → length ys ≡ length xs → In xs x
    → (y : B) × In (zip xs ys) (x, y)
partner [] ys x e i = absurd i
partner (a ∷ xs) [] x e i = absurd (omega (arith, e))
partner {A} {B} (a ∷ xs) (b ∷ ys) x e i = elim i [
  | inl f ↦ (b, inl (ap (λ (c : A). (c, b)) f))
  | inr t ↦ (let r = partner xs ys x (omega (arith, e)) t in (r.0, inr r.1))
]

-- where a sink is not reached, there is no placed routing
pub no-routing : (placed : PlacedNetlist) (width : ℕ) → HasNoRouting placed width
no-routing placed width found unreached has routing =
    let net : Net = unreached.net in
    let sink = unreached.sink.is in
    let routed = routing.routed found.net net unreached.is_net unreached.is_ordinary in
    let sinks : List Terminal = sinks_in placed net in
    let ways : List Way = (has found.net).ways in
    let is_sink : In sinks sink.at =
    In-filter_map (terminal_in placed) net.sinks sink.pin sink.at
    (get-In net.sinks found.sink sink.pin sink.is_pin) sink.is_there in
    let at = partner sinks ways sink.at routed.each is_sink in
    let way = In-all (λ (at : Terminal × Way). (driver : Terminal)
    × (driver_in placed net ≡ Some driver) × IsWay placed width driver at.0 at.1) (zip sinks ways)
    (sink.at, at.0) routed.ways at.1 in
    sink.unreached (record { driver = way.0; is_driver = way.1; way = at.0; is_way = way.2 })
