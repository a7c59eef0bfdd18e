use Rattle.std.proofs.Common.{◌≡◌, ◌∙◌, false, true, Some, ap, sym}
use Rattle.std.specs.Prelude.{Contains, slice_get}
use Rattle.std.specs.List.{list_any}
use Rattle.list_laws.proofs.Places.{some_is}
use Rattle.fpga_types.specs.Problem.{RoutingProblem}
use Rattle.fpga_types.specs.Slots.{slot_at, slots}
use Rattle.fpga_types.specs.declared.grid.Wire.{Wire}
use Rattle.fpga_types.specs.declared.route.Elem.{Elem}
use Rattle.fpga_types.specs.declared.route.RouteNet.{RouteNet}
use Rattle.route_reach.specs.Encoding.{reaches, wire_at}
use Rattle.route_reach.specs.Ends.{opin_of, outs_at}
use Rattle.route_reach.specs.Modelled.{IsSourceOf, is_source_of}
use Rattle.route_reach.proofs.FarLemmas.{net-here, net-within, no-outs, own-outs}
use Rattle.route_reach.proofs.OutLemmas.{any-made, none-so, some-so}
use Rattle.route_reach.proofs.PinLines.{outs-together}
use Rattle.route_reach.proofs.source_line.source_line_of.Goals as goal

pub bounds-as_slice-net : goal.bounds-as_slice-net
bounds-as_slice-net c =
    rw (c.slots.ensures.value, c.as_slice.ensures, c.route.ensures.value)
    (net-within c.args.problem.now.route c.args.slot c.requires.slot)

pub returns-then-net-clause-none : goal.returns-then-net-clause-none
returns-then-net-clause-none c =
    let p : RoutingProblem = c.args.problem.now in
    let is = rw (
      c.slots.ensures.value,
      c.as_slice.ensures,
      c.route.ensures.value,
    ) at c.index-as_slice-net.is in
    let here = net-here p.route c.args.slot c.index-as_slice-net.result c.requires.slot is in
    ap (list_any (λ out. reaches c.args.graph.now out
    (wire_at (slots p.route) c.args.slot c.args.track)))
    (no-outs p.route (slot_at (slots p.route) c.args.slot).net c.index-as_slice-net.result here
    c.if-net.true)

pub source_line-requires-clause-pins : goal.source_line-requires-clause-pins
source_line-requires-clause-pins c =
    let p : RoutingProblem = c.args.problem.now in
    let is = rw (
      c.slots.ensures.value,
      c.as_slice.ensures,
      c.route.ensures.value,
    ) at c.index-as_slice-net.is in
    let here = net-here p.route c.args.slot c.index-as_slice-net.result c.requires.slot is in
    rw (c.requires.arch, c.as_slice-2.ensures)
    ((outs-together p c.route.ensures.fits (slot_at (slots p.route) c.args.slot).net
    c.index-as_slice-net.result here).known)

pub returns-clause-begins : goal.returns-clause-begins
returns-clause-begins c =
    let p : RoutingProblem = c.args.problem.now in
    let w : Wire = wire_at (slots p.route) c.args.slot c.args.track in
    let is = rw (
      c.slots.ensures.value,
      c.as_slice.ensures,
      c.route.ensures.value,
    ) at c.index-as_slice-net.is in
    let here = net-here p.route c.args.slot c.index-as_slice-net.result c.requires.slot is in
    some-so (λ (line : Elem). Contains c.index-as_slice-net.result.elems line
    × (is_source_of c.args.graph.now w line ≡ true))
    (λ (line : Elem). (net : RouteNet) → slice_get p.route.nets
    (slot_at (slots p.route) c.args.slot).net ≡ Some net
    → IsSourceOf c.args.graph.now net w line) c.source_line.result
    (λ line from net at.
    let same : c.index-as_slice-net.result ≡ net = some_is (sym here ∙ at) in record {
      among = rw (← same) from.0;
      reaches = from.1;
    })
    (rw (← c.as_slice-2.ensures, ← c.slots.ensures.value) c.source_line.ensures.begins)

pub returns-clause-none : goal.returns-clause-none
returns-clause-none c =
    let p : RoutingProblem = c.args.problem.now in
    let w : Wire = wire_at (slots p.route) c.args.slot c.args.track in
    let is = rw (
      c.slots.ensures.value,
      c.as_slice.ensures,
      c.route.ensures.value,
    ) at c.index-as_slice-net.is in
    let here = net-here p.route c.args.slot c.index-as_slice-net.result c.requires.slot is in
    let own = own-outs p.route (slot_at (slots p.route) c.args.slot).net
    c.index-as_slice-net.result here c.if-net.false in
    none-so (list_any (is_source_of c.args.graph.now w) c.index-as_slice-net.result.elems ≡ false)
    (list_any (λ out. reaches c.args.graph.now out w)
    (outs_at p.route (slot_at (slots p.route) c.args.slot).net) ≡ false) c.source_line.result
    (λ none. ap (list_any (λ out. reaches c.args.graph.now out w)) own
    ∙ any-made (λ out. reaches c.args.graph.now out w) opin_of c.index-as_slice-net.result.elems
    ∙ none)
    (rw (← c.as_slice-2.ensures, ← c.slots.ensures.value) c.source_line.ensures.none)
