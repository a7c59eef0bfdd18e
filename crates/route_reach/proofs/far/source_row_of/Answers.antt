use Rattle.std.proofs.Common.{◌∙◌, ap, sym}
use Rattle.std.specs.List.{list_any}
use Rattle.fpga_graph.proofs.MarkLemmas.{unmarked}
use Rattle.fpga_types.specs.Problem.{RoutingProblem}
use Rattle.fpga_types.specs.Slots.{slot_at, slots}
use Rattle.route_reach.specs.Encoding.{reaches, wire_at}
use Rattle.route_reach.proofs.FarLemmas.{net-here, net-within, no-outs, own-outs}
use Rattle.route_reach.proofs.PinLines.{outs-together}
use Rattle.route_reach.proofs.far.source_row_of.Goals as goal

pub bounds-as_slice-slot : goal.bounds-as_slice-slot
bounds-as_slice-slot c =
    rw (c.slots.ensures.value, c.as_slice.ensures, c.route.ensures.value)
    (net-within c.args.problem.now.route c.args.slot c.requires.slot)

pub returns-then-net : goal.returns-then-net
returns-then-net c = λ t.
    let p : RoutingProblem = c.args.problem.now in
    let is = rw (
      c.slots.ensures.value,
      c.as_slice.ensures,
      c.route.ensures.value,
    ) at c.index-as_slice-slot.is in
    let here = net-here p.route c.args.slot c.index-as_slice-slot.result c.requires.slot is in
    unmarked 64 t
    ∙ sym (ap (list_any (λ out. reaches c.args.graph.now out
    (wire_at (slots p.route) c.args.slot t)))
    (no-outs p.route (slot_at (slots p.route) c.args.slot).net c.index-as_slice-slot.result here
    c.if-net.true))

pub source_row-requires : goal.source_row-requires
source_row-requires c =
    let p : RoutingProblem = c.args.problem.now in
    let is = rw (
      c.slots.ensures.value,
      c.as_slice.ensures,
      c.route.ensures.value,
    ) at c.index-as_slice-slot.is in
    let here = net-here p.route c.args.slot c.index-as_slice-slot.result c.requires.slot is in
    rw (c.requires.arch, c.as_slice-2.ensures)
    (outs-together p c.route.ensures.fits (slot_at (slots p.route) c.args.slot).net
    c.index-as_slice-slot.result here)

pub returns : goal.returns
returns c = λ t.
    let p : RoutingProblem = c.args.problem.now in
    let is = rw (
      c.slots.ensures.value,
      c.as_slice.ensures,
      c.route.ensures.value,
    ) at c.index-as_slice-slot.is in
    let here = net-here p.route c.args.slot c.index-as_slice-slot.result c.requires.slot is in
    let own = own-outs p.route (slot_at (slots p.route) c.args.slot).net
    c.index-as_slice-slot.result here c.if-net.false in
    let row = rw (c.slots.ensures.value, c.as_slice-2.ensures) at c.source_row.ensures t in
    row ∙ sym (ap (list_any (λ out. reaches c.args.graph.now out
    (wire_at (slots p.route) c.args.slot t))) own)
