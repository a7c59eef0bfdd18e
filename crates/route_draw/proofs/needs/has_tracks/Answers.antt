use Rattle.std.proofs.Common.{rules, arith, ap, sym, ◌∙◌}
use Rattle.std.specs.List.{list_any}
use Rattle.fpga_types.specs.declared.route.RouteNet.{RouteNet}
use Rattle.list_laws.proofs.Places.{get-there}
use Rattle.route_draw.specs.Needs.{has_track}
use Rattle.route_draw.proofs.CountLemmas.{any-here, any-next, any-whole}
use Rattle.route_draw.proofs.needs.has_tracks.Goals as goal

pub returns-then-has_track : goal.returns-then-has_track
returns-then-has_track c =
    sym (any-here (λ (net : RouteNet). list_any has_track net.elems) c.args.nets.now
    c.loop-net.net-index c.net-item.result
    (get-there c.args.nets.now c.loop-net.net-index c.net-item.result c.net-item.result
    (search rules) (search rules))
    (ap (list_any has_track) (sym c.as_slice.ensures) ∙ sym c.if-has_track.ensures))

pub loop-net-preserved : goal.loop-net-preserved
loop-net-preserved c =
    any-next (λ (net : RouteNet). list_any has_track net.elems) c.args.nets.now
    c.loop-net.net-index c.net-item.result
    (get-there c.args.nets.now c.loop-net.net-index c.net-item.result c.net-item.result
    (search rules) (search rules))
    (ap (list_any has_track) (sym c.as_slice.ensures) ∙ sym c.if-has_track.ensures)
    c.loop-net.invariant

pub returns : goal.returns
returns c =
    sym (any-whole (λ (net : RouteNet). list_any has_track net.elems) c.args.nets.now
    c.loop-net.net-index (omega arith) c.loop-net.invariant)
