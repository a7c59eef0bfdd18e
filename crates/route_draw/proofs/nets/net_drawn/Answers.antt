use Rattle.route_draw.proofs.WireLemmas.{wires-drawn}
use Rattle.route_draw.proofs.nets.net_drawn.Goals as goal

pub returns : goal.returns
returns c = λ layout are.
    wires-drawn layout c.args.elems.now _ _ _ _ _ _ c.new-out.ensures.bytes
    c.in_ok-push_str.ensures.bytes (c.in_ok-append_wires.ensures layout are)
    c.as_str.ensures.value c.in_ok-push_str-2.ensures.bytes
