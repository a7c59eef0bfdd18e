use Rattle.std.proofs.Common.{rules, arith}
use Rattle.std.specs.Prelude.{string_bytes}
use Rattle.list_laws.proofs.Places.{get-there}
use Rattle.route_draw.specs.Blamed.{blame_of}
use Rattle.route_draw.specs.Picture.{IsGlobal}
use Rattle.route_draw.proofs.PartLemmas.{added-next, added-none, added-whole}
use Rattle.route_draw.proofs.blocks.append_global_nets.Goals as goal

pub loop-net-init : goal.loop-net-init
loop-net-init c =
    added-none (IsGlobal (blame_of c.args.emphasis.now)) c.args.nets.now
    (string_bytes c.args.out.now)

pub loop-net-preserved : goal.loop-net-preserved
loop-net-preserved c =
    let at = get-there c.args.nets.now c.loop-net.net-index c.net-item.result c.net-item.result
    (search rules) (search rules) in
    added-next (IsGlobal (blame_of c.args.emphasis.now)) c.args.nets.now c.loop-net.net-index
    c.net-item.result _ _ _ at c.loop-net.invariant c.in_ok-append_global_net.ensures

pub returns : goal.returns
returns c =
    added-whole (IsGlobal (blame_of c.args.emphasis.now)) c.args.nets.now c.loop-net.net-index
    _ _ (omega arith) c.loop-net.invariant
