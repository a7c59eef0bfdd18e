use Rattle.std.proofs.Common.{rules, arith, refl, sym, subst, ◌∙◌}
use Rattle.std.specs.Prelude.{string_bytes}
use Rattle.list_laws.proofs.Places.{get-there}
use Rattle.route_draw.specs.Blamed.{blame_of}
use Rattle.route_draw.specs.Picture.{IsRouted}
use Rattle.route_draw.specs.Wires.{AreLanes, LanesOf}
use Rattle.route_draw.proofs.PartLemmas.{added-next, added-none, added-whole}
use Rattle.route_draw.proofs.nets.append_nets.Goals as goal

pub loop-net-init : goal.loop-net-init
loop-net-init c = record {
  same = refl;
  added = λ layout are.
      added-none (IsRouted layout (blame_of c.args.emphasis.now)) c.args.nets.now
      (string_bytes c.args.out.now);
}

pub loop-net-preserved : goal.loop-net-preserved
loop-net-preserved c =
    let at = get-there c.args.nets.now c.loop-net.net-index c.net-item.result c.net-item.result
    (search rules) (search rules) in
    let same = c.enter.ensures ∙ c.loop-net.invariant.same in
    record {
      same = same;
      added = λ layout are.
          added-next (IsRouted layout (blame_of c.args.emphasis.now)) c.args.nets.now
          c.loop-net.net-index c.net-item.result _ _ _ at (c.loop-net.invariant.added layout are)
          (c.in_ok-append_net.ensures layout
          (subst (λ (lanes : LanesOf). AreLanes layout lanes) (sym same) are));
    }

pub returns : goal.returns
returns c = λ layout are.
    added-whole (IsRouted layout (blame_of c.args.emphasis.now)) c.args.nets.now
    c.loop-net.net-index _ _ (omega arith) (c.loop-net.invariant.added layout are)
