use Rattle.std.proofs.Common.{◌≡◌, ℕ, ap, sym, ◌∙◌}
use Rattle.list_laws.proofs.Members.{In-all}
use Rattle.list_laws.proofs.Places.{get-In}
use Rattle.fpga_types.specs.Problem.{RoutingProblem}
use Rattle.fpga_types.specs.Slots.{slots}
use Rattle.fpga_types.specs.Sound.{IsSoundNet}
use Rattle.fpga_types.specs.declared.route.RouteNet.{RouteNet}
use Rattle.route_reach.specs.Modelled.{ModelOf}
use Rattle.route_reach.specs.Printing.{frame, graph_in}
use Rattle.route_reach.proofs.DecodedNets.{decoded-global, decoded-printed, framed}
use Rattle.route_reach.proofs.decoding.decoded_net.Goals as goal

pub returns-then-net : goal.returns-then-net
returns-then-net c =
    let m : ModelOf = c.args.net.now.model.now in
    let net : RouteNet = c.args.net.now.net.now in
    let own = In-all (IsSoundNet m.problem.route.grid) m.problem.route.nets net
    c.problem-problem.ensures.given.route.nets
    (get-In m.problem.route.nets c.args.net.now.number net c.args.net.now.is.here) in
    decoded-global m c.args.net.now.number net c.in_ok-copy.copy c.if-net.true
    (own.global_elems c.if-net.true) c.in_ok-copy.ensures

pub print_net-requires : goal.print_net-requires
print_net-requires c =
    let m : ModelOf = c.args.net.now.model.now in
    let n : ℕ = c.args.net.now.number in
    let net : RouteNet = c.args.net.now.net.now in
    let is = c.args.net.now.is in
    let tree = c.in_ok-tree.tree in
    let same : frame c.problem-problem.result.now c.graph.result.now.width c.reach.result n net tree
    ≡ frame m.problem m.width m.reach n net tree =
    (λ i. frame (c.problem-problem.ensures.value i) ((c.graph.ensures i).width)
    (c.reach.ensures.value i) n net tree) in
    record {
      frame = framed m n net tree c.in_ok-tree.ensures.tree c.in_ok-tree.ensures.used
          is.limits.some c.problem-problem.ensures.given c.problem-problem.ensures.fits
          is.limits.most is.here c.if-net.false c.in_ok-tree.ensures.serves
          (frame c.problem-problem.result.now c.graph.result.now.width c.reach.result n net tree)
          same;
      graph = c.graph.ensures ∙ sym (ap graph_in same);
      numbers = c.requires
          ∙ sym (ap (λ (p : RoutingProblem). slots p.route) c.problem-problem.ensures.value);
    }

pub returns : goal.returns
returns c =
    let m : ModelOf = c.args.net.now.model.now in
    let n : ℕ = c.args.net.now.number in
    let net : RouteNet = c.args.net.now.net.now in
    let tree = c.in_ok-tree.tree in
    let same : frame c.problem-problem.result.now c.graph.result.now.width c.reach.result n net tree
    ≡ frame m.problem m.width m.reach n net tree =
    (λ i. frame (c.problem-problem.ensures.value i) ((c.graph.ensures i).width)
    (c.reach.ensures.value i) n net tree) in
    decoded-printed m n net tree c.in_ok-tree.ensures.tree c.in_ok-tree.ensures.used
    c.args.net.now.is.limits.some
    (frame c.problem-problem.result.now c.graph.result.now.width c.reach.result n net tree)
    c.in_ok-printed.printed same c.in_ok-printed.ensures
