use Rattle.std.proofs.Common.{◌≡◌, ℕ, List, ap, length, subst, ◌∙◌, arith}
use Rattle.fpga_types.specs.Problem.{RoutingProblem}
use Rattle.fpga_types.specs.declared.route.RouteNet.{RouteNet}
use Rattle.fpga_types.specs.declared.route.RouteText.{RouteText}
use Rattle.route_reach.specs.Decoding.{AreDecoded}
use Rattle.route_reach.specs.Modelled.{ModelOf, slots_in_model}
use Rattle.route_reach.proofs.DecodedNets.{decoded-none, decoded-step, starts-first}
use Rattle.route_reach.proofs.decoding.decoded_nets.Goals as goal

pub loop-number-init : goal.loop-number-init
loop-number-init c = record {
  nets = rw c.in_ok-nets.ensures.items (decoded-none c.args.model.now);
  start = starts-first (slots_in_model c.args.model.now);
}

pub loop-number-preserved : goal.loop-number-preserved
loop-number-preserved c = record {
  nets = decoded-step c.args.model.now c.at-net.result.model.now c.loop-number.number
      c.at-net.result.number c.loop-number.nets.items c.push.new.self.items
      c.at-net.result.net.now c.in_ok-decoded_net.field-0 c.loop-number.invariant.nets
      c.at-net.ensures.model c.at-net.ensures.number c.at-net.ensures.net
      c.in_ok-decoded_net.ensures c.in_ok-push.ensures.items;
  start = c.at-net.ensures.next;
}

pub returns : goal.returns
returns c =
    let m : ModelOf = c.args.model.now in
    let whole : c.loop-number.number ≡ length c.as_slice-count.result.now =
    omega (arith, c.loop-number-test.false, c.loop-number.auto.number-end) in
    let nets : c.as_slice-count.result.now ≡ m.problem.route.nets =
    c.as_slice-count.ensures ∙ ap (λ (r : RouteText). r.nets) c.route.ensures.value
    ∙ ap (λ (p : RoutingProblem). p.route.nets) c.problem.ensures.value in
    subst (λ (n : ℕ). AreDecoded m n c.loop-number.nets.items)
    (whole ∙ ap (λ (xs : List RouteNet). length xs) nets) c.loop-number.invariant.nets
