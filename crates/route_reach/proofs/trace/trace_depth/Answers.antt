use Rattle.std.proofs.Common.{◌≡◌, ◌∙◌, ◌+◌, ◌<◌, ◌++◌, ◌∷◌, [], ℕ, List, Some, add-one, ap, arith, length, refl, sym, take}
use Rattle.std.specs.Prelude.{flat_map, max, slice_get}
use Rattle.std.proofs.Math.Seq.{take-length}
use Rattle.std.proofs.lemmas.Bool.{eqb-true}
use Rattle.std.proofs.lemmas.Option.{slice_get_read}
use Rattle.list_laws.proofs.Places.{take-get}
use Rattle.fpga_types.specs.Slots.{slots}
use Rattle.fpga_types.specs.declared.problem.Slot.{Slot}
use Rattle.fpga_types.specs.declared.route.RouteNet.{RouteNet}
use Rattle.fpga_types.specs.declared.route.RouteText.{RouteText}
use Rattle.route_reach.specs.TraceDepth.{greatest, net_depths, trace_depth}
use Rattle.route_reach.proofs.DepthBounds.{depth-few}
use Rattle.route_reach.proofs.GreatestLemmas.{greatest-net}
use Rattle.route_reach.proofs.trace.trace_depth.Goals as goal

pub returns-then-is_empty : goal.returns-then-is_empty
returns-then-is_empty c =
    let few = depth-few c.args.problem.now c.route.ensures.given.route c.route.ensures.fits in
    let own : length c.slots.result.now ≡ length (slots c.args.problem.now.route) =
    ap (λ (ss : List Slot). length ss) c.slots.ensures.value in
    let none = eqb-true (length c.slots.result.now) 0
    (sym c.is_empty.ensures ∙ c.if-is_empty.true) in
    omega (arith, few, own, none)

pub loop-net-preserved : goal.loop-net-preserved
loop-net-preserved c =
    let nets : List RouteNet = c.args.problem.now.route.nets in
    let items : List RouteNet = c.as_slice-nets.result.now in
    let i : ℕ = c.loop-net.net-index in
    let net : RouteNet = c.net-item.result in
    let same : items ≡ nets =
    c.as_slice-nets.ensures ∙ ap (λ (route : RouteText). route.nets) c.route.ensures.value in
    let lt : i < length items = omega arith in
    let there : slice_get nets i ≡ Some net =
    ap (λ (ns : List RouteNet). slice_get ns i) (sym same)
    ∙ slice_get_read items (length items) i net refl lt c.net-item.is in
    let more : take (i + 1) nets ≡ take i nets ++ net ∷ [] =
    rw add-one (take-get nets i net there) in
    c.max-greatest.ensures
    ∙ (λ k. max (c.loop-net.invariant k) (c.in_ok-net_depth.ensures k))
    ∙ sym (greatest-net (take i nets) net)
    ∙ ap (λ (ns : List RouteNet). greatest (flat_map net_depths ns))
    (sym more)

module _ (c : goal.After-loop-net) where
  abbrev nets : List RouteNet
  nets = c.args.problem.now.route.nets

  found : c.loop-net.greatest ≡ trace_depth c.args.problem.now.route
  found =
      let own : length c.as_slice-nets.result.now ≡ length nets =
      ap (λ (ns : List RouteNet). length ns) (c.as_slice-nets.ensures
      ∙ ap (λ (route : RouteText). route.nets) c.route.ensures.value) in
      let end : c.loop-net.net-index ≡ length nets = omega arith in
      c.loop-net.invariant
      ∙ ap (λ (ns : List RouteNet). greatest (flat_map net_depths ns))
      (ap (λ (n : ℕ). take n nets) end ∙ take-length nets)

pub overflow_cast-result : goal.overflow_cast-result
overflow_cast-result c =
    let few = depth-few c.args.problem.now c.route.ensures.given.route c.route.ensures.fits in
    let own : length c.slots.result.now ≡ length (slots c.args.problem.now.route) =
    ap (λ (ss : List Slot). length ss) c.slots.ensures.value in
    let is = found c in
    omega (arith, few, own, is, c.slots.ensures.limit)

pub returns : goal.returns
returns c = found c
