use Rattle.std.proofs.Common.{ap, ◌∙◌}
use Rattle.list_laws.proofs.Places.{get-there}
use Rattle.fpga_types.specs.declared.route.RouteNet.{RouteNet}
use Rattle.fpga_types.proofs.NameLaws.{numbers-more}
use Rattle.route_verify.proofs.traces.Traces.of.Goals as goal

pub loop-i-preserved : goal.loop-i-preserved
loop-i-preserved c = record {
  found = numbers-more (λ (n : RouteNet). n.name) c.args.nets.now c.loop-i.i c.index-nets-i.result
      c.as_slice.result.now c.loop-i.numbers c.number_name.new.numbers
      (get-there c.args.nets.now c.loop-i.i c.index-nets-i.result _ c.loop-i-test.true
      c.index-nets-i.is)
      (c.as_slice.ensures ∙ ap (λ (n : RouteNet). n.name) c.net.view_is)
      c.in_ok-number_name.ensures c.loop-i.invariant.found;
}
