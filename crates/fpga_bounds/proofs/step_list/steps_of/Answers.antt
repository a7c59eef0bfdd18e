use Rattle.std.proofs.Common.{◌≡◌, ◌<◌, List, length, refl, arith, Some, ◌∙◌}
use Rattle.std.specs.Prelude.{slice_get}
use Rattle.std.proofs.lemmas.Option.{slice_get_read}
use Rattle.fpga_types.specs.declared.route.RouteNet.{RouteNet}
use Rattle.fpga_bounds.specs.StepList.{net_steps}
use Rattle.fpga_bounds.proofs.StepLemmas.{nets-more}
use Rattle.fpga_bounds.proofs.step_list.steps_of.Goals as goal

pub loop-n-preserved : goal.loop-n-preserved
loop-n-preserved c =
    let nets : List RouteNet = c.args.nets.now in
    let below : c.loop-n.n < length nets = omega arith in
    let here : slice_get nets c.loop-n.n ≡ Some c.index-nets-n.result =
    slice_get_read nets (length nets) c.loop-n.n c.index-nets-n.result refl below
    c.index-nets-n.is in
    nets-more (λ m. net_steps c.args.table.now m.0 m.1.elems) nets c.loop-n.n
    c.index-nets-n.result _ here below
    (c.in_ok-add_steps.ensures ∙ rw (
      c.loop-n.invariant,
      c.as_slice-elems.ensures,
      ←
          c.index-nets-n.is,
    ) refl)
