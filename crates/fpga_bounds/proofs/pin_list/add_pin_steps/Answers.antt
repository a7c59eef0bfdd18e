use Rattle.std.proofs.Common.{◌≡◌, ◌<◌, ◌++◌, ◌∙◌, List, length, take, get_or, arith, refl, ap, sym, None, Some, Option, add-one}
use Rattle.std.specs.Prelude.{slice_get}
use Rattle.std.specs.Option.{option_to_list}
use Rattle.list_laws.proofs.Places.{get-there, last-push, take-get}
use Rattle.fpga_types.specs.declared.problem.PinStep.{PinStep}
use Rattle.fpga_types.specs.declared.route.Elem.{Elem}
use Rattle.fpga_bounds.specs.PinList.{pin_step_beside}
use Rattle.fpga_bounds.proofs.LineLemmas.{NO_ELEM}
use Rattle.fpga_bounds.proofs.StepLemmas.{neighbours-more}
use Rattle.fpga_bounds.proofs.pin_list.add_pin_steps.Goals as goal

pub loop-e-preserved : goal.loop-e-preserved
loop-e-preserved c =
    let elems : List Elem = c.args.elems.now in
    let e : Elem = get_or elems c.loop-e.e-index NO_ELEM in
    let below : c.loop-e.e-index < length elems = omega arith in
    let here : slice_get elems c.loop-e.e-index ≡ Some e =
    get-there elems c.loop-e.e-index _ NO_ELEM below refl in
    record {
      found = neighbours-more (pin_step_beside c.args.table.now c.args.net) elems c.loop-e.e-index e
          _ _ _ c.loop-e.previous here c.loop-e.invariant.found c.loop-e.invariant.previous
          (c.in_ok-add_pin_step.ensures
          ∙ ap (λ (o : Option PinStep). c.loop-e.found.items ++ option_to_list o)
          c.pin_step_behind.ensures);
      previous = rw (add-one, take-get elems c.loop-e.e-index e here)
          (sym (last-push None (take c.loop-e.e-index elems) e));
    }
