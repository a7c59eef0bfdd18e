use Rattle.std.proofs.Common.{◌≡◌, ◌<◌, List, length, take, get_or, arith, refl, None, Some, add-one}
use Rattle.std.specs.Prelude.{slice_get}
use Rattle.fpga_types.specs.declared.route.Elem.{Elem}
use Rattle.list_laws.proofs.Places.{get-there, last-push, take-get}
use Rattle.fpga_bounds.proofs.LineLemmas.{NO_ELEM}
use Rattle.fpga_bounds.proofs.StepLemmas.{steps-more}
use Rattle.fpga_bounds.proofs.step_list.add_steps.Goals as goal

pub loop-e-preserved : goal.loop-e-preserved
loop-e-preserved c =
    let elems : List Elem = c.args.elems.now in
    let below : c.loop-e.e-index < length elems = omega arith in
    let here : slice_get elems c.loop-e.e-index ≡ Some (get_or elems c.loop-e.e-index NO_ELEM) =
    get-there elems c.loop-e.e-index _ NO_ELEM below refl in
    record {
      found = steps-more c.args.table.now c.args.net elems c.loop-e.e-index
          (get_or elems c.loop-e.e-index NO_ELEM) _ _ _ _ _ here c.loop-e.invariant.found
          c.loop-e.invariant.previous c.number_behind-number.ensures c.in_ok-add_step.ensures;
      previous =
          rw (
            add-one,
            take-get elems c.loop-e.e-index (get_or elems c.loop-e.e-index NO_ELEM) here,
            last-push None (take c.loop-e.e-index elems) (get_or elems c.loop-e.e-index NO_ELEM),
          )
          c.number_behind-number.ensures;
    }
