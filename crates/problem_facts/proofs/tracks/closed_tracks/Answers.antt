use Rattle.std.proofs.Common.{◌≡◌, ◌<◌, ◌∙◌, ◌||◌, ℕ, List, Bool, [], false, not, length, length-set, get_or, arith}
use Rattle.std.proofs.lemmas.List.{get_or_default}
use Rattle.fpga_types.specs.declared.grid.PinAt.TheVariants.{Pad}
use Rattle.fpga_types.specs.declared.problem.PinStep.{PinStep}
use Rattle.problem_facts.proofs.ClosedLemmas.{close-next}
use Rattle.problem_facts.proofs.tracks.closed_tracks.Goals as goal

pub loop-step-init : goal.loop-step-init
loop-step-init c = record {
  each = c.in_ok-rows.ensures.each;
  closed = λ tree track low most. c.in_ok-rows.ensures.none tree track;
}

pub loop-step-preserved : goal.loop-step-preserved
loop-step-preserved c =
    let roots : List ℕ = c.args.roots.now in
    let steps : List PinStep = c.args.steps.now in
    let i : ℕ = c.loop-step.step-index in
    let none : PinStep = record { pin = Pad 0 0 0; slot = 0 } in
    let step : PinStep = get_or steps i none in
    let inside : i < length steps = c.loop-step-test.true in
    let rows : List (List Bool) = c.loop-step.rows.items in
    let root : ℕ = get_or roots step.slot 0 in
    let low : root < length rows =
    omega (
      arith,
      c.requires.within step.slot 0 (c.requires.slots i none inside),
      c.loop-step.invariant.each,
    ) in
    let here : c.index_mut.result.now ≡ get_or rows root [] =
    c.index_mut.ensures.value ∙ get_or_default rows root c.index_mut.result.now [] low in
    record {
      each = length-set rows root _ ∙ c.loop-step.invariant.each;
      closed = close-next c.args.graph.now.arch c.args.graph.now.width roots steps i step rows
          c.close.new.row inside (get_or_default steps i none step inside) low
          c.loop-step.invariant.closed
          (λ t most. c.close.ensures t most
          ∙ (λ j. get_or (here j) t false || not (c.opened-opened.ensures t j)));
    }
