use Rattle.std.proofs.Common.{◌<◌, List, length, take, get_or, refl, arith, length-append}
use Rattle.std.specs.Prelude.{flat_map}
use Rattle.fpga_types.specs.Boxes.{opens}
use Rattle.fpga_types.specs.declared.problem.PinStep.{PinStep}
use Rattle.sat_clause.specs.Literal.{Clause}
use Rattle.route_encode.specs.Encoding.{open_track}
use Rattle.route_encode.proofs.AddLemmas.{rows-more}
use Rattle.route_encode.proofs.FabricLemmas.{NO_PIN_STEP, length-open_track}
use Rattle.route_encode.proofs.size.closed_count.Goals as goal

pub loop-step-preserved : goal.loop-step-preserved
loop-step-preserved c =
    let below : c.loop-step.step-index < length c.args.pin_steps.now = omega arith in
    let g : PinStep → List Clause = open_track (opens c.args.arch.now c.args.width) c.args.width in
    let step : PinStep = get_or c.args.pin_steps.now c.loop-step.step-index NO_PIN_STEP in
    let one = length-open_track c.args.arch.now c.args.width step c.fc.result c.fc.ensures.opened in
    record {
      count = rw (
        rows-more g c.args.pin_steps.now c.loop-step.step-index NO_PIN_STEP below,
        length-append (flat_map g (take c.loop-step.step-index c.args.pin_steps.now)) (g step),
        one,
        ← c.loop-step.invariant.count,
      ) refl;
      within = omega (arith, c.loop-step.invariant.within, c.requires.width);
    }
