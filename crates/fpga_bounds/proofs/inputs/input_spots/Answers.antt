use Rattle.std.proofs.Common.{◌<◌, ◌∙◌, ap, length, List, arith, refl}
use Rattle.std.specs.Prelude.{zip}
use Rattle.std.specs.List.{list_any}
use Rattle.std.proofs.lemmas.List.{take_all}
use Rattle.std.proofs.lemmas.Option.{slice_get_read}
use Rattle.std.proofs.lemmas.Slice.Zip.{length-zip}
use Rattle.list_laws.proofs.Places.{get-there}
use Rattle.fpga_types.specs.declared.netlist.Block.{Block}
use Rattle.fpga_bounds.specs.Inputs.{ends_nets_at}
use Rattle.fpga_bounds.proofs.InputLemmas.{inputs-more}
use Rattle.fpga_bounds.proofs.inputs.input_spots.Goals as goal

pub loop-i-preserved : goal.loop-i-preserved
loop-i-preserved c =
    let blocks : List Block = c.args.blocks.now in
    let within : c.loop-i.i < length c.args.places.now = omega arith in
    inputs-more blocks c.args.places.now c.loop-i.i c.index-blocks-i.result _ c.loop-i.spots
    c.add_input.new.spots
    (slice_get_read blocks (length blocks) c.loop-i.i c.index-blocks-i.result refl
    c.loop-i-test.true c.index-blocks-i.is)
    (get-there c.args.places.now c.loop-i.i _ _ within refl)
    c.in_ok-add_input.ensures c.loop-i.invariant

pub returns : goal.returns
returns c = λ spot. c.loop-i.invariant spot
    ∙ ap (list_any (ends_nets_at spot))
    (take_all c.loop-i.i (zip c.args.blocks.now c.args.places.now) (rw length-zip (omega arith)))
