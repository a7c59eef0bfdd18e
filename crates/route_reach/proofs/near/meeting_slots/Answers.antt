use Rattle.std.proofs.Common.{◌≡◌, ◌+◌, ◌<◌, ◌∙◌, ℕ, Some, List, ap, arith, length, refl, subst, sym, take}
use Rattle.std.specs.Prelude.{filter_map, slice_get}
use Rattle.std.proofs.Math.Seq.{take-length}
use Rattle.std.proofs.lemmas.Option.{slice_get_read}
use Rattle.fpga_types.specs.declared.grid.Wire.{Wire}
use Rattle.fpga_types.specs.declared.problem.Slot.{Slot}
use Rattle.route_reach.specs.Near.{found_number, with_found}
use Rattle.route_reach.proofs.NearSlots.{IsGathered, found_in, gathered-more, gathered-none, meeting-all}
use Rattle.route_reach.proofs.SourceLemmas.{made-more}
use Rattle.route_reach.proofs.near.meeting_slots.Goals as goal

pub add_slot-requires : goal.add_slot-requires
add_slot-requires c =
    omega (arith, c.loop-joint.invariant.few, c.as_slice-joint-items.ensures.fits)

pub loop-joint-init : goal.loop-joint-init
loop-joint-init c = rw c.new-near.ensures (record { few = omega arith; gathered = gathered-none })

pub loop-joint-preserved : goal.loop-joint-preserved
loop-joint-preserved c =
    let all : List Slot = c.args.numbers.now in
    let slot : Slot = c.args.slot in
    let wires : List Wire = c.as_slice-joint-items.result.now in
    let i : ℕ = c.loop-joint.joint-index in
    let w : Wire = c.joint-item.result in
    let below : i < length wires = omega arith in
    let here : slice_get wires i ≡ Some w =
    slice_get_read wires (length wires) i w refl below c.joint-item.is in
    let added : c.add_slot.new.row.items
    ≡ with_found c.loop-joint.near.items (found_in all slot w) =
    c.add_slot.ensures.with ∙ ap (λ (v : Wire). with_found c.loop-joint.near.items
    (found_number all (record { net = slot.net; cell = v.cell }))) c.joint.view_is in
    record {
      few = omega (arith, c.loop-joint.invariant.few, c.add_slot.ensures.few);
      gathered = subst (λ (row : List ℕ). IsGathered row
          (filter_map (found_in all slot) (take (i + 1) wires))) (sym added)
          (subst (IsGathered (with_found c.loop-joint.near.items (found_in all slot w)))
          (sym (made-more (found_in all slot) wires i w here))
          (gathered-more c.loop-joint.near.items (filter_map (found_in all slot) (take i wires))
          (found_in all slot w) c.loop-joint.invariant.gathered));
    }

pub returns : goal.returns
returns c =
    let all : List Slot = c.args.numbers.now in
    let slot : Slot = c.args.slot in
    let wires : List Wire = c.as_slice-joint-items.result.now in
    let end : c.loop-joint.joint-index ≡ length wires = omega arith in
    let whole : take c.loop-joint.joint-index wires ≡ c.joints-joints.result.items =
    ap (λ (n : ℕ). take n wires) end ∙ take-length wires ∙ c.as_slice-joint-items.ensures.value in
    meeting-all all c.args.graph.now c.requires.distinct slot c.joints-joints.result.items
    c.loop-joint.near.items c.joints-joints.ensures.joints
    (subst (λ (ws : List Wire). IsGathered c.loop-joint.near.items
    (filter_map (found_in all slot) ws)) whole c.loop-joint.invariant.gathered)
