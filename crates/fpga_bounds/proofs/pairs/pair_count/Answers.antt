use Rattle.std.proofs.Common.{◌≡◌, ℕ, ◌<◌, ◌≤◌, List, length, take, get_or, arith, ◌∙◌}
use Rattle.std.proofs.lemmas.List.{length-take}
use Rattle.std.proofs.lemmas.List.Sums.{count_by-le-length}
use Rattle.fpga_types.specs.Fabric.{same_cell}
use Rattle.fpga_types.specs.Slots.{NO_SLOT}
use Rattle.fpga_types.specs.declared.problem.Slot.{Slot}
use Rattle.fpga_bounds.specs.Pairs.{crowd_in}
use Rattle.fpga_bounds.proofs.PairLemmas.{crowd-more, take-more}
use Rattle.fpga_bounds.proofs.pairs.pair_count.Goals as goal

pub add_to_crowd-requires : goal.add_to_crowd-requires
add_to_crowd-requires c =
    let all : List Slot = c.args.slots.now in
    let i : ℕ = c.loop-slot.slot-index in
    let x : Slot = get_or all i NO_SLOT in
    let below : i < length all = omega arith in
    let few : crowd_in (take i all) x.cell ≤ length (take i all) =
    count_by-le-length (λ (slot : Slot). same_cell slot.cell x.cell) (take i all) in
    omega (
      arith,
      c.loop-slot.invariant.crowds x.cell,
      few,
      length-take i all,
      below,
      c.requires.few,
    )

pub loop-slot-preserved : goal.loop-slot-preserved
loop-slot-preserved c =
    let all : List Slot = c.args.slots.now in
    let i : ℕ = c.loop-slot.slot-index in
    let x : Slot = get_or all i NO_SLOT in
    let below : i < length all = omega arith in
    let crowd : c.in_ok-crowd.crowd ≡ crowd_in (take i all) x.cell =
    c.in_ok-crowd.ensures.before ∙ c.loop-slot.invariant.crowds x.cell in
    let few : crowd_in (take i all) x.cell ≤ length (take i all) =
    count_by-le-length (λ (slot : Slot). same_cell slot.cell x.cell) (take i all) in
    record {
      counted = take-more all i c.loop-slot.count c.in_ok-crowd.crowd below c.requires.distinct
          c.loop-slot.invariant.counted crowd;
      limit = omega (
        arith,
        crowd,
        few,
        length-take i all,
        c.requires.few,
        c.loop-slot.invariant.limit,
      );
      crowds = crowd-more all i c.in_ok-crowd.crowd c.loop-slot.crowds c.add_to_crowd.new.crowds
          below c.loop-slot.invariant.crowds crowd c.in_ok-crowd.ensures.after.0;
    }
