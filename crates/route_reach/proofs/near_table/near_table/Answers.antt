use Rattle.std.proofs.Common.{◌<◌, ◌∙◌, arith, length, refl}
use Rattle.fpga_bounds.proofs.PairLemmas.{slots-distinct}
use Rattle.fpga_types.specs.Problem.{RoutingProblem}
use Rattle.fpga_types.specs.Slots.{slots}
use Rattle.route_reach.proofs.TableLemmas.{rows-more, slot-on_grid}
use Rattle.route_reach.proofs.near_table.near_table.Goals as goal

pub meeting_slots-requires-clause-distinct : goal.meeting_slots-requires-clause-distinct
meeting_slots-requires-clause-distinct c =
    rw c.requires.numbers (slots-distinct c.args.problem.now.route)

pub meeting_slots-requires-clause-wire : goal.meeting_slots-requires-clause-wire
meeting_slots-requires-clause-wire c =
    let p : RoutingProblem = c.args.problem.now in
    let low : c.loop-slot.slot-index < length (slots p.route) =
    rw c.slots-slot-items.ensures.value at c.loop-slot-test.true in
    rw c.slots-slot-items.ensures.value (record {
      cell = rw c.requires.grid (slot-on_grid p.route c.requires.sound c.loop-slot.slot-index low);
      track = omega arith;
    })

pub loop-slot-preserved : goal.loop-slot-preserved
loop-slot-preserved c =
    let p : RoutingProblem = c.args.problem.now in
    rows-more p.route c.loop-slot.slot-index c.loop-slot.table.items c.push.new.self.items
    c.meeting_slots.result c.loop-slot.invariant c.in_ok-push.ensures.items
    (c.meeting_slots.ensures ∙ rw (
      c.requires.grid,
      c.requires.numbers,
      c.slots-slot-items.ensures.value,
    ) refl)
