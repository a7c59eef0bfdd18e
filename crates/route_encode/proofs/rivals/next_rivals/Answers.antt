use Rattle.std.proofs.Common.{◌-◌, ◌<◌, ◌≤◌, ◌∙◌, arith, length, length-set}
use Rattle.fpga_types.specs.Slots.{slot_at}
use Rattle.route_encode.proofs.RivalLemmas.{first-more, rival-first, row-more}
use Rattle.route_encode.proofs.rivals.next_rivals.Goals as goal

pub loop-s-preserved : goal.loop-s-preserved
loop-s-preserved c =
    let some : 0 < c.loop-s.s = omega arith in
    let high : c.loop-s.s ≤ length c.args.slots.now = omega arith in
    record {
      each = length-set c.loop-s.next.items _ _ ∙ c.loop-s.invariant.each;
      next = row-more c.args.slots.now c.loop-s.next.items c.loop-s.s c.in_ok-next-2.field-0 some
          high c.loop-s.invariant.each c.loop-s.invariant.next
          (c.in_ok-next-2.ensures.old
          ∙ c.loop-s.invariant.first (slot_at c.args.slots.now (c.loop-s.s - 1)).cell
          ∙ rival-first c.args.slots.now c.loop-s.s some);
      first = first-more c.args.slots.now c.loop-s.s c.loop-s.first c.insert.new.self some high
          c.loop-s.invariant.first c.in_ok-next-2.ensures.updates.0;
    }

pub returns : goal.returns
returns c = record {
  few = c.requires;
  each = c.loop-s.invariant.each;
  next = λ s below. c.loop-s.invariant.next s (omega arith) below;
}
