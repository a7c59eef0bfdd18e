use Rattle.std.proofs.Common.{◌≡◌, ◌+◌, length, arith}
use Rattle.std.proofs.lemmas.List.Elements.{All-append}
use Rattle.sat_clause.specs.Literal.{IsLiteral}
use Rattle.sat_clause.proofs.PartsLaws.{parts_push, rise_push}
use Rattle.sat_clause.proofs.LogLaws.{steps_push, lit_parts-many, number_parts-many}
use Rattle.sat_clause.proofs.log.Log.push_step.Goals as goal

pub invariant_of-self : goal.invariant_of-self
invariant_of-self c =
    let old = c.self.invariant in
    let more = c.in-Ok.ensures in
    let more_numbers = c.in-Ok-extend_from_slice.ensures in
    let room = rw (← c.self.view_is) at c.requires.step_room in
    let number_room = rw (← c.self.view_is) at c.requires.number_room in
    record {
      lits_rise =
          rw (c.push_reserved-2.ensures.items, c.len.ensures)
          (rise_push c.self.inside.lits.len _ 0 c.self.inside.lit_ends.items old.lits_rise
          (omega arith));
      numbers_rise =
          rw (c.push_reserved-3.ensures.items, c.len-2.ensures)
          (rise_push c.self.inside.numbers.len _ 0 c.self.inside.number_ends.items
          old.numbers_rise (omega arith));
      lit_parts = omega arith;
      number_parts = omega arith;
      are_literals =
          rw more.items (All-append IsLiteral c.self.inside.lits.items c.args.lits.now
          old.are_literals c.requires.literals);
      heads_fit = omega arith;
      lit_ends_fit = omega arith;
      number_ends_fit = omega arith;
      few_lits = omega arith;
      few_numbers = omega arith;
      lits_fit = omega arith;
      numbers_fit = omega arith;
    }

pub returns-clause-steps : goal.returns-clause-steps
returns-clause-steps c =
    let old = c.self.invariant in
    let inside = c.self.inside in
    let more = c.in-Ok.ensures in
    let more_numbers = c.in-Ok-extend_from_slice.ensures in
    let lits_rise = rw inside.lits.ok.0 at old.lits_rise in
    let numbers_rise = rw inside.numbers.ok.0 at old.numbers_rise in
    let lit_end : c.len.result ≡ length inside.lits.items + length c.args.lits.now = omega arith in
    let number_end : c.len-2.result ≡ length inside.numbers.items + length c.args.numbers.now =
    omega arith in
    let lits = parts_push 0 inside.lits.items c.args.lits.now inside.lit_ends.items _ lits_rise
    lit_end in
    let numbers =
    parts_push 0 inside.numbers.items c.args.numbers.now inside.number_ends.items _ numbers_rise
    number_end in
    rw (
      ← c.self.view_is,
      c.push_reserved.ensures.items,
      c.push_reserved-2.ensures.items,
      c.push_reserved-3.ensures.items,
      more.items,
      more_numbers.items,
      lits,
      numbers,
    )
    (steps_push inside.heads.items _ _ _ c.args.lits.now c.args.numbers.now
    (lit_parts-many inside.heads inside.lits inside.lit_ends inside.numbers inside.number_ends
    inside.step_room inside.number_room old)
    (number_parts-many inside.heads inside.lits inside.lit_ends inside.numbers inside.number_ends
    inside.step_room inside.number_room old))
