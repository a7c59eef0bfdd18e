use Rattle.std.proofs.Common.{◌∙◌, arith, refl}
use Rattle.fpga_bounds.proofs.PairLemmas.{slots-distinct}
use Rattle.fpga_bounds.proofs.placed_problem.lists_of.Goals as goal

pub pair_count-requires-clause-distinct : goal.pair_count-requires-clause-distinct
pair_count-requires-clause-distinct c =
    rw (c.as_slice-3.ensures.value, c.requires.slots) (slots-distinct c.args.route.now)

pub returns : goal.returns
returns c = record {
  slots_are = c.requires.slots;
  steps_are = c.in_ok-steps.ensures ∙ rw (c.as_slice.ensures, c.requires.slots) refl;
  pins_are = c.in_ok-pin_steps.ensures ∙ rw (c.as_slice-2.ensures, c.requires.slots) refl;
  pairs_are = c.in_ok-pairs.ensures.count
      ∙ rw (c.as_slice-3.ensures.value, c.requires.slots) refl;
  few_steps = omega (arith, c.len.ensures, c.if-len-gt-STEP_LIMIT.false);
  few_pins = omega (arith, c.len-else-len-gt-STEP_LIMIT.ensures, c.if-len-gt-STEP_LIMIT-2.false);
  few_pairs = c.in_ok-pairs.ensures.limit;
}
