use Rattle.rows.proofs.problems.fits.answer.counts.Goals as goal

pub returns : goal.returns
returns c =
    rw (
      c.slots-slots.ensures.value,
      c.steps-steps.ensures.value,
      c.pin_steps-pins.ensures.value,
      c.pairs.ensures.value,
    ) at c.told_counts.ensures
