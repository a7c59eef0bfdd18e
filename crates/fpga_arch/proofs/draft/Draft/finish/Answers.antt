use Rattle.fpga_arch.proofs.DraftLemmas.{first-stands}
use Rattle.fpga_arch.proofs.draft.Draft.finish.Goals as goal

-- the keyword of the pads had a line, so their number is one that was read
pub returns-clause-sound : goal.returns-clause-sound
returns-clause-sound c = λ all. rw c.of.ensures (record {
  io_rat_above = c.self.invariant.io_rat_above (first-stands c.self.inside.flags
      (rw (← c.self.view_is) at all));
  io_rat_below = c.self.invariant.io_rat_below;
  pin_count = c.self.invariant.pin_count;
  pins = c.self.invariant.sound;
  classes = c.self.invariant.classes;
})
