use Rattle.fpga_place.proofs.SoundLemmas.{lawful_answer}
use Rattle.fpga_place.proofs.draft.Draft.places.Goals as goal

pub returns-clause-answers : goal.returns-clause-answers
returns-clause-answers c =
    rw (← c.self.view_is) (rw c.deref.ensures.value at c.all_places.ensures)

pub returns-clause-sound : goal.returns-clause-sound
returns-clause-sound c = rw (← c.self.view_is)
    (lawful_answer c.self.inside.io_rat c.self.inside.grid c.self.inside.blocks
    c.self.inside.places.items c.self.inside.taken c.self.invariant c.args.end c.all_places.result
    (rw c.deref.ensures.value at c.all_places.ensures))
