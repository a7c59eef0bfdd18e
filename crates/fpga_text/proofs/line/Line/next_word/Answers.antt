use Rattle.std.proofs.Common.{◌≡◌, ◌∷◌, refl}
use Rattle.fpga_text.specs.Words.{words}
use Rattle.fpga_text.proofs.CutLemmas.{words-part}
use Rattle.fpga_text.proofs.line.Line.next_word.Goals as goal
use Rattle.fpga_text.proofs.line.Line.next_word.Goals.{After-part_at}

-- the first word was cut off
cut : (c : After-part_at) → words c.front_part-front.result.words.now ≡ c.part_at.result.0.now
    ∷ words c.part_at.result.1.now
cut c =
    words-part c.front_part-front.result.words.now c.part_at.result.0.now c.part_at.result.1.now
    c.first_blank.result c.if-is_empty.ensures c.front_part-front.ensures.begins
    c.first_blank.ensures.place c.part_at.ensures.before c.part_at.ensures.after

pub returns-clause-word : goal.returns-clause-word
returns-clause-word c =
    rw (
      ← c.self.view_is,
      ← c.front_part-front.ensures.same,
      cut
          (goal.at.returns-clause-word c).After-part_at,
    ) refl

pub returns-clause-after : goal.returns-clause-after
returns-clause-after c =
    rw (
      ← c.self.view_is,
      ← c.front_part-front.ensures.same,
      cut
          (goal.at.returns-clause-after c).After-part_at,
      c.from_first_word-self-inside.ensures.words,
    ) refl
