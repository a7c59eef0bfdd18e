use Rattle.std.proofs.Common.{◌≡◌, ◌++◌}
use Rattle.fpga_text.specs.Words.{words, words_later}
use Rattle.fpga_text.proofs.JoinedLemmas.{next-none, next-same, part-cut}
use Rattle.fpga_text.proofs.joined.next_part.Goals as goal
use Rattle.fpga_text.proofs.joined.next_part.Goals.{After-text_later-later}

-- what the next part and the line behind it say
same : (c : After-text_later-later)
    → words c.from_first_word-words.result.now ++ words_later c.text_later-later.result.now
    ≡ words_later c.args.text.now
same c =
    next-same c.args.text.now c.loop-later.later.now c.part_at.result.0.now c.part_at.result.1.now
    c.part_of-part.result.said.now c.from_first_word-words.result.now c.text_later-later.result.now
    c.part_of-part.result.goes_on c.loop-later.invariant
    (part-cut c.loop-later.later.now c.part_at.result.0.now c.part_at.result.1.now
    c.first_byte.result
    c.loop-later-test.ensures c.first_byte.ensures.place c.part_at.ensures.before
    c.part_at.ensures.after)
    c.part_of-part.ensures.said c.part_of-part.ensures.goes_on c.from_first_word-words.ensures.words
    c.text_later-later.ensures

pub returns-then-not-is_empty-clause-same : goal.returns-then-not-is_empty-clause-same
returns-then-not-is_empty-clause-same c =
    same (goal.at.returns-then-not-is_empty-clause-same c).After-text_later-later

pub loop-later-preserved : goal.loop-later-preserved
loop-later-preserved c =
    next-none c.args.text.now c.from_first_word-words.result.now c.text_later-later.result.now
    (same (goal.at.loop-later-preserved c).After-text_later-later)
    c.if-not-is_empty.ensures
