use Rattle.std.proofs.Common.{sym, ◌∙◌}
use Rattle.fpga_text.proofs.JoinedLemmas.{IsPart, part-cut, passed_last, passed_more}
use Rattle.fpga_text.proofs.joined.behind_parts.Goals as goal
use Rattle.fpga_text.proofs.joined.behind_parts.Goals.{After-part_at}

-- the first part of what is left was cut off
cut : (c : After-part_at) → IsPart c.loop-rest.rest.now c.part_at.result.0.now
    c.part_at.result.1.now
cut c = part-cut c.loop-rest.rest.now c.part_at.result.0.now c.part_at.result.1.now
    c.first_byte.result
    c.loop-rest-test.ensures c.first_byte.ensures.place c.part_at.ensures.before
    c.part_at.ensures.after

pub returns-then-not-part_of : goal.returns-then-not-part_of
returns-then-not-part_of c =
    passed_last c.args.text.now c.loop-rest.rest.now c.part_at.result.0.now c.part_at.result.1.now
    c.loop-rest.taken c.loop-rest.invariant
    (cut (goal.at.returns-then-not-part_of c).After-part_at)
    (sym c.part_of.ensures.goes_on ∙ c.if-not-part_of.true)

pub loop-rest-preserved : goal.loop-rest-preserved
loop-rest-preserved c =
    passed_more c.args.text.now c.loop-rest.rest.now c.part_at.result.0.now c.part_at.result.1.now
    c.loop-rest.taken c.loop-rest.invariant
    (cut (goal.at.loop-rest-preserved c).After-part_at)
    (sym c.part_of.ensures.goes_on ∙ c.if-not-part_of.false)
