use Rattle.fpga_text.proofs.JoinedLemmas.{part-cut, takes_line-first}
use Rattle.fpga_text.proofs.lines.Lines.any_line.Goals as goal

-- the first line was cut off
pub returns-clause-line : goal.returns-clause-line
returns-clause-line c = rw (← c.self.view_is)
    (takes_line-first c.self.inside.style c.self.inside.taken c.first_line-first.result.more
    c.self.inside.rest.now c.part_at.result.0.now c.part_at.result.1.now
    c.first_line-first.result.said.now
    c.first_line-first.result.later.now c.first_line-first.result.behind.now c.new.result
    (part-cut c.self.inside.rest.now c.part_at.result.0.now c.part_at.result.1.now
    c.first_byte.result
    c.if-is_empty.ensures c.first_byte.ensures.place c.part_at.ensures.before
    c.part_at.ensures.after)
    c.first_line-first.ensures c.new.ensures)
