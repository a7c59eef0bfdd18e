use Rattle.sat_text.proofs.AheadLemmas.{reads_next, reads_out, refuses}
use Rattle.sat_text.proofs.log_lines.LogLines.read_next.Goals as goal

pub returns-in_default-clause-none : goal.returns-in_default-clause-none
returns-in_default-clause-none c = λ _.
    rw (← c.self.view_is) (reads_out c.self.inside.lines c.next_told.new.lines c.self.inside.draft
    c.in_default.ensures.end)

pub returns-clause-some : goal.returns-clause-some
returns-clause-some c = λ _.
    rw (← c.self.view_is) (reads_next c.self.inside.lines c.next_told.new.lines c.self.inside.draft
    c.take_line.new.self c.in-Some.line c.in-Some.ensures.line c.in-Ok.ensures.0
    c.in-Ok.ensures.1)

pub returns-in-Err-clause-err : goal.returns-in-Err-clause-err
returns-in-Err-clause-err c =
    rw (← c.self.view_is) (refuses c.self.inside.lines c.next_told.new.lines c.self.inside.draft
    c.in-Some.line c.in-Err.fault c.in-Some.ensures.line c.in-Err.ensures)
