use Rattle.std.proofs.Common.{ap}
use Rattle.std.specs.Prelude.{slice_get}
use Rattle.sat_text.proofs.DraftLemmas.{line_more}
use Rattle.sat_text.proofs.FrontLemmas.{same_number}
use Rattle.sat_text.proofs.draft.Draft.take_front.Goals as goal

pub loop-number-preserved : goal.loop-number-preserved
loop-number-preserved c =
    let same = same_number (slice_get c.loop-number.line.words 0) c.in-Some.number
    c.in-Some.ensures.number in
    line_more c.args.self.now c.loop-number.self c.take_number.new.self c.args.line.now.words
    c.loop-number.line.words c.next_number.new.self.words
    c.loop-number.strange c.in-Ok.found c.in-Some.number c.loop-number.invariant
    c.in-Some.ensures.number (ap (λ l. l.words) c.in-Some.ensures.after)
    (rw same at c.in-Ok.ensures.found) c.in-Ok.ensures.head (rw same at c.in-Ok.ensures.taken)
