use Rattle.std.proofs.Common.{ap}
use Rattle.std.specs.Prelude.{slice_get}
use Rattle.sat_text.proofs.FrontLemmas.{same_number}
use Rattle.model_text.proofs.DraftLemmas.{values-more, values-none}
use Rattle.model_text.proofs.draft.Draft.take_front.Goals as goal

pub loop-number-init : goal.loop-number-init
loop-number-init c = values-none c.args.self.now c.args.line.now.words

pub loop-number-preserved : goal.loop-number-preserved
loop-number-preserved c =
    let same = same_number (slice_get c.loop-number.line.words 0) c.in-Some.number
    c.in-Some.ensures.number in
    values-more c.args.self.now c.loop-number.self c.take.new.self c.args.line.now.words
    c.loop-number.line.words c.next_number.new.self.words c.in-Some.number
    c.loop-number.invariant c.in-Some.ensures.number (ap (λ l. l.words) c.in-Some.ensures.after)
    c.take.ensures.vars (rw same at c.take.ensures.taken)
