use Rattle.std.proofs.Common.{◌++◌, ◌∷◌, [], ℤ, slice_get, ap, subst}
use Rattle.sat_text.specs.FrontNumbers.{TakesFront}
use Rattle.sat_text.specs.ReadBack.{IsIdNumber}
use Rattle.sat_text.proofs.FrontLemmas.{all_more, front_more, hint_id, same_number, zero_number}
use Rattle.sat_text.proofs.front_numbers.front_hints.Goals as goal
use Rattle.sat_text.proofs.front_numbers.front_hints.Goals.{In-Some}

-- one more number was taken
more : (c : In-Some) → TakesFront c.args.line.now.words c.next_number.new.self.words
    (c.loop-number.hints.items ++ c.in-Some.number ∷ [])
more c = front_more c.args.line.now.words c.loop-number.line.words c.next_number.new.self.words
    c.loop-number.hints.items c.in-Some.number
    c.loop-number.invariant.taken c.in-Some.ensures.number
    (ap (λ l. l.words) c.in-Some.ensures.after)

-- it is the 0
pub returns-then-number-eq0-clause-taken : goal.returns-then-number-eq0-clause-taken
returns-then-number-eq0-clause-taken c _ =
    subst (λ (n : ℤ). TakesFront c.args.line.now.words c.next_number.new.self.words
    (c.loop-number.hints.items ++ n ∷ []))
    (zero_number (slice_get c.loop-number.line.words 0) c.in-Some.number c.in-Some.ensures.number
    c.if-number-eq0.true) (more (goal.at.returns-then-number-eq0-clause-taken c).In-Some)

-- it is a hint
pub loop-number-preserved : goal.loop-number-preserved
loop-number-preserved c =
    let same = same_number (slice_get c.loop-number.line.words 0) c.in-Some.number
    c.in-Some.ensures.number in
    let id = hint_id c.in-Some.number c.if-number-eq0.false (rw same at c.if-number-lt0.false)
    (rw same at c.if-number-gt-MOST_ID.false) in
    record {
      taken = rw (c.in-Ok.ensures.items, same) (more (goal.at.loop-number-preserved c).In-Some);
      ids = rw (c.in-Ok.ensures.items, same)
          (all_more IsIdNumber c.loop-number.hints.items c.in-Some.number
          c.loop-number.invariant.ids id);
    }
