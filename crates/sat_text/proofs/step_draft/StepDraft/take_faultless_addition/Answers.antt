use Rattle.std.proofs.Common.{◌≡◌, pos, Some, slice_get, ap, refl, sym, ◌∙◌, arith, w64, to_z, of_z}
use Rattle.std.specs.Prelude.{nat_abs}
use Rattle.std.proofs.lemmas.Int.{to_z-of_z}
use Rattle.sat_text.proofs.AdditionLemmas.{AddsClause, IsAbove, addition_taken, greater, is_above}
use Rattle.sat_text.proofs.FrontLemmas.{same_number}
use Rattle.sat_text.proofs.step_draft.StepDraft.take_faultless_addition.Goals as goal
use Rattle.sat_text.proofs.step_draft.StepDraft.take_faultless_addition.Goals.{After-add}

same : (c : After-add) → to_z w64 (of_z w64 c.in-Some.id) ≡ c.in-Some.id
same c = same_number (slice_get c.args.line.now.words 0) c.in-Some.id c.in-Some.ensures.number

-- the id is above all earlier ones
above : (c : After-add) → IsAbove c.args.self.now.above c.in-Some.id
above c =
    let least = to_z-of_z w64 (pos c.args.self.now.above)
    (omega (arith, rw c.from.ensures at c.from.type_inv)) in
    is_above c.args.self.now.above c.in-Some.id
    (rw (c.from.ensures, least, same c) at c.if-id-from.false)

-- the line was taken to its end
taken : (c : After-add)
    → AddsClause c.args.self.now.rule c.args.self.now.above c.args.line.now (nat_abs c.in-Some.id)
    c.front_literals.new.lits.items c.front_hints.new.hints.items
taken c =
    let over = above c in
    let few = rw (same c) at c.if-id-gt-MOST_ID.false in
    addition_taken c.args.self.now.rule c.args.self.now.above c.args.line.now
    c.next_number.new.self.words c.front_literals.new.line.words c.front_hints.new.line.words
    (nat_abs c.in-Some.id) c.front_literals.new.lits.items c.front_hints.new.hints.items
    (ap (λ n. Some n) (sym over.plain) ∙ c.in-Some.ensures.number)
    (ap (λ l. l.words) c.in-Some.ensures.after)
    (c.if-not-front_literals.ensures.taken refl)
    (c.if-not-front_hints.ensures.taken refl) c.if-has_words.ensures (
      over.over,
      few,
      c.if-not-front_literals.ensures.within refl,
      c.if-not-front_hints.ensures.ids refl,
    )

pub returns-clause-clean : goal.returns-clause-clean
returns-clause-clean c _ = (taken (goal.at.returns-clause-clean c).After-add).clean

pub returns-clause-step : goal.returns-clause-step
returns-clause-step c _ =
    let at = (goal.at.returns-clause-step c).After-add in
    let said = (taken at).said in
    let over = above at in
    rw said (record {
      says = rw (c.add.ensures.step, same at) refl;
      above = rw (c.add.ensures.above, same at)
          (greater c.args.self.now.above (nat_abs c.in-Some.id) over.over);
      rule = c.add.ensures.rule;
    })
