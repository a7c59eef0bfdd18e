use Rattle.std.proofs.Common.{◌++◌, ◌∷◌, [], ℤ, slice_get, ap, subst}
use Rattle.std.specs.Prelude.{map}
use Rattle.std.proofs.lemmas.List.{map-append}
use Rattle.sat_clause.specs.declared.literal.Lit.{Lit}
use Rattle.sat_clause.specs.Literal.{IsWithin, lit}
use Rattle.sat_text.specs.FrontNumbers.{TakesFront}
use Rattle.sat_text.proofs.FrontLemmas.{all_more, front_more, literal_within, same_literal, same_number, zero_number}
use Rattle.sat_text.proofs.front_numbers.front_literals.Goals as goal
use Rattle.sat_text.proofs.front_numbers.front_literals.Goals.{In-Some}

-- one more number was taken
more : (c : In-Some) → TakesFront c.args.line.now.words c.next_number.new.self.words
    (map (λ (l : Lit). l.code) c.loop-number.lits.items ++ c.in-Some.number ∷ [])
more c = front_more c.args.line.now.words c.loop-number.line.words c.next_number.new.self.words
    (map (λ (l : Lit). l.code) c.loop-number.lits.items) c.in-Some.number
    c.loop-number.invariant.taken c.in-Some.ensures.number
    (ap (λ l. l.words) c.in-Some.ensures.after)

-- it is the 0
pub returns-then-number-eq0-clause-taken : goal.returns-then-number-eq0-clause-taken
returns-then-number-eq0-clause-taken c _ =
    subst (λ (n : ℤ). TakesFront c.args.line.now.words c.next_number.new.self.words
    (map (λ (l : Lit). l.code) c.loop-number.lits.items ++ n ∷ []))
    (zero_number (slice_get c.loop-number.line.words 0) c.in-Some.number c.in-Some.ensures.number
    c.if-number-eq0.true) (more (goal.at.returns-then-number-eq0-clause-taken c).In-Some)

-- it is a literal's
pub loop-number-preserved : goal.loop-number-preserved
loop-number-preserved c =
    let same = same_number (slice_get c.loop-number.line.words 0) c.in-Some.number
    c.in-Some.ensures.number in
    let few = rw (c.unsigned_abs.ensures.value, same) at c.if-unsigned_abs-gt-MOST_VARIABLE.false in
    let code = same_literal c.in-Some.number few in
    record {
      taken = rw (
        c.in-Ok.ensures.items,
        same,
        code,
        map-append (λ (l : Lit). l.code) c.loop-number.lits.items (lit c.in-Some.number ∷ []),
      )
          (more (goal.at.loop-number-preserved c).In-Some);
      within = rw (c.in-Ok.ensures.items, same, code)
          (all_more (IsWithin 100000000) c.loop-number.lits.items
          (lit c.in-Some.number) c.loop-number.invariant.within
          (literal_within c.in-Some.number c.if-number-eq0.false few));
    }
