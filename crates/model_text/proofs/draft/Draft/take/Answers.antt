use Rattle.std.proofs.Common.{◌≤◌, ◌∙◌, ap, arith, nat_abs, of_z, sym, to_z, w64}
use Rattle.std.proofs.lemmas.Int.{to_z-of_z}
use Rattle.sat_text.proofs.FrontLemmas.{same_literal}
use Rattle.model_text.specs.Assignments.{gives, vars_in}
use Rattle.model_text.proofs.DraftLemmas.{no_zero, take-behind, take-literal, take-strange, take-zero}
use Rattle.model_text.proofs.draft.Draft.take.Goals as goal

pub returns-then-self-clause-taken : goal.returns-then-self-clause-taken
returns-then-self-clause-taken c = λ before is.
    take-behind c.args.self.now before c.args.number is c.if-self.true

pub returns-then-number-eq0-clause-taken : goal.returns-then-number-eq0-clause-taken
returns-then-number-eq0-clause-taken c = λ before is.
    take-zero c.args.self.now before c.args.number is c.if-self.false
    (sym (to_z-of_z w64 c.args.number c.ranges.number) ∙ ap (to_z w64) c.if-number-eq0.true)

pub returns-then-unsigned_abs-from-clause-taken : goal.returns-then-unsigned_abs-from-clause-taken
returns-then-unsigned_abs-from-clause-taken c = λ before is.
    let same = to_z-of_z w64 c.args.number c.ranges.number in
    let size = rw same at c.unsigned_abs.ensures.value in
    take-strange c.args.self.now before c.args.number is c.if-self.false
    (no_zero c.args.number (λ e. c.if-number-eq0.false (ap (of_z w64) e)))
    (omega (
      arith,
      c.if-unsigned_abs-from.true,
      size,
      c.from.ensures,
      c.vars.ensures.vars,
    ))

pub returns-clause-taken : goal.returns-clause-taken
returns-clause-taken c = λ before is.
    let same = to_z-of_z w64 c.args.number c.ranges.number in
    let size = rw same at c.unsigned_abs.ensures.value in
    let inside : nat_abs c.args.number ≤ vars_in c.args.self.now.assignment = omega (
      arith,
      c.if-unsigned_abs-from.false,
      size,
      c.from.ensures,
      c.vars.ensures.vars,
    ) in
    let few : nat_abs c.args.number ≤ 100000000 = omega (
      arith,
      inside,
      c.vars.ensures.few,
      c.vars.ensures.vars,
    ) in
    let there = c.gives.ensures ∙ ap (gives c.args.self.now.assignment) c.negation.ensures.value in
    take-literal c.args.self.now before c.args.number is c.if-self.false
    (no_zero c.args.number (λ e. c.if-number-eq0.false (ap (of_z w64) e)))
    c.add.new.self c.gives.result inside c.add.ensures.vars
    (rw (same, same_literal c.args.number few) at c.add.ensures.gives)
    (rw (same, same_literal c.args.number few) at there)
