use Rattle.std.proofs.Common.{◌≡◌, ◌∙◌, ◌-◌, pos, get_or, length, slice_get, None, Some, Contains, sym, ap, add-one, arith, subst}
use Rattle.std.proofs.lemmas.Option.{get_or_from_slice_get, slice_get-get_or, slice_get_within}
use Rattle.sat_clause.specs.declared.literal.Lit.{Lit}
use Rattle.sat_clause.specs.Literal.{lit, variable}
use Rattle.sat_core.proofs.DistinctLaws.{other_lit, same_lit, seen_all, seen_opposite, seen_push, seen_skip}
use Rattle.sat_core.proofs.distinct.take_sorted.Goals as goal
use Rattle.sat_core.proofs.distinct.take_sorted.Goals.{In-Some}

-- the last literal that was kept
module _ (c : In-Some) where
  last : Some c.in-Some.last.now
      ≡ slice_get c.loop-l.distinct.items (length c.loop-l.distinct.items - 1)
  last = rw c.deref.ensures.value at c.in-Some.ensures.value

  has_last : Contains c.loop-l.distinct.items c.in-Some.last.now
  has_last =
      let kept = c.loop-l.distinct.items in
      let m : Lit = c.in-Some.last.now in (
        length kept - 1,
        slice_get_within kept (length kept - 1) m (sym last),
        get_or_from_slice_get kept (length kept - 1) m m (sym last),
      )

pub loop-l-preserved-in_default : goal.loop-l-preserved-in_default
loop-l-preserved-in_default c =
    let kept = c.loop-l.distinct.items in
    let none : None ≡ slice_get kept (length kept - 1) = rw c.deref.ensures.value at
    c.in_default.ensures.value in
    rw add-one
    (seen_push c.loop-l.invariant
    (slice_get-get_or c.args.sorted.now c.loop-l.l-index _ c.loop-l-test.true)
    c.push.new.self.items c.in_ok-push.ensures.items
    (λ m at. let bad : None ≡ Some m = none ∙ at in cc))

pub loop-l-preserved-then-variable : goal.loop-l-preserved-then-variable
loop-l-preserved-then-variable c =
    let is = last (goal.at.loop-l-preserved-then-variable c).In-Some in
    rw add-one
    (seen_push c.loop-l.invariant
    (slice_get-get_or c.args.sorted.now c.loop-l.l-index _ c.loop-l-test.true)
    c.push-then-variable.new.self.items c.in_ok-push-2.ensures.items
    (λ m at.
    let both : Some c.in-Some.last.now ≡ Some m = is ∙ at in
    let one : c.in-Some.last.now ≡ m = cc in
    omega (
      arith,
      c.if-variable.true,
      c.variable.ensures,
      c.variable-in-loop-l.ensures,
      ap variable
          one,
    )))

pub loop-l-preserved : goal.loop-l-preserved
loop-l-preserved c =
    let kept = c.loop-l.distinct.items in
    let l : Lit = get_or c.args.sorted.now c.loop-l.l-index (lit (pos 0)) in
    rw add-one
    (seen_skip c.loop-l.invariant
    (slice_get-get_or c.args.sorted.now c.loop-l.l-index (lit (pos 0)) c.loop-l-test.true)
    (subst (Contains kept) (same_lit c.in-Some.last.now l c.if-ne.ensures)
    (has_last (goal.at.loop-l-preserved c).In-Some)))

pub returns-then-ne : goal.returns-then-ne
returns-then-ne c =
    let m : Lit = c.in-Some.last.now in
    let l : Lit = get_or c.args.sorted.now c.loop-l.l-index (lit (pos 0)) in
    seen_opposite c.loop-l.invariant
    (slice_get-get_or c.args.sorted.now c.loop-l.l-index (lit (pos 0)) c.loop-l-test.true)
    m c.requires (has_last (goal.at.returns-then-ne c).In-Some) (omega (
      arith,
      c.if-variable.false,
      c.variable.ensures,
      c.variable-in-loop-l.ensures,
    )) (other_lit m l c.if-ne.ensures)

pub returns : goal.returns
returns c = seen_all c.args.sorted.now c.loop-l.distinct.items c.loop-l.l-index c.loop-l.invariant
    c.loop-l-test.false
