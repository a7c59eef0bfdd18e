use Rattle.std.proofs.Common.{suc, add-one, subst, arith}
use Rattle.std.proofs.lemmas.Result.{on_ok_weaker}
use Rattle.sat_clause.specs.Literal.{Clause}
use Rattle.sat_core.specs.Inputs.{pairs_and_below}
use Rattle.sat_core.specs.Kept.{IsDistinct}
use Rattle.sat_core.proofs.InputLaws.{may_keep, other_not_yet, other_now, others_next, others_pass, simple_of, taken_more, taken_skip}
use Rattle.sat_core.proofs.SameLaws.{same_itself}
use Rattle.sat_core.proofs.inputs.keep_distinct.Goals as goal

pub returns-then-are_two-clause-taken : goal.returns-then-are_two-clause-taken
returns-then-are_two-clause-taken c =
    others_pass c.args.formula.now.cnf c.args.i c.clause-lits.result.now c.clause-lits.ensures.value
    (c.are_two.ensures.always c.if-are_two.true) c.args.singles.now c.args.watches.now
    c.requires.taken

pub keep-requires : goal.keep-requires
keep-requires c =
    let n = c.args.i in
    let lits = c.clause-lits.result.now in
    let is = c.are_two.ensures.no_pair c.if-are_two.false in
    rw add-one (may_keep (pairs_and_below (suc n)) n c.clause-lits.ensures.value
    (other_not_yet n lits is) (others_next n) (other_now n lits is) c.requires.taken
    (omega (arith, c.requires.within, c.requires.few)) (simple_of lits lits c.requires.taken
    c.clause-lits.ensures.within (same_itself lits) (c.is_rising.ensures c.if-is_rising.true)))

pub returns-then-is_rising-clause-taken : goal.returns-then-is_rising-clause-taken
returns-then-is_rising-clause-taken c =
    let n = c.args.i in
    let lits = c.clause-lits.result.now in
    let is = c.are_two.ensures.no_pair c.if-are_two.false in
    let simple = simple_of lits lits c.requires.taken c.clause-lits.ensures.within
    (same_itself lits) (c.is_rising.ensures c.if-is_rising.true) in
    on_ok_weaker c.keep.result (λ keeps.
    taken_more (pairs_and_below (suc n)) n c.clause-lits.ensures.value (other_not_yet n lits is)
    (others_next n) (other_now n lits is) c.requires.taken
    (omega (arith, c.requires.within, c.requires.few)) (same_itself lits) simple
    (rw add-one at keeps)) c.keep.ensures

pub returns-then-not-branch-clause-taken : goal.returns-then-not-branch-clause-taken
returns-then-not-branch-clause-taken c =
    let n = c.args.i in
    let lits = c.clause-lits.result.now in
    let is = c.are_two.ensures.no_pair c.if-are_two.false in
    let answer = subst (IsDistinct lits c.take_distinct.new.distinct.items) c.if-not-branch.true
    c.in_ok-take_distinct.ensures in
    taken_skip (pairs_and_below (suc n)) n c.clause-lits.ensures.value (other_not_yet n lits is)
    (others_next n) (other_now n lits is) c.requires.taken answer

pub keep-requires-2 : goal.keep-requires-2
keep-requires-2 c =
    let n = c.args.i in
    let lits = c.clause-lits.result.now in
    let kept : Clause = c.take_distinct.new.distinct.items in
    let is = c.are_two.ensures.no_pair c.if-are_two.false in
    let answer = subst (IsDistinct lits kept) c.if-not-branch.false
    c.in_ok-take_distinct.ensures in
    rw (add-one, c.deref.ensures.value)
    (may_keep (pairs_and_below (suc n)) n c.clause-lits.ensures.value (other_not_yet n lits is)
    (others_next n) (other_now n lits is) c.requires.taken
    (omega (arith, c.requires.within, c.requires.few))
    (simple_of kept lits c.requires.taken c.clause-lits.ensures.within answer.0 answer.1))

pub returns-clause-taken : goal.returns-clause-taken
returns-clause-taken c =
    let n = c.args.i in
    let lits = c.clause-lits.result.now in
    let kept : Clause = c.take_distinct.new.distinct.items in
    let is = c.are_two.ensures.no_pair c.if-are_two.false in
    let answer = subst (IsDistinct lits kept) c.if-not-branch.false
    c.in_ok-take_distinct.ensures in
    let simple = simple_of kept lits c.requires.taken c.clause-lits.ensures.within answer.0
    answer.1 in
    on_ok_weaker c.keep-2.result (λ keeps.
    taken_more (pairs_and_below (suc n)) n c.clause-lits.ensures.value (other_not_yet n lits is)
    (others_next n) (other_now n lits is) c.requires.taken
    (omega (arith, c.requires.within, c.requires.few)) answer.0 simple
    (rw (add-one, c.deref.ensures.value) at keeps)) c.keep-2.ensures
