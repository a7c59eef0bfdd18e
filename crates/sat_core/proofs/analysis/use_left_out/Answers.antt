use Rattle.std.proofs.Common.{inl, inr, subst, sym, add-one, ℕ, arith}
use Rattle.sat_core.specs.Analysis.{AreUsed}
use Rattle.sat_core.specs.Implied.{IsLeftOut}
use Rattle.sat_core.proofs.MarksLaws.{front_all}
use Rattle.sat_core.proofs.UseLaws.{goes_further}
use Rattle.sat_core.proofs.analysis.use_left_out.Goals as goal

pub loop-i-preserved : goal.loop-i-preserved
loop-i-preserved c =
    let i = c.loop-i.invariant in
    let e = c.use_at.ensures in
    let w = c.args.watches.now in
    record {
      walked = e.walked;
      goes_on = goes_further i.goes_on e.goes_on;
      point = λ point some is. e.point point some (i.point point some is);
      used = subst (λ (n : ℕ). AreUsed (IsLeftOut w.trail c.args.implied.now.marks.used) n
          c.use_at.new.marks) (sym (add-one c.loop-i.i)) (e.used i.used);
      no_more = λ p is. elim (e.no_more p is) [
        | inl before ↦ i.no_more p before
        | inr out ↦ inr out
      ];
    }

pub returns-clause-used : goal.returns-clause-used
returns-clause-used c p is out =
    c.loop-i.invariant.used p
    (front_all c.loop-i.marks.places c.loop-i.i p
    (omega (arith, c.loop-i-test.false, c.len.ensures.value))
    (c.len.ensures.marks.listed p is)) out

pub returns-clause-no_more : goal.returns-clause-no_more
returns-clause-no_more c p is = elim (c.loop-i.invariant.no_more p is) [
  | inl before ↦ inl before
  | inr out ↦ inr (c.loop-i.invariant.used p
      (front_all c.loop-i.marks.places c.loop-i.i p
      (omega (arith, c.loop-i-test.false, c.len.ensures.value))
      (c.len.ensures.marks.listed p is)) out)
]
