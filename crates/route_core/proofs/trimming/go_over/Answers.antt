use Rattle.std.proofs.Common.{◌≡◌, ◌-◌, ◌<◌, ◌∙◌, ℕ, suc, List, Bool, ap, subst, arith}
use Rattle.sat_clause.specs.Formula.{Cnf}
use Rattle.sat_clause.specs.Step.{Step}
use Rattle.route_core.specs.Keeping.{needed_behind}
use Rattle.route_core.proofs.KeepLemmas.{IsGone, gone-kept, gone-last, gone-left, good-last, good-marked}
use Rattle.route_core.proofs.trimming.go_over.Goals as goal

-- what was gone over behind the place before
gone : (formula : Cnf) (log : List Step) (at : ℕ) (back : List Step) (marks : List Bool) → 0 < at
    → IsGone formula log at back marks → IsGone formula log (suc (at - 1)) back marks
gone formula log at back marks some h =
    subst (λ (n : ℕ). IsGone formula log n back marks)
    (let e : at ≡ suc (at - 1) = omega (arith, some) in e) h

pub keep_step-requires-clause-good : goal.keep_step-requires-clause-good
keep_step-requires-clause-good c =
    good-last c.args.sources.now.formula c.args.sources.now.log _ c.requires.rise c.args.last
    c.requires.last c.requires.accepted

pub loop-at-init : goal.loop-at-init
loop-at-init c = record {
  ready = c.in_ok-keep_step.ensures.ready;
  gone = gone-last c.args.sources.now.formula c.args.sources.now.log _ c.requires.rise c.args.last
      c.requires.last c.requires.accepted c.keep_step.new.back.steps c.args.marks.now
      c.keep_step.new.marks c.requires.clear c.requires.many
      (rw c.requires.empty at c.in_ok-keep_step.ensures.keeps);
}

pub loop-at-preserved-then-not-marks-at : goal.loop-at-preserved-then-not-marks-at
loop-at-preserved-then-not-marks-at c = record {
  ready = c.loop-at.invariant.ready;
  gone = gone-left c.args.sources.now.formula c.args.sources.now.log _ c.requires.rise c.args.last
      c.requires.last c.requires.accepted (c.loop-at.at - 1) (omega arith) c.loop-at.back.steps
      c.loop-at.marks
      (gone c.args.sources.now.formula c.args.sources.now.log c.loop-at.at c.loop-at.back.steps
      c.loop-at.marks c.loop-at-test.true c.loop-at.invariant.gone)
      c.if-not-marks-at.true;
}

pub keep_step-requires-in-loop-at-clause-good : goal.keep_step-requires-in-loop-at-clause-good
keep_step-requires-in-loop-at-clause-good c =
    good-marked c.args.sources.now.formula c.args.sources.now.log _ c.requires.rise c.args.last
    c.requires.last c.requires.accepted (c.loop-at.at - 1) (omega arith) c.loop-at.back.steps
    c.loop-at.marks
    (gone c.args.sources.now.formula c.args.sources.now.log c.loop-at.at c.loop-at.back.steps
    c.loop-at.marks c.loop-at-test.true c.loop-at.invariant.gone)
    c.if-not-marks-at.false

pub loop-at-preserved : goal.loop-at-preserved
loop-at-preserved c = record {
  ready = c.in_ok-keep_step-2.ensures.ready;
  gone = gone-kept c.args.sources.now.formula c.args.sources.now.log _ c.requires.rise c.args.last
      c.requires.last c.requires.accepted (c.loop-at.at - 1) (omega arith) c.loop-at.back.steps
      c.loop-at.marks
      (gone c.args.sources.now.formula c.args.sources.now.log c.loop-at.at c.loop-at.back.steps
      c.loop-at.marks c.loop-at-test.true c.loop-at.invariant.gone)
      c.if-not-marks-at.false c.keep_step-in-loop-at.new.back.steps
      c.keep_step-in-loop-at.new.marks c.in_ok-keep_step-2.ensures.keeps;
}

pub returns : goal.returns
returns c =
    let end : c.loop-at.at ≡ 0 = omega (arith, c.loop-at-test.false) in
    c.loop-at.invariant.gone.steps
    ∙ ap (needed_behind c.args.sources.now.formula c.args.sources.now.log) end
