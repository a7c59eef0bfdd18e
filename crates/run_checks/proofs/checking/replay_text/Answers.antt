use Rattle.std.proofs.Common.{ℕ, List, [], ◌∷◌, ◌++◌, ap, sym, ◌∙◌, append_assoc, append-nil}
use Rattle.fpga_text.specs.FirstFault.{first_fault}
use Rattle.sat_clause.specs.Step.{Step}
use Rattle.sat_check.specs.Verdict.{step_of}
use Rattle.sat_rat.specs.FullJudge.{full_judge}
use Rattle.sat_text.specs.LratText.{full_lrat_faults}
use Rattle.run_checks.proofs.checking.replay_text.Goals as goal

pub loop-more-init : goal.loop-more-init
loop-more-init c = record {
  past = ap (λ (n : ℕ). first_fault (full_lrat_faults n c.args.text.now)) (sym c.len.ensures)
      ∙ ap first_fault (sym c.full-lines.ensures.faults);
  taken = ([], c.in-Ok.ensures, c.full-lines.ensures.steps);
}

pub loop-more-preserved : goal.loop-more-preserved
loop-more-preserved c =
    let before = c.loop-more.invariant in
    let reads = c.in-Ok-read_next.ensures.some c.if-not-more.false in
    let steps = before.taken.0 in
    let left = c.read_next.new.self.steps in
    record {
      past = before.past ∙ reads.faults;
      taken = (
        steps ++ step_of c.step.result ∷ [],
        c.in-Ok-take.ensures.ok c.args.formula.now.cnf steps before.taken.1,
        append_assoc steps (step_of c.step.result ∷ []) left
            ∙ (ap (λ (s : Step). steps ++ s ∷ left) c.step.ensures.value
            ∙ (ap (λ (more : List Step). steps ++ more) (sym reads.steps) ∙ before.taken.2)),
      );
    }

pub returns-then-not-more : goal.returns-then-not-more
returns-then-not-more c =
    let before = c.loop-more.invariant in
    let out = c.in-Ok-read_next.ensures.none c.if-not-more.true in
    let steps = before.taken.0 in
    let formula = c.args.formula.now.cnf in
    let whole = sym (append-nil steps)
    ∙ (ap (λ (more : List Step). steps ++ more) (sym out.none) ∙ before.taken.2) in (
      before.past ∙ out.faultless,
      c.verdict.ensures.judged formula steps before.taken.1 ∙ ap (full_judge formula) whole,
    )
