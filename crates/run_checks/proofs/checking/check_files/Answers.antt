use Rattle.std.proofs.Common.{◌∙◌, Option, length, ap, subst, sym}
use Rattle.fpga_problem.specs.Sources.{Reads, Stops}
use Rattle.fpga_problem.proofs.SourceLemmas.{stop-before}
use Rattle.sat_check.specs.Verdict.{judgement_of}
use Rattle.run_checks.specs.Check.{SaysOf, judgement_outcome, lrat_source}
use Rattle.run_outcome.specs.Subject.{FileMap}
use Rattle.run_outcome.specs.declared.outcome.Outcome.TheVariants.{NotAccepted}
use Rattle.run_outcome.specs.declared.text_file.TextFile.TheVariants.{Cnf, Lrat}
use Rattle.run_outcome.proofs.StopLaws.{desk-fault}
use Rattle.run_checks.proofs.checking.check_files.Goals as goal

pub returns-in-Err-clause-checks : goal.returns-in-Err-clause-checks
returns-in-Err-clause-checks g c =
    Stops (record {
      fault = c.in-Err.fault;
      because = c.in-Err.ensures.answers;
      tells = c.unread_outcome.ensures;
    })

pub returns-in-Err-clause-quiet : goal.returns-in-Err-clause-quiet
returns-in-Err-clause-quiet g c told =
    c.in-Err.ensures.quiet
    (λ fails. told
    (desk-fault Cnf c.in-Err.fault c.unread_outcome.result c.unread_outcome.ensures fails))

pub returns-in-Err-replay_file-clause-checks : goal.returns-in-Err-replay_file-clause-checks
returns-in-Err-replay_file-clause-checks g c =
    let between = g.D.Desk.state c.read_formula.new.desk in
    let now = g.D.Desk.state c.replay_file.new.desk in
    let cnf = c.in-Ok.formula.cnf in
    let fault = c.in-Err-replay_file.fault in
    Reads cnf c.in-Ok.ensures.answers (Stops (record {
      fault = fault;
      because = stop-before between now (g.D.Desk.state c.args.desk.now)
          (lrat_source c.args.job.now.lrat.now (length cnf.clauses)) fault c.in-Ok.ensures.files
          (c.in-Ok.ensures.quiet (λ e. e)) c.in-Err-replay_file.ensures.answers;
      tells = c.unread_outcome-in-Err-replay_file.ensures;
    }))

pub returns-in-Err-replay_file-clause-quiet : goal.returns-in-Err-replay_file-clause-quiet
returns-in-Err-replay_file-clause-quiet g c told =
    c.in-Err-replay_file.ensures.quiet (λ fails. told (desk-fault Lrat c.in-Err-replay_file.fault
    c.unread_outcome-in-Err-replay_file.result c.unread_outcome-in-Err-replay_file.ensures fails))
    ∙ c.in-Ok.ensures.quiet (λ e. e)

pub returns-in-Accepted-clause-checks : goal.returns-in-Accepted-clause-checks
returns-in-Accepted-clause-checks g c =
    let cnf = c.in-Ok.formula.cnf in
    let name = c.args.job.now.lrat.now in
    let verdict = c.in-Ok-replay_file.verdict in
    let found = subst (λ (f : Option FileMap). SaysOf f name cnf (judgement_of verdict))
    c.in-Ok.ensures.files c.in-Ok-replay_file.ensures.answers in
    let judged = ap judgement_of (sym c.in-Accepted.is) ∙ found.judged in
    Reads cnf c.in-Ok.ensures.answers
    (Reads found.log found.says (ap judgement_outcome judged))

pub returns-clause-checks : goal.returns-clause-checks
returns-clause-checks g c =
    let cnf = c.in-Ok.formula.cnf in
    let name = c.args.job.now.lrat.now in
    let verdict = c.in-Ok-replay_file.verdict in
    let found = subst (λ (f : Option FileMap). SaysOf f name cnf (judgement_of verdict))
    c.in-Ok.ensures.files c.in-Ok-replay_file.ensures.answers in
    let judged = ap judgement_of (sym c.in-Refused.is) ∙ found.judged in
    Reads cnf c.in-Ok.ensures.answers (Reads found.log found.says
    (ap (NotAccepted c.in-Refused.step) c.number.ensures ∙ ap judgement_outcome judged))
