use Rattle.std.proofs.Common.{inr, refl}
use Rattle.std.proofs.lemmas.Option.{IfSome_then}
use Rattle.router_words.specs.Word.{words_of}
use Rattle.run_outcome.proofs.PosedLaws.{lacks-none}
use Rattle.run_placed.proofs.ReasonLaws.{others-lack}
use Rattle.run_outcome.proofs.StoppedLaws.{none-early, stopped-there}
use Rattle.router_top.proofs.running.work.Goals as goal

pub returns-in-Ok-Route-clause-leaves : goal.returns-in-Ok-Route-clause-leaves
returns-in-Ok-Route-clause-leaves g c =
    let asked = rw c.in-Ok-Route.field-0-is at c.in-Ok-Route.ensures.answers in
    inr (rw asked c.work_on.ensures.leaves)

pub returns-in-Ok-Encode-clause-leaves : goal.returns-in-Ok-Encode-clause-leaves
returns-in-Ok-Encode-clause-leaves g c =
    let asked = rw c.in-Ok-Encode.field-0-is at c.in-Ok-Encode.ensures.answers in
    inr (rw asked c.work_on-in-Ok-Encode.ensures.leaves)

pub returns-in-Ok-Decode-clause-leaves : goal.returns-in-Ok-Decode-clause-leaves
returns-in-Ok-Decode-clause-leaves g c =
    let asked = rw c.in-Ok-Decode.field-0-is at c.in-Ok-Decode.ensures.answers in
    rw c.without_problem.ensures (inr (rw asked c.decode_files.ensures.leaves))

pub returns-in-Ok-Sweep-clause-leaves : goal.returns-in-Ok-Sweep-clause-leaves
returns-in-Ok-Sweep-clause-leaves g c =
    let asked = rw c.in-Ok-Sweep.field-0-is at c.in-Ok-Sweep.ensures.answers in
    inr (rw asked c.work_on-in-Ok-Sweep.ensures.leaves)

pub returns-in-Ok-Verify-clause-leaves : goal.returns-in-Ok-Verify-clause-leaves
returns-in-Ok-Verify-clause-leaves g c =
    let asked = rw c.in-Ok-Verify.field-0-is at c.in-Ok-Verify.ensures.answers in
    rw c.without_problem-in-Ok-Verify.ensures (inr (rw asked c.verify_file.ensures.verifies))

pub returns-in-Ok-Judge-clause-leaves : goal.returns-in-Ok-Judge-clause-leaves
returns-in-Ok-Judge-clause-leaves g c =
    let asked = rw c.in-Ok-Judge.field-0-is at c.in-Ok-Judge.ensures.answers in
    rw c.without_problem-in-Ok-Judge.ensures (inr (rw asked (c.judge_file.ensures.judges, refl)))

pub returns-in-Ok-Bound-clause-leaves : goal.returns-in-Ok-Bound-clause-leaves
returns-in-Ok-Bound-clause-leaves g c =
    let asked = rw c.in-Ok-Bound.field-0-is at c.in-Ok-Bound.ensures.answers in
    rw c.without_problem-in-Ok-Bound.ensures (inr (rw asked c.bound_files.ensures.bounds))

pub returns-in-Ok-Gen-clause-leaves : goal.returns-in-Ok-Gen-clause-leaves
returns-in-Ok-Gen-clause-leaves g c =
    let asked = rw c.in-Ok-Gen.field-0-is at c.in-Ok-Gen.ensures.answers in
    rw c.without_problem-in-Ok-Gen.ensures (inr (rw asked (c.generate_files.ensures, refl)))

pub returns-in-Ok-Trial-clause-leaves : goal.returns-in-Ok-Trial-clause-leaves
returns-in-Ok-Trial-clause-leaves g c =
    let asked = rw c.in-Ok-Trial.field-0-is at c.in-Ok-Trial.ensures.answers in
    rw c.without_problem-in-Ok-Trial.ensures (inr (rw asked (c.trial.ensures.leaves, refl)))

pub returns-in-Ok-Core-clause-leaves : goal.returns-in-Ok-Core-clause-leaves
returns-in-Ok-Core-clause-leaves g c =
    let asked = rw c.in-Ok-Core.field-0-is at c.in-Ok-Core.ensures.answers in
    inr (rw asked c.work_on-in-Ok-Core.ensures.leaves)

pub returns-in-Ok-Check-clause-leaves : goal.returns-in-Ok-Check-clause-leaves
returns-in-Ok-Check-clause-leaves g c =
    let asked = rw c.in-Ok-Check.field-0-is at c.in-Ok-Check.ensures.answers in
    rw c.without_problem-in-Ok-Check.ensures (inr (rw asked (c.check_files.ensures.checks, refl)))

pub returns-in-Ok-Global-clause-leaves : goal.returns-in-Ok-Global-clause-leaves
returns-in-Ok-Global-clause-leaves g c =
    let asked = rw c.in-Ok-Global.field-0-is at c.in-Ok-Global.ensures.answers in
    rw c.without_problem-in-Ok-Global.ensures (inr (rw asked c.negotiate_files.ensures.leaves))

pub returns-in-Ok-Least-clause-leaves : goal.returns-in-Ok-Least-clause-leaves
returns-in-Ok-Least-clause-leaves g c =
    let asked = rw c.in-Ok-Least.field-0-is at c.in-Ok-Least.ensures.answers in
    inr (rw asked c.narrow_files.ensures.leaves)

pub returns-in-Ok-Least-clause-posed : goal.returns-in-Ok-Least-clause-posed
returns-in-Ok-Least-clause-posed g c = rw c.narrow_files.ensures.problem tt

pub returns-in-Ok-Least-clause-reason : goal.returns-in-Ok-Least-clause-reason
returns-in-Ok-Least-clause-reason g c =
    let asked = rw c.in-Ok-Least.field-0-is at c.in-Ok-Least.ensures.answers in
    IfSome_then c.narrow_files.result.reason c.narrow_files.ensures.reason
    (λ reason is. (_, asked, is))

pub returns-in-Ok-Least-clause-unraised : goal.returns-in-Ok-Least-clause-unraised
returns-in-Ok-Least-clause-unraised g c none = λ job said. c.narrow_files.ensures.unraised none

pub returns-in-Ok-Route-clause-posed : goal.returns-in-Ok-Route-clause-posed
returns-in-Ok-Route-clause-posed g c =
    let asked = rw c.in-Ok-Route.field-0-is at c.in-Ok-Route.ensures.answers in
    IfSome_then c.work_on.result.problem c.work_on.ensures.posed
    (λ p poses. (_, _, asked, refl, poses))

pub returns-in-Ok-Encode-clause-posed : goal.returns-in-Ok-Encode-clause-posed
returns-in-Ok-Encode-clause-posed g c =
    let asked = rw c.in-Ok-Encode.field-0-is at c.in-Ok-Encode.ensures.answers in
    IfSome_then c.work_on-in-Ok-Encode.result.problem c.work_on-in-Ok-Encode.ensures.posed
    (λ p poses. (_, _, asked, refl, poses))

pub returns-in-Ok-Sweep-clause-posed : goal.returns-in-Ok-Sweep-clause-posed
returns-in-Ok-Sweep-clause-posed g c =
    let asked = rw c.in-Ok-Sweep.field-0-is at c.in-Ok-Sweep.ensures.answers in
    IfSome_then c.work_on-in-Ok-Sweep.result.problem c.work_on-in-Ok-Sweep.ensures.posed
    (λ p poses. (_, _, asked, refl, poses))

pub returns-in-Ok-Core-clause-posed : goal.returns-in-Ok-Core-clause-posed
returns-in-Ok-Core-clause-posed g c =
    let asked = rw c.in-Ok-Core.field-0-is at c.in-Ok-Core.ensures.answers in
    IfSome_then c.work_on-in-Ok-Core.result.problem c.work_on-in-Ok-Core.ensures.posed
    (λ p poses. (_, _, asked, refl, poses))

pub returns-in-Ok-Route-clause-lacks : goal.returns-in-Ok-Route-clause-lacks
returns-in-Ok-Route-clause-lacks g c none = λ job names said has. c.work_on.ensures.lacks none

pub returns-in-Ok-Encode-clause-lacks : goal.returns-in-Ok-Encode-clause-lacks
returns-in-Ok-Encode-clause-lacks g c none = λ job names said has. c.work_on-in-Ok-Encode.ensures.lacks none

pub returns-in-Ok-Sweep-clause-lacks : goal.returns-in-Ok-Sweep-clause-lacks
returns-in-Ok-Sweep-clause-lacks g c none = λ job names said has. c.work_on-in-Ok-Sweep.ensures.lacks none

pub returns-in-Ok-Core-clause-lacks : goal.returns-in-Ok-Core-clause-lacks
returns-in-Ok-Core-clause-lacks g c none = λ job names said has. c.work_on-in-Ok-Core.ensures.lacks none

pub returns-in-Ok-Decode-clause-lacks : goal.returns-in-Ok-Decode-clause-lacks
returns-in-Ok-Decode-clause-lacks g c none =
    let asked = rw c.in-Ok-Decode.field-0-is at c.in-Ok-Decode.ensures.answers in
    lacks-none (words_of c.args.words.now) _ _ asked refl

pub returns-in-Ok-Verify-clause-lacks : goal.returns-in-Ok-Verify-clause-lacks
returns-in-Ok-Verify-clause-lacks g c none =
    let asked = rw c.in-Ok-Verify.field-0-is at c.in-Ok-Verify.ensures.answers in
    lacks-none (words_of c.args.words.now) _ _ asked refl

pub returns-in-Ok-Judge-clause-lacks : goal.returns-in-Ok-Judge-clause-lacks
returns-in-Ok-Judge-clause-lacks g c none =
    let asked = rw c.in-Ok-Judge.field-0-is at c.in-Ok-Judge.ensures.answers in
    lacks-none (words_of c.args.words.now) _ _ asked refl

pub returns-in-Ok-Bound-clause-lacks : goal.returns-in-Ok-Bound-clause-lacks
returns-in-Ok-Bound-clause-lacks g c none =
    let asked = rw c.in-Ok-Bound.field-0-is at c.in-Ok-Bound.ensures.answers in
    lacks-none (words_of c.args.words.now) _ _ asked refl

pub returns-in-Ok-Gen-clause-lacks : goal.returns-in-Ok-Gen-clause-lacks
returns-in-Ok-Gen-clause-lacks g c none =
    let asked = rw c.in-Ok-Gen.field-0-is at c.in-Ok-Gen.ensures.answers in
    lacks-none (words_of c.args.words.now) _ _ asked refl

pub returns-in-Ok-Trial-clause-lacks : goal.returns-in-Ok-Trial-clause-lacks
returns-in-Ok-Trial-clause-lacks g c none =
    let asked = rw c.in-Ok-Trial.field-0-is at c.in-Ok-Trial.ensures.answers in
    lacks-none (words_of c.args.words.now) _ _ asked refl

pub returns-in-Ok-Check-clause-lacks : goal.returns-in-Ok-Check-clause-lacks
returns-in-Ok-Check-clause-lacks g c none =
    let asked = rw c.in-Ok-Check.field-0-is at c.in-Ok-Check.ensures.answers in
    lacks-none (words_of c.args.words.now) _ _ asked refl

pub returns-in-Ok-Global-clause-lacks : goal.returns-in-Ok-Global-clause-lacks
returns-in-Ok-Global-clause-lacks g c none =
    let asked = rw c.in-Ok-Global.field-0-is at c.in-Ok-Global.ensures.answers in
    lacks-none (words_of c.args.words.now) _ _ asked refl

pub returns-in-Ok-Least-clause-lacks : goal.returns-in-Ok-Least-clause-lacks
returns-in-Ok-Least-clause-lacks g c none =
    let asked = rw c.in-Ok-Least.field-0-is at c.in-Ok-Least.ensures.answers in
    lacks-none (words_of c.args.words.now) _ _ asked refl

pub returns-in-Ok-Route-clause-stopped : goal.returns-in-Ok-Route-clause-stopped
returns-in-Ok-Route-clause-stopped g c stopped =
    let asked = rw c.in-Ok-Route.field-0-is at c.in-Ok-Route.ensures.answers in
    c.work_on.ensures.stopped (stopped-there (words_of c.args.words.now) _ _ asked stopped)

pub returns-in-Ok-Sweep-clause-stopped : goal.returns-in-Ok-Sweep-clause-stopped
returns-in-Ok-Sweep-clause-stopped g c stopped =
    let asked = rw c.in-Ok-Sweep.field-0-is at c.in-Ok-Sweep.ensures.answers in
    c.work_on-in-Ok-Sweep.ensures.stopped (stopped-there (words_of c.args.words.now) _ _ asked stopped)

pub returns-in-Ok-Core-clause-stopped : goal.returns-in-Ok-Core-clause-stopped
returns-in-Ok-Core-clause-stopped g c stopped =
    let asked = rw c.in-Ok-Core.field-0-is at c.in-Ok-Core.ensures.answers in
    c.work_on-in-Ok-Core.ensures.stopped (stopped-there (words_of c.args.words.now) _ _ asked stopped)

pub returns-in-Ok-Trial-clause-stopped : goal.returns-in-Ok-Trial-clause-stopped
returns-in-Ok-Trial-clause-stopped g c stopped =
    let asked = rw c.in-Ok-Trial.field-0-is at c.in-Ok-Trial.ensures.answers in
    c.trial.ensures.stopped (rw c.without_problem-in-Ok-Trial.ensures
    at (stopped-there (words_of c.args.words.now) _ _ asked stopped))

pub returns-in-Ok-Encode-clause-stopped : goal.returns-in-Ok-Encode-clause-stopped
returns-in-Ok-Encode-clause-stopped g c stopped =
    let asked = rw c.in-Ok-Encode.field-0-is at c.in-Ok-Encode.ensures.answers in
    absurd (none-early _ (stopped-there (words_of c.args.words.now) _ _ asked stopped))

pub returns-in-Ok-Decode-clause-stopped : goal.returns-in-Ok-Decode-clause-stopped
returns-in-Ok-Decode-clause-stopped g c stopped =
    let asked = rw c.in-Ok-Decode.field-0-is at c.in-Ok-Decode.ensures.answers in
    absurd (none-early _ (stopped-there (words_of c.args.words.now) _ _ asked stopped))

pub returns-in-Ok-Check-clause-stopped : goal.returns-in-Ok-Check-clause-stopped
returns-in-Ok-Check-clause-stopped g c stopped =
    let asked = rw c.in-Ok-Check.field-0-is at c.in-Ok-Check.ensures.answers in
    absurd (none-early _ (stopped-there (words_of c.args.words.now) _ _ asked stopped))

pub returns-in-Ok-Verify-clause-stopped : goal.returns-in-Ok-Verify-clause-stopped
returns-in-Ok-Verify-clause-stopped g c stopped =
    let asked = rw c.in-Ok-Verify.field-0-is at c.in-Ok-Verify.ensures.answers in
    absurd (none-early _ (stopped-there (words_of c.args.words.now) _ _ asked stopped))

pub returns-in-Ok-Judge-clause-stopped : goal.returns-in-Ok-Judge-clause-stopped
returns-in-Ok-Judge-clause-stopped g c stopped =
    let asked = rw c.in-Ok-Judge.field-0-is at c.in-Ok-Judge.ensures.answers in
    absurd (none-early _ (stopped-there (words_of c.args.words.now) _ _ asked stopped))

pub returns-in-Ok-Bound-clause-stopped : goal.returns-in-Ok-Bound-clause-stopped
returns-in-Ok-Bound-clause-stopped g c stopped =
    let asked = rw c.in-Ok-Bound.field-0-is at c.in-Ok-Bound.ensures.answers in
    absurd (none-early _ (stopped-there (words_of c.args.words.now) _ _ asked stopped))

pub returns-in-Ok-Global-clause-stopped : goal.returns-in-Ok-Global-clause-stopped
returns-in-Ok-Global-clause-stopped g c stopped =
    let asked = rw c.in-Ok-Global.field-0-is at c.in-Ok-Global.ensures.answers in
    c.negotiate_files.ensures.stopped (rw c.without_problem-in-Ok-Global.ensures
    at (stopped-there (words_of c.args.words.now) _ _ asked stopped))

pub returns-in-Ok-Least-clause-stopped : goal.returns-in-Ok-Least-clause-stopped
returns-in-Ok-Least-clause-stopped g c stopped =
    let asked = rw c.in-Ok-Least.field-0-is at c.in-Ok-Least.ensures.answers in
    c.narrow_files.ensures.stopped (stopped-there (words_of c.args.words.now) _ _ asked stopped)

pub returns-in-Ok-Gen-clause-stopped : goal.returns-in-Ok-Gen-clause-stopped
returns-in-Ok-Gen-clause-stopped g c stopped =
    let asked = rw c.in-Ok-Gen.field-0-is at c.in-Ok-Gen.ensures.answers in
    absurd (none-early _ (stopped-there (words_of c.args.words.now) _ _ asked stopped))

pub returns-in-Ok-Route-clause-reason : goal.returns-in-Ok-Route-clause-reason
returns-in-Ok-Route-clause-reason g c = rw c.work_on.ensures.unraised tt

pub returns-in-Ok-Encode-clause-reason : goal.returns-in-Ok-Encode-clause-reason
returns-in-Ok-Encode-clause-reason g c = rw c.work_on-in-Ok-Encode.ensures.unraised tt

pub returns-in-Ok-Sweep-clause-reason : goal.returns-in-Ok-Sweep-clause-reason
returns-in-Ok-Sweep-clause-reason g c = rw c.work_on-in-Ok-Sweep.ensures.unraised tt

pub returns-in-Ok-Core-clause-reason : goal.returns-in-Ok-Core-clause-reason
returns-in-Ok-Core-clause-reason g c = rw c.work_on-in-Ok-Core.ensures.unraised tt

pub returns-in-Ok-Route-clause-unraised : goal.returns-in-Ok-Route-clause-unraised
returns-in-Ok-Route-clause-unraised g c none =
    let asked = rw c.in-Ok-Route.field-0-is at c.in-Ok-Route.ensures.answers in
    others-lack (words_of c.args.words.now) _ _ asked refl

pub returns-in-Ok-Encode-clause-unraised : goal.returns-in-Ok-Encode-clause-unraised
returns-in-Ok-Encode-clause-unraised g c none =
    let asked = rw c.in-Ok-Encode.field-0-is at c.in-Ok-Encode.ensures.answers in
    others-lack (words_of c.args.words.now) _ _ asked refl

pub returns-in-Ok-Sweep-clause-unraised : goal.returns-in-Ok-Sweep-clause-unraised
returns-in-Ok-Sweep-clause-unraised g c none =
    let asked = rw c.in-Ok-Sweep.field-0-is at c.in-Ok-Sweep.ensures.answers in
    others-lack (words_of c.args.words.now) _ _ asked refl

pub returns-in-Ok-Core-clause-unraised : goal.returns-in-Ok-Core-clause-unraised
returns-in-Ok-Core-clause-unraised g c none =
    let asked = rw c.in-Ok-Core.field-0-is at c.in-Ok-Core.ensures.answers in
    others-lack (words_of c.args.words.now) _ _ asked refl

pub returns-in-Ok-Decode-clause-unraised : goal.returns-in-Ok-Decode-clause-unraised
returns-in-Ok-Decode-clause-unraised g c none =
    let asked = rw c.in-Ok-Decode.field-0-is at c.in-Ok-Decode.ensures.answers in
    others-lack (words_of c.args.words.now) _ _ asked refl

pub returns-in-Ok-Check-clause-unraised : goal.returns-in-Ok-Check-clause-unraised
returns-in-Ok-Check-clause-unraised g c none =
    let asked = rw c.in-Ok-Check.field-0-is at c.in-Ok-Check.ensures.answers in
    others-lack (words_of c.args.words.now) _ _ asked refl

pub returns-in-Ok-Verify-clause-unraised : goal.returns-in-Ok-Verify-clause-unraised
returns-in-Ok-Verify-clause-unraised g c none =
    let asked = rw c.in-Ok-Verify.field-0-is at c.in-Ok-Verify.ensures.answers in
    others-lack (words_of c.args.words.now) _ _ asked refl

pub returns-in-Ok-Judge-clause-unraised : goal.returns-in-Ok-Judge-clause-unraised
returns-in-Ok-Judge-clause-unraised g c none =
    let asked = rw c.in-Ok-Judge.field-0-is at c.in-Ok-Judge.ensures.answers in
    others-lack (words_of c.args.words.now) _ _ asked refl

pub returns-in-Ok-Bound-clause-unraised : goal.returns-in-Ok-Bound-clause-unraised
returns-in-Ok-Bound-clause-unraised g c none =
    let asked = rw c.in-Ok-Bound.field-0-is at c.in-Ok-Bound.ensures.answers in
    others-lack (words_of c.args.words.now) _ _ asked refl

pub returns-in-Ok-Global-clause-unraised : goal.returns-in-Ok-Global-clause-unraised
returns-in-Ok-Global-clause-unraised g c none =
    let asked = rw c.in-Ok-Global.field-0-is at c.in-Ok-Global.ensures.answers in
    others-lack (words_of c.args.words.now) _ _ asked refl

pub returns-in-Ok-Gen-clause-unraised : goal.returns-in-Ok-Gen-clause-unraised
returns-in-Ok-Gen-clause-unraised g c none =
    let asked = rw c.in-Ok-Gen.field-0-is at c.in-Ok-Gen.ensures.answers in
    others-lack (words_of c.args.words.now) _ _ asked refl

pub returns-in-Ok-Trial-clause-unraised : goal.returns-in-Ok-Trial-clause-unraised
returns-in-Ok-Trial-clause-unraised g c none =
    let asked = rw c.in-Ok-Trial.field-0-is at c.in-Ok-Trial.ensures.answers in
    others-lack (words_of c.args.words.now) _ _ asked refl
