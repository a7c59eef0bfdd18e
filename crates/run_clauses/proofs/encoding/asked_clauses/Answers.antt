use Rattle.std.specs.Prelude.{◌≡◌, IfErr, IfOk, OnOk, false}
use Rattle.route_sweep.specs.Found.{IsHeld, IsUnbuilt}
use Rattle.run_clauses.specs.Known.{crowd_of}
use Rattle.run_clauses.proofs.KnownLaws.{known-crowd, known-some, order-goes}
use Rattle.run_clauses.proofs.PreparedLaws.{by-encoder}
use Rattle.run_clauses.proofs.encoding.asked_clauses.Goals as goal

pub of-encoder-requires-clause-known : goal.of-encoder-requires-clause-known
of-encoder-requires-clause-known c = λ is.
    let method = c.args.job.now.method in
    known-some method false c.args.problem.now c.args.known.now c.requires
    (order-goes method false is)

pub returns-clause-formula : goal.returns-clause-formula
returns-clause-formula c =
    by-encoder c.args.job.now.method false (crowd_of c.args.known.now) c.args.problem.now
    c.of-encoder.result c.of-encoder.ensures (known-crowd c.args.job.now.method false
    c.args.problem.now c.args.known.now c.requires)
    (λ formula good. IfOk c.few_clauses.result (λ built. built.cnf ≡ formula c.args.job.now.width))
    c.few_clauses.ensures.formula

pub returns-clause-held : goal.returns-clause-held
returns-clause-held c =
    by-encoder c.args.job.now.method false (crowd_of c.args.known.now) c.args.problem.now
    c.of-encoder.result c.of-encoder.ensures (known-crowd c.args.job.now.method false
    c.args.problem.now c.args.known.now c.requires)
    (λ formula good. OnOk c.few_clauses.result (IsHeld 1 (formula c.args.job.now.width)))
    c.few_clauses.ensures.held

pub returns-clause-stop : goal.returns-clause-stop
returns-clause-stop c =
    by-encoder c.args.job.now.method false (crowd_of c.args.known.now) c.args.problem.now
    c.of-encoder.result c.of-encoder.ensures (known-crowd c.args.job.now.method false
    c.args.problem.now c.args.known.now c.requires)
    (λ formula good. IfErr c.few_clauses.result (IsUnbuilt 1 (formula c.args.job.now.width)))
    c.few_clauses.ensures.stop
