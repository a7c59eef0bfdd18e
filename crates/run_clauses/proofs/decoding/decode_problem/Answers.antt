use Rattle.std.proofs.Common.{false, inr, refl}
use Rattle.router_words.specs.Job.{decode_said}
use Rattle.run_clauses.specs.Decode.{LeavesClauses}
use Rattle.run_clauses.specs.Known.{crowd_of}
use Rattle.run_outcome.specs.Subject.{IsStopped}
use Rattle.run_clauses.proofs.KnownLaws.{known-crowd, known-some, order-goes}
use Rattle.run_clauses.proofs.PreparedLaws.{by-encoder}
use Rattle.run_clauses.proofs.decoding.decode_problem.Goals as goal

pub of-encoder-requires-clause-known : goal.of-encoder-requires-clause-known
of-encoder-requires-clause-known g c = λ is.
    let method = c.args.job.now.method in
    known-some method false c.args.problem.now c.in-Ok.known c.in-Ok.ensures.ok
    (order-goes method false is)

pub returns-clause-leaves : goal.returns-clause-leaves
returns-clause-leaves g c =
    let job = c.args.job.now in
    let p = c.args.problem.now in
    let crowd = crowd_of c.in-Ok.known in
    let known = known-crowd job.method false p c.in-Ok.known c.in-Ok.ensures.ok in
    inr (
      c.in_default.ensures.suits refl,
      inr (record {
        given = c.was_given.ensures;
        narrow = job.in_range.1;
        crowd = crowd;
        known = known;
        left = by-encoder job.method false crowd p c.of-encoder.result c.of-encoder.ensures known
            (λ formula good. LeavesClauses
            (IsStopped (g.D.Desk.state c.args.desk.now) (g.D.Desk.state c.decode_clauses.new.desk))
            (g.D.Desk.state c.args.desk.now).files (decode_said job) (formula job.width)
            (good job.width) (g.S.Shelf.state c.args.shelf.now)
            (g.S.Shelf.state c.decode_clauses.new.shelf) c.decode_clauses.result)
            c.decode_clauses.ensures.leaves;
      }),
    )
