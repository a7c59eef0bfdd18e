use Rattle.std.proofs.Common.{false, inr}
use Rattle.run_clauses.specs.Known.{crowd_of}
use Rattle.run_clauses.proofs.KnownLaws.{known-crowd}
use Rattle.run_clauses.proofs.encoding.encode_problem.Goals as goal

pub returns : goal.returns
returns g c = inr (record {
  crowd = crowd_of c.in-Ok.known;
  known = known-crowd c.args.job.now.method false c.args.problem.now c.in-Ok.known
      c.in-Ok.ensures.ok;
  came = c.write_clauses.result;
  writes = c.write_clauses.ensures;
  is = c.written_outcome.ensures;
})
