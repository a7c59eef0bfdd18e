use Rattle.std.proofs.Common.{arith}
use Rattle.route_ways.proofs.WayLemmas.{most-kept}
use Rattle.route_ways.proofs.plain.Plain.solve.Goals as goal

pub returns-in-Ok-run_turns-clause-searched : goal.returns-in-Ok-run_turns-clause-searched
returns-in-Ok-run_turns-clause-searched g c =
    let end = c.in-Ok-run_turns.ensures in
    record {
      logged = end.logged;
      kept = λ keep. end.kept;
      within = end.within;
      end = end.answer;
      decided = λ large. end.decided
          (omega (arith, large, most-kept c.args.self.now.keep c.args.formula.now.cnf.vars));
    }
