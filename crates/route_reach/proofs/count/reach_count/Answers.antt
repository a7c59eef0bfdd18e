use Rattle.std.proofs.Common.{◌∙◌}
use Rattle.route_reach.proofs.TallyLemmas.{clauses-told}
use Rattle.route_reach.proofs.count.reach_count.Goals as goal

pub returns : goal.returns
returns c =
    c.clauses.ensures ∙ clauses-told c.args.width c.args.reach c.args.problem.now _ _ _ _
    c.tally.ensures.sinks (c.tally.ensures.far c.args.reach) c.tally.ensures.wires
    c.tally.ensures.shared
