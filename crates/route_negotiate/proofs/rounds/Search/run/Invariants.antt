use Rattle.std.proofs.Common.{◌≤◌}
use Rattle.route_negotiate.proofs.rounds.Search.run.Given as goal

-- there are no more rounds left than there may be
abbrev pub invariant-loop-turn : goal.invariant-loop-turn
invariant-loop-turn g l = l.left ≤ l.most
