use Rattle.std.proofs.Common.{◌≤◌}
use Rattle.sat_core.proofs.analysis.Analysis.learned_length.Given as goal

-- no more than the places so far
abbrev pub invariant-loop-k : goal.invariant-loop-k
invariant-loop-k l = l.count ≤ l.k
