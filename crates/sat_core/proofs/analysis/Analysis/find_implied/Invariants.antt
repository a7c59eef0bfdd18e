use Rattle.std.proofs.Common.{◌≡◌, []}
use Rattle.sat_core.specs.Implied.{IsWalking}
use Rattle.sat_core.proofs.analysis.Analysis.find_implied.Given as goal

-- no visit is left between two walks
abbrev pub invariant-loop-k : goal.invariant-loop-k
invariant-loop-k l = record {
  walking : IsWalking l.self.watches.now l.self.marks.now l.implied;
  none : l.implied.visits ≡ [];
}
