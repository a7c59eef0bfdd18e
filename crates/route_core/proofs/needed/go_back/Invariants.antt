-- what was kept so far
use Rattle.std.proofs.Common.{◌≡◌, drop}
use Rattle.route_core.specs.Sources.{said_under}
use Rattle.route_core.specs.Walking.{HasKept, kept_back}
use Rattle.route_core.proofs.needed.go_back.Given as goal

abbrev pub invariant-loop-at : goal.invariant-loop-at
invariant-loop-at l = record {
  size : l.wanted.size ≡ l.initial.wanted.size;
  kept : HasKept l.lits
      (kept_back (said_under l.sources.formula l.sources.log) l.lits (drop l.at l.hints))
      l.kept.items l.wanted;
}
