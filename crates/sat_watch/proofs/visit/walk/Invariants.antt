use Rattle.std.proofs.Common.{◌≡◌, length}
use Rattle.sat_watch.specs.Chains.{next_on}
use Rattle.sat_watch.specs.Watched.{AreWhole, IsWalking, chain_length}
use Rattle.sat_watch.proofs.visit.walk.Given as goal

-- the chain's clauses so far are kept or have moved
abbrev pub invariant-loop-next : goal.invariant-loop-next
invariant-loop-next l = record {
  vars : l.chains.vars ≡ l.initial.chains.vars;
  whole : AreWhole l.chains l.trail;
  visits : l.visits ≡ l.initial.visits;
  walking : IsWalking l.initial.trail.entries l.level l.f l.initial.chains.clauses 0
      l.chains l.trail.entries l.before l.next l.walked;
}

-- the clauses that are left
abbrev pub decreases-loop-next : goal.decreases-loop-next
decreases-loop-next l = chain_length (length l.chains.clauses) (next_on l.chains.clauses l.f) l.next
