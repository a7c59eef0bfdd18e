use Rattle.std.proofs.Common.{◌≡◌, true, take, All}
use Rattle.sat_clause.specs.Literal.{negation}
use Rattle.sat_watch.specs.Watched.{AreWhole, GoesTo, is_false}
use Rattle.sat_watch.proofs.visit.walk_tail.Given as goal

-- the other literals so far are true
abbrev pub invariant-loop-i : goal.invariant-loop-i
invariant-loop-i l = record {
  whole : AreWhole l.chains l.trail;
  goes : GoesTo l.fn.level l.fn.f l.chains l.initial.trail l.chains l.trail;
  still_false : is_false l.trail.entries l.fn.f ≡ true;
  done : All (λ o. is_false l.trail.entries (negation o) ≡ true) (take l.i l.others);
  visits : l.visits ≡ l.initial.visits;
}
