use Rattle.std.proofs.Common.{◌≡◌, ◌++◌, Some, true, length}
use Rattle.std.specs.List.{filter}
use Rattle.sat_arena.specs.declared.clause_ref.ClauseRef.{ClauseRef}
use Rattle.sat_watch.specs.Watches.{is_attached}
use Rattle.sat_core.specs.Deletable.{deletable, is_deletable, places_of, refs_of}
use Rattle.sat_core.proofs.DeletableLaws.{from_on}
use Rattle.sat_core.proofs.choosing.find_candidates.Given as goal

-- the next clause is attached, and with the clauses from there on those that were found are all
abbrev pub invariant-loop-next : goal.invariant-loop-next
invariant-loop-next l = record {
  next : (c : ClauseRef) → l.next ≡ Some c → is_attached l.watches.clauses c ≡ true;
  found :
      refs_of l.found.items
      ++ filter (is_deletable l.watches l.above) (places_of (from_on l.watches.clauses l.next))
      ≡ deletable l.watches l.above;
}

-- how many clauses are ahead
abbrev pub decreases-loop-next : goal.decreases-loop-next
decreases-loop-next l = length (from_on l.watches.clauses l.next)
