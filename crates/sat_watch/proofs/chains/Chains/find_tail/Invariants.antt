use Rattle.std.proofs.Common.{length, Option}
use Rattle.sat_arena.specs.declared.clause_ref.ClauseRef.{ClauseRef}
use Rattle.sat_watch.specs.Chains.{HasCursor, head_of, next_on}
use Rattle.sat_watch.specs.Tails.{IsTail, refs}
use Rattle.sat_watch.specs.Watched.{chain_length}
use Rattle.sat_watch.proofs.chains.Chains.find_tail.Given as goal

-- the clauses of two literals since the last one of more lead to the next one
abbrev pub invariant-loop-next : goal.invariant-loop-next
invariant-loop-next l = record {
  cursor : (before : Option ClauseRef)
      × HasCursor (next_on l.self.clauses l.l) (head_of l.self l.l) before l.next;
  tail : (from : Option ClauseRef)
      × IsTail l.self.clauses l.l from l.others.items (refs l.words.items) l.next;
}

-- the clauses that are left
abbrev pub decreases-loop-next : goal.decreases-loop-next
decreases-loop-next l = chain_length (length l.self.clauses) (next_on l.self.clauses l.l) l.next
