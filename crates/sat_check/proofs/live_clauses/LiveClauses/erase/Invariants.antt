use Rattle.std.proofs.Common.{◌≡◌, drop, take}
use Rattle.sat_clause.specs.Judge.{erase, erase_fault}
use Rattle.sat_clause.specs.Live.{Live}
use Rattle.sat_check.specs.LiveStore.{live_at}
use Rattle.sat_check.specs.Finder.{Finds}
use Rattle.sat_check.proofs.live_clauses.LiveClauses.erase.Given as goal

-- the clauses so far are out, and the ids that are left have the fault that all of them have
abbrev pub invariant-loop-id : goal.invariant-loop-id
invariant-loop-id l = record {
  vars : l.self.vars ≡ l.initial.self.vars;
  live : (live : Live) → Finds (live_at l.initial.self) live
      → Finds (live_at l.self) (erase live (take l.id-index l.ids));
  left : (live : Live) → Finds (live_at l.initial.self) live →
      erase_fault (erase live (take l.id-index l.ids)) (drop l.id-index l.ids)
      ≡ erase_fault live l.ids;
}
