use Rattle.std.proofs.Common.{◌≡◌, take}
use Rattle.sat_check.specs.Finder.{Finds}
use Rattle.sat_check.specs.LiveStore.{live_at}
use Rattle.sat_clause.specs.Formula.{Cnf}
use Rattle.sat_core.specs.Stands.{live_after}
use Rattle.sat_merge.specs.Representatives.{keeps}
use Rattle.sat_merge.specs.Moving.{IsMoving}
use Rattle.sat_merge.proofs.moving.move_steps.Given as goal

-- the steps so far are moved, for as many variables
abbrev pub invariant-loop-at : goal.invariant-loop-at
invariant-loop-at l = record {
  live : l.live.vars ≡ l.fn.live.vars;
  vars : l.writer.vars ≡ l.fn.writer.vars;
  moving : (formula : Cnf) → Finds (live_at l.fn.live) (live_after formula l.fn.log.steps) →
      IsMoving (keeps l.representatives) formula l.places l.fn.log.steps
      (take l.at l.steps.steps) l.live l.log.steps;
}
