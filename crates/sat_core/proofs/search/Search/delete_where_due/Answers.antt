use Rattle.std.proofs.Common.{◌≡◌, ◌+◌, ◌*◌, ◌≤◌, ◌∙◌, ℕ, suc, true, length, List, Ok, ap, subst, sym, arith}
use Rattle.std.proofs.lemmas.Bool.{both_ways, leb-true}
use Rattle.sat_clause.specs.Formula.{Cnf}
use Rattle.sat_clause.specs.Step.{Step}
use Rattle.sat_core.specs.Deletions.{AreDeletions}
use Rattle.sat_core.specs.Stands.{SearchAt, SearchValue}
use Rattle.sat_core.specs.Underway.{IsUnderway}
use Rattle.sat_core.proofs.UnderwayLemmas.{underway_along, underway_deleted}
use Rattle.sat_core.proofs.search.Search.delete_where_due.Goals as goal
use Rattle.sat_core.proofs.search.Search.delete_where_due.Goals.{After-is_restart_due}

module _ (c : After-is_restart_due) where
  -- to look whether a restart is due changes nothing
  begun : (formula : Cnf) → IsUnderway c.args.self.now formula c.args.log.now.steps →
      IsUnderway (record { taken = c.self.inside.taken; value = c.is_restart_due.new.self }) formula
      c.args.log.now.steps
  begun formula = subst (λ (s : SearchAt). IsUnderway s formula c.args.log.now.steps)
      (sym (ap (λ (v : SearchValue). record { taken = c.self.inside.taken; value = v })
      c.is_restart_due.ensures ∙ c.self.view_is))

  -- enough was added since the last deletion
  due : (c.args.deletions.now).added + 1000 * suc (c.args.deletions.now).count
      ≤ (c.is_restart_due.new.self).added
  due =
      let d = c.args.deletions.now in
      let room = leb-true (d.added + 1000 * suc d.count) c.added-added.result
      (sym c.may_come.ensures ∙ c.if-not-may_come.false) in
      omega (
        arith,
        room,
        c.added-added.ensures,
        ap (λ (v : SearchValue). v.added) c.is_restart_due.ensures,
      )

pub returns-in_err-delete-clause-underway : goal.returns-in_err-delete-clause-underway
returns-in_err-delete-clause-underway c formula before =
    let at = (goal.at.returns-in_err-delete-clause-underway c).After-is_restart_due in
    let says = c.in_err-delete.ensures in
    let same_log = says.same_log (λ e. cc) in
    subst (λ (l : List Step). IsUnderway c.delete.new.self formula l) (sym same_log)
    (underway_along (says.same (λ e. cc)) (says.all ∙ ap length same_log)
    (begun at formula before))

pub returns-then-not-branch-clause-underway : goal.returns-then-not-branch-clause-underway
returns-then-not-branch-clause-underway c formula before =
    let at = (goal.at.returns-then-not-branch-clause-underway c).After-is_restart_due in
    let says = c.in_ok-delete.ensures in
    let same_log = says.same_log (λ e.
    let one : c.in_ok-delete.field-0 ≡ true = cc in both_ways _ c.if-not-branch.true one) in
    let same = says.same (λ e.
    let one : c.in_ok-delete.field-0 ≡ true = cc in both_ways _ c.if-not-branch.true one) in
    subst (λ (l : List Step). IsUnderway c.delete.new.self formula l) (sym same_log)
    (underway_along same (says.all ∙ ap length same_log) (begun at formula before))

pub returns-clause-underway : goal.returns-clause-underway
returns-clause-underway c formula before =
    let at = (goal.at.returns-clause-underway c).After-is_restart_due in
    let now = c.delete.new.self in
    let says = c.in_ok-delete.ensures in
    subst (λ (n : ℕ). IsUnderway (record { taken = n; value = now.value }) formula
    c.delete.new.log.steps) (sym says.all)
    (underway_deleted (begun at formula before) c.requires.tracked (due at)
    (says.deleted (ap Ok c.if-not-branch.false))).0

pub returns-clause-tracked : goal.returns-clause-tracked
returns-clause-tracked c =
    let at = (goal.at.returns-clause-tracked c).After-is_restart_due in
    let d = c.args.deletions.now in
    let says = c.in_ok-delete.ensures in
    rw c.push.ensures
    (subst (λ (n : ℕ). AreDeletions c.delete.new.log.steps (record {
      count = suc d.count;
      added = n;
    })) (ap (λ (v : SearchValue). v.added) c.is_restart_due.ensures ∙ sym c.added-added.ensures)
    (underway_deleted (begun at c.requires.underway.0 c.requires.underway.1) c.requires.tracked
    (due at) (says.deleted (ap Ok c.if-not-branch.false))).1)
