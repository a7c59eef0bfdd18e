use Rattle.std.proofs.Common.{ℕ, ap, arith, inl, inr}
use Rattle.sat_clause.specs.Step.{Added}
use Rattle.sat_core.specs.Stands.{live_after}
use Rattle.sat_merge.proofs.MovingLaws.{next_moved}
use Rattle.sat_merge.proofs.moving.add.Goals as goal

-- by the same hints
pub returns-then-branch-clause-moved : goal.returns-then-branch-clause-moved
returns-then-branch-clause-moved c = λ is formula lemmas steps moving.
    let live = live_after formula c.args.log.now.steps in
    let clause = c.args.clause.now in
    let numbers = c.move_ids.new.numbers.items in
    rw (c.in_ok-log_clause.ensures.logged, c.deref.ensures.value)
    (next_moved moving c.log_clause.new.live (Added c.args.id clause c.args.hints.now)
    (Added c.in-Some.now clause numbers)
    (omega arith, c.are_kept.ensures.kept.0 c.if-not-are_kept.false) (
      numbers,
      ap (λ (n : ℕ). Added n clause numbers) c.in-Some.ensures,
      inl (
        c.in_ok-move_ids.ensures.places c.if-branch.true,
        c.in_ok-move_ids.ensures.ids c.if-branch.true,
      ),
    )
    (c.in_ok-log_clause.ensures.live live moving.found))

-- or by others
pub returns-clause-moved : goal.returns-clause-moved
returns-clause-moved c = λ is formula lemmas steps moving.
    let live = live_after formula c.args.log.now.steps in
    let clause = c.args.clause.now in
    let hints = c.write.new.self.hints in
    rw (c.in_ok-log_clause-2.ensures.logged, c.hints.ensures)
    (next_moved moving c.log_clause-2.new.live (Added c.args.id clause c.args.hints.now)
    (Added c.in-Some.now clause hints)
    (omega arith, c.are_kept.ensures.kept.0 c.if-not-are_kept.false) (
      hints,
      ap (λ (n : ℕ). Added n clause hints) c.in-Some.ensures,
      inr (c.in_ok-write.ensures.written c.if-not-branch.false live moving.found),
    )
    (c.in_ok-log_clause-2.ensures.live live moving.found))
