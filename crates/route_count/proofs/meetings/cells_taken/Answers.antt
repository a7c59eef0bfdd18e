use Rattle.std.proofs.Common.{◌≡◌, ℕ, arith, length, subst}
use Rattle.route_count.specs.Meetings.{AreTaken}
use Rattle.route_count.proofs.meetings.cells_taken.Goals as goal

pub returns-clause-taken : goal.returns-clause-taken
returns-clause-taken c =
    let all : c.loop-s.s ≡ length c.args.slots.now =
    omega (arith, c.loop-s-test.false, c.loop-s.auto) in
    subst (λ (n : ℕ). AreTaken c.args.grid c.args.slots.now c.args.trees.now c.args.root n
    c.loop-s.taken.items) all c.loop-s.invariant.taken
