use Rattle.std.proofs.Common.{◌≡◌, ℕ, arith, subst}
use Rattle.std.specs.Prelude.{flat_map}
use Rattle.route_encode.specs.Adding.{Adds}
use Rattle.route_encode.proofs.AddLemmas.{below-more, below-room}
use Rattle.cell_clauses.specs.Clauses.{below, steps_at}
use Rattle.cell_clauses.proofs.tallies.add_steps.Goals as goal

pub add_step-requires-clause-vars : goal.add_step-requires-clause-vars
add_step-requires-clause-vars c = rw (c.loop-many.invariant.vars) c.requires.vars

pub add_step-requires-clause-room : goal.add_step-requires-clause-room
add_step-requires-clause-room c =
    below-room (steps_at c.args.sizes.nets c.args.sizes.cells c.args.sizes.width c.args.net c.args.cell) c.args.sizes.width c.loop-many.many (omega arith) _ _ c.requires.room
    c.loop-many.invariant

pub loop-many-preserved : goal.loop-many-preserved
loop-many-preserved c =
    below-more (steps_at c.args.sizes.nets c.args.sizes.cells c.args.sizes.width c.args.net c.args.cell) c.args.sizes.width c.loop-many.many (omega arith) _ _ _
    c.loop-many.invariant c.add_step.ensures

pub returns : goal.returns
returns c =
    let end : c.loop-many.many ≡ c.args.sizes.width = omega arith in
    subst (λ (n : ℕ). Adds c.args.formula.now
    (flat_map (steps_at c.args.sizes.nets c.args.sizes.cells c.args.sizes.width c.args.net c.args.cell) (below n)) c.loop-many.formula) end c.loop-many.invariant
