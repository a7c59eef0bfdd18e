use Rattle.std.proofs.Common.{◌≡◌, ℕ, arith, subst}
use Rattle.std.specs.Prelude.{flat_map}
use Rattle.route_encode.specs.Adding.{Adds}
use Rattle.route_encode.proofs.AddLemmas.{below-more, below-room}
use Rattle.cell_clauses.specs.Clauses.{below, tallies_at}
use Rattle.cell_clauses.proofs.tallies.add_count.Goals as goal

pub add_tally-requires-clause-vars : goal.add_tally-requires-clause-vars
add_tally-requires-clause-vars c = rw (c.loop-cell.invariant.vars) c.requires.vars

pub add_tally-requires-clause-room : goal.add_tally-requires-clause-room
add_tally-requires-clause-room c =
    below-room (tallies_at c.args.sizes.nets c.args.sizes.cells c.args.sizes.width c.args.net) c.args.sizes.cells c.loop-cell.cell (omega arith) _ _ c.requires.room
    c.loop-cell.invariant

pub loop-cell-preserved : goal.loop-cell-preserved
loop-cell-preserved c =
    below-more (tallies_at c.args.sizes.nets c.args.sizes.cells c.args.sizes.width c.args.net) c.args.sizes.cells c.loop-cell.cell (omega arith) _ _ _
    c.loop-cell.invariant c.add_tally.ensures

pub returns : goal.returns
returns c =
    let end : c.loop-cell.cell ≡ c.args.sizes.cells = omega arith in
    subst (λ (n : ℕ). Adds c.args.formula.now
    (flat_map (tallies_at c.args.sizes.nets c.args.sizes.cells c.args.sizes.width c.args.net) (below n)) c.loop-cell.formula) end c.loop-cell.invariant
