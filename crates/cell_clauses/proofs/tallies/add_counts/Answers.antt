use Rattle.std.proofs.Common.{◌≡◌, ℕ, arith, subst}
use Rattle.std.specs.Prelude.{flat_map}
use Rattle.route_encode.specs.Adding.{Adds}
use Rattle.route_encode.proofs.AddLemmas.{below-more, below-room}
use Rattle.cell_clauses.specs.Clauses.{below, counts_at}
use Rattle.cell_clauses.proofs.tallies.add_counts.Goals as goal

pub add_count-requires-clause-vars : goal.add_count-requires-clause-vars
add_count-requires-clause-vars c = rw (c.loop-net.invariant.vars) c.requires.vars

pub add_count-requires-clause-room : goal.add_count-requires-clause-room
add_count-requires-clause-room c =
    below-room (counts_at c.args.sizes.nets c.args.sizes.cells c.args.sizes.width) c.args.sizes.nets c.loop-net.net (omega arith) _ _ c.requires.room
    c.loop-net.invariant

pub loop-net-preserved : goal.loop-net-preserved
loop-net-preserved c =
    below-more (counts_at c.args.sizes.nets c.args.sizes.cells c.args.sizes.width) c.args.sizes.nets c.loop-net.net (omega arith) _ _ _
    c.loop-net.invariant c.add_count.ensures

pub returns : goal.returns
returns c =
    let end : c.loop-net.net ≡ c.args.sizes.nets = omega arith in
    subst (λ (n : ℕ). Adds c.args.formula.now
    (flat_map (counts_at c.args.sizes.nets c.args.sizes.cells c.args.sizes.width) (below n)) c.loop-net.formula) end c.loop-net.invariant
