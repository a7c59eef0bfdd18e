use Rattle.std.proofs.Common.{ℕ, arith}
use Rattle.std.specs.Prelude.{flat_map}
use Rattle.route_encode.proofs.AddLemmas.{room-reserved}
use Rattle.cell_clauses.specs.Clauses.{below, counts_at}
use Rattle.cell_clauses.proofs.SizeLemmas.{length-all-counts, lits-all-counts}
use Rattle.cell_clauses.proofs.frame.PlacedWindow.add_tallies.Goals as goal

pub add_counts-requires-clause-room : goal.add_counts-requires-clause-room
add_counts-requires-clause-room c =
    let nets : ℕ = c.args.self.now.sizes.nets in
    let cells : ℕ = c.args.self.now.sizes.cells in
    let width : ℕ = c.args.self.now.sizes.width in
    room-reserved c.args.formula.now c.reserve.new.self c.vars-vars.result
    c.clause_count-clauses.result c.lit_count.result
    (flat_map (counts_at nets cells width) (below nets)) c.in_ok-reserve.ensures.ok
    (omega (arith, length-all-counts nets cells width, c.clause_count-clauses.ensures))
    (omega (arith, lits-all-counts nets cells width, c.lit_count.ensures))
