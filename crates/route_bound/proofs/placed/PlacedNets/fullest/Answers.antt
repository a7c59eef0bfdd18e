use Rattle.std.proofs.Common.{ℕ, ◌*◌, length}
use Rattle.route_bound.proofs.CutLemmas.{beats-more, fuller-yes}
use Rattle.route_bound.proofs.placed.PlacedNets.fullest.Goals as goal

pub returns-then-is_fuller-clause-lines : goal.returns-then-is_fuller-clause-lines
returns-then-is_fuller-clause-lines c =
    let n : ℕ = length c.in_ok-line.line.nets.items in
    let k : ℕ = c.in_ok-line.line.cells in
    let nets : ℕ = length c.in_ok-rectangle.rectangle.nets.items in
    let cells : ℕ = c.in_ok-rectangle.rectangle.cells in
    beats-more c.args.self.now n k nets cells c.in_ok-line.ensures.lines
    c.in_ok-line.ensures.crossed.some
    (fuller-yes (n * cells) (nets * k) c.is_fuller.result c.is_fuller.ensures c.if-is_fuller.true)
