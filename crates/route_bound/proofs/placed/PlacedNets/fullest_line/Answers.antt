use Rattle.std.proofs.Common.{ℕ, ◌*◌, length, arith}
use Rattle.route_bound.proofs.CutLemmas.{beats-both, fuller-no, fuller-yes}
use Rattle.route_bound.proofs.placed.PlacedNets.fullest_line.Goals as goal

pub returns-then-is_fuller-clause-lines : goal.returns-then-is_fuller-clause-lines
returns-then-is_fuller-clause-lines c =
    let n : ℕ = length c.in_ok-column.column.nets.items in
    let m : ℕ = length c.in_ok-row.row.nets.items in
    let k : ℕ = c.in_ok-column.column.cells in
    let h : ℕ = c.in_ok-row.row.cells in
    let less = fuller-yes (m * k) (n * h) c.is_fuller.result c.is_fuller.ensures
    c.if-is_fuller.true in
    beats-both c.args.self.now n k m h n k c.in_ok-column.ensures.most c.in_ok-row.ensures.most
    (omega arith) less

pub returns-clause-lines : goal.returns-clause-lines
returns-clause-lines c =
    let n : ℕ = length c.in_ok-column.column.nets.items in
    let m : ℕ = length c.in_ok-row.row.nets.items in
    let k : ℕ = c.in_ok-column.column.cells in
    let h : ℕ = c.in_ok-row.row.cells in
    let more = fuller-no (m * k) (n * h) c.is_fuller.result c.is_fuller.ensures
    c.if-is_fuller.false in
    beats-both c.args.self.now n k m h m h c.in_ok-column.ensures.most c.in_ok-row.ensures.most
    more (omega arith)
