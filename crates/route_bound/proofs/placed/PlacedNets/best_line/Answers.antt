use Rattle.std.proofs.Common.{arith}
use Rattle.route_bound.proofs.LineLemmas.{best-line}
use Rattle.route_bound.proofs.placed.PlacedNets.best_line.Goals as goal

pub returns : goal.returns
returns c =
    best-line c.args.self.now c.args.kind c.count_nets.new.counts c.line_count-limit.result
    c.first_greatest.result c.line_count-limit.ensures.count
    (omega (arith, c.line_count-limit.ensures.within, c.count_nets.ensures.size))
    c.count_nets.ensures.counted c.first_greatest.ensures
