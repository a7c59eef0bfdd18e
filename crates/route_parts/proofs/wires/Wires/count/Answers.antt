use Rattle.std.proofs.Common.{arith}
use Rattle.route_parts.proofs.NumberLemmas.{few-wires}
use Rattle.route_parts.proofs.wires.Wires.count.Goals as goal

pub overflow_mul-result : goal.overflow_mul-result
overflow_mul-result c =
    let few = few-wires c.cell_count.result c.args.self.now.width c.cell_count.ensures.within
    c.args.self.now.few_tracks in
    omega (arith, few)
