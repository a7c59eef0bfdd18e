use Rattle.std.proofs.Common.{arith}
use Rattle.route_parts.specs.Links.{graph_of}
use Rattle.route_parts.proofs.NumberLemmas.{wire-within}
use Rattle.route_parts.proofs.wires.Wires.number.Goals as goal

pub returns-clause-within : goal.returns-clause-within
returns-clause-within c =
    let low = wire-within (graph_of c.args.self.now) c.args.wire c.requires in
    omega (arith, low, c.number_in.ensures)
