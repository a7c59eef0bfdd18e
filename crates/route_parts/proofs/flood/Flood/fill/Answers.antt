use Rattle.std.proofs.Common.{List, arith, subst}
use Rattle.fpga_types.specs.declared.grid.Wire.{Wire}
use Rattle.route_parts.specs.Flooding.{IsFlooding}
use Rattle.route_parts.specs.Links.{graph_of}
use Rattle.route_parts.proofs.FloodLemmas.{all-parts}
use Rattle.route_parts.proofs.flood.Flood.fill.Goals as goal

pub returns : goal.returns
returns c =
    all-parts (graph_of c.args.wires.now) c.loop-number.count c.loop-number.self.table.items
    (subst (λ (ahead : List Wire). IsFlooding (graph_of c.args.wires.now) c.loop-number.count
    c.loop-number.self.table.items ahead) c.loop-number.invariant.none
    c.loop-number.invariant.flooding)
    (λ k low. c.loop-number.invariant.each k
    (omega (arith, low, c.count-number-end.ensures, c.loop-number-test.false)))
