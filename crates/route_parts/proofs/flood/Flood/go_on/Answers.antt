use Rattle.std.proofs.Common.{List, subst}
use Rattle.fpga_types.specs.declared.grid.Wire.{Wire}
use Rattle.route_parts.specs.Flooding.{IsFlooding}
use Rattle.route_parts.specs.Links.{graph_of}
use Rattle.route_parts.proofs.FloodLemmas.{flooding-turned}
use Rattle.route_parts.proofs.flood.Flood.go_on.Goals as goal

pub spread-requires-clause-flooding : goal.spread-requires-clause-flooding
spread-requires-clause-flooding c =
    flooding-turned (graph_of c.args.wires.now) c.args.part c.loop-wire.self.table.items
    c.pop.new.self.items c.in-Some.wire
    (subst (λ (ahead : List Wire). IsFlooding (graph_of c.args.wires.now) c.args.part
    c.loop-wire.self.table.items ahead) c.in-Some.ensures.items c.loop-wire.invariant.flooding)
