use Rattle.std.proofs.Common.{List, sym, subst}
use Rattle.std.specs.Prelude.{All}
use Rattle.fpga_graph.specs.Wires.{IsWire}
use Rattle.fpga_graph.proofs.ReachedLemmas.{opened-sides}
use Rattle.fpga_types.specs.declared.grid.Wire.{Wire}
use Rattle.route_parts.specs.Links.{graph_of}
use Rattle.route_parts.proofs.PinLemmas.{opened-there}
use Rattle.route_parts.proofs.wires.Wires.opened.Goals as goal

pub returns-clause-wires : goal.returns-clause-wires
returns-clause-wires c =
    let none = c.new-wires.ensures.items in
    let bottom = c.in_ok-add_along.ensures in
    let top = c.in_ok-add_along-2.ensures in
    let left = c.in_ok-add_along-3.ensures in
    let right = c.in_ok-add_along-4.ensures in
    rw (right, left, top, bottom, none) (opened-sides (graph_of c.args.self.now) c.args.pin)

pub returns-clause-there : goal.returns-clause-there
returns-clause-there c =
    subst (λ (wires : List Wire). All (IsWire (graph_of c.args.self.now)) wires)
    (sym (returns-clause-wires c))
    (opened-there (graph_of c.args.self.now) c.args.pin c.args.self.now.some_tracks)
