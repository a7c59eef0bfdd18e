use Rattle.std.proofs.Common.{List, sym, subst}
use Rattle.fpga_types.specs.declared.grid.Wire.{Wire}
use Rattle.fpga_graph.specs.Wires.{AreReached}
use Rattle.fpga_graph.proofs.ReachedLemmas.{are-reached, opened-sides}
use Rattle.fpga_graph.proofs.graph.Graph.pin_wires.Goals as goal

pub returns-clause-listed : goal.returns-clause-listed
returns-clause-listed c =
    let none = c.new-wires.ensures.items in
    let bottom = c.in_ok-add_along.ensures in
    let top = c.in_ok-add_along-2.ensures in
    let left = c.in_ok-add_along-3.ensures in
    let right = c.in_ok-add_along-4.ensures in
    rw (right, left, top, bottom, none) (opened-sides c.args.self.now c.args.pin)

pub returns-clause-reached : goal.returns-clause-reached
returns-clause-reached c =
    subst (λ (wires : List Wire). AreReached c.args.self.now c.args.pin wires)
    (sym (returns-clause-listed c)) (are-reached c.args.self.now c.args.pin)
