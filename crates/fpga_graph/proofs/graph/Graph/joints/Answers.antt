use Rattle.std.proofs.Common.{List, ◌∙◌, sym, subst}
use Rattle.fpga_types.specs.declared.grid.Wire.{Wire}
use Rattle.fpga_graph.specs.Wires.{AreJoints}
use Rattle.fpga_graph.proofs.JointLemmas.{are-joints, joined-around}
use Rattle.fpga_graph.proofs.graph.Graph.joints.Goals as goal

pub returns-clause-listed : goal.returns-clause-listed
returns-clause-listed c = c.joints_around.ensures
    ∙ joined-around c.args.self.now c.args.wire c.requires.cell

pub returns-clause-joints : goal.returns-clause-joints
returns-clause-joints c =
    let listed = c.joints_around.ensures
    ∙ joined-around c.args.self.now c.args.wire c.requires.cell in
    subst (λ (ws : List Wire). AreJoints c.args.self.now c.args.wire ws) (sym listed)
    (are-joints c.args.self.now c.args.wire c.requires.cell)
