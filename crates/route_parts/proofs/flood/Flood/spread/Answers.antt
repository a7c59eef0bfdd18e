use Rattle.std.proofs.Common.{ℕ, List, refl, sym, ◌∙◌, subst, arith}
use Rattle.fpga_graph.specs.GraphOf.{GraphOf}
use Rattle.fpga_graph.specs.Wires.{IsWire}
use Rattle.fpga_types.specs.declared.grid.Wire.{Wire}
use Rattle.route_parts.specs.Links.{graph_of}
use Rattle.route_parts.proofs.FloodLemmas.{first-ahead, flooding-spread, joined-all, joined-more, joint-joined, keeps-all, keeps-both, taken}
use Rattle.route_parts.proofs.LinkLemmas.{joined-wire}
use Rattle.route_parts.proofs.flood.Flood.spread.Goals as goal

pub joints-requires : goal.joints-requires
joints-requires c =
    let own = first-ahead (graph_of c.args.wires.now) c.args.part c.args.self.now.table.items
    c.args.wire c.args.self.now.ahead.items c.requires.flooding in
    subst (λ (g : GraphOf). IsWire g c.args.wire) (sym c.graph.ensures) own.0

pub loop-joint-init : goal.loop-joint-init
loop-joint-init c = record {
  flooding = c.requires.flooding;
  joined = λ k d low. absurd (omega (arith, low));
  keeps = keeps-all c.args.self.now.table.items;
  left = refl;
}

pub take-requires-clause-wire : goal.take-requires-clause-wire
take-requires-clause-wire c =
    let g : GraphOf = graph_of c.args.wires.now in
    let w : Wire = c.args.wire in
    let v : Wire = c.joint.inside.wire in
    let own = first-ahead g c.args.part c.loop-joint.self.table.items w
    c.loop-joint.self.ahead.items c.loop-joint.invariant.flooding in
    joined-wire g w v own.0
    (joint-joined g c.graph.result w c.joints.result.items c.as_slice-joint-items.result.now
    c.graph.ensures c.joints.ensures.joints c.as_slice-joint-items.ensures.value
    c.loop-joint.joint-index v c.joint-item.result c.loop-joint-test.true c.joint.view_is
    c.joint-item.is)

pub take-requires-clause-size : goal.take-requires-clause-size
take-requires-clause-size c = c.loop-joint.invariant.flooding.size

pub loop-joint-preserved : goal.loop-joint-preserved
loop-joint-preserved c =
    let g : GraphOf = graph_of c.args.wires.now in
    let w : Wire = c.args.wire in
    let v : Wire = c.joint.inside.wire in
    let slice : List Wire = c.as_slice-joint-items.result.now in
    let old : List ℕ = c.loop-joint.self.table.items in
    let new : List ℕ = c.take.new.self.table.items in
    let joined = joint-joined g c.graph.result w c.joints.result.items slice c.graph.ensures
    c.joints.ensures.joints c.as_slice-joint-items.ensures.value c.loop-joint.joint-index v
    c.joint-item.result c.loop-joint-test.true c.joint.view_is c.joint-item.is in
    let given = taken g c.args.part w v old c.loop-joint.self.ahead.items
    c.loop-joint.invariant.flooding c.requires.part joined new c.take.new.self.ahead.items
    c.in_ok-take.ensures in
    record {
      flooding = given.flooding;
      joined = joined-more g c.graph.result w c.joints.result.items slice c.graph.ensures
          c.joints.ensures.joints c.as_slice-joint-items.ensures.value c.args.part old new
          c.loop-joint.joint-index v c.joint-item.result c.requires.part given.keeps
          c.loop-joint-test.true c.joint.view_is c.joint-item.is given.joined
          c.loop-joint.invariant.joined;
      keeps = keeps-both c.args.self.now.table.items old new c.loop-joint.invariant.keeps
          given.keeps;
      left = given.left ∙ c.loop-joint.invariant.left;
    }

pub returns-clause-flooding : goal.returns-clause-flooding
returns-clause-flooding c =
    let g : GraphOf = graph_of c.args.wires.now in
    let table : List ℕ = c.loop-joint.self.table.items in
    flooding-spread g c.args.part table c.loop-joint.self.ahead.items c.args.wire
    c.loop-joint.invariant.flooding
    (joined-all g c.graph.result c.args.wire c.joints.result.items
    c.as_slice-joint-items.result.now c.graph.ensures c.joints.ensures.joints
    c.as_slice-joint-items.ensures.value c.args.part table c.loop-joint.joint-index
    c.loop-joint-test.false c.loop-joint.invariant.joined)

pub returns-clause-keeps : goal.returns-clause-keeps
returns-clause-keeps c = c.loop-joint.invariant.keeps

pub returns-clause-left : goal.returns-clause-left
returns-clause-left c = c.loop-joint.invariant.left
