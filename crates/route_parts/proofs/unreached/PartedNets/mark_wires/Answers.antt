use Rattle.std.proofs.Common.{◌≡◌, ◌++◌, List, ℕ, arith, length, length-set, ◌∙◌, subst, ap, take}
use Rattle.std.proofs.Math.Seq.{take-length}
use Rattle.fpga_types.specs.declared.grid.Wire.{Wire}
use Rattle.route_parts.specs.Marks.{AreMarked, graph_in}
use Rattle.route_parts.proofs.MarkLemmas.{marked-next}
use Rattle.route_parts.proofs.unreached.PartedNets.mark_wires.Goals as goal

pub loop-wire-preserved : goal.loop-wire-preserved
loop-wire-preserved c = record {
  each = length-set c.loop-wire.marks.items _ _ ∙ c.loop-wire.invariant.each;
  marked = λ others was.
      marked-next (graph_in c.args.self.now) c.args.self.now.parts.table.items c.args.wires.now
      c.loop-wire.wire-index _ c.loop-wire.marks.items c.part.result c.part.ensures.part
      c.loop-wire-test.true
      (omega (arith, c.part.ensures.within, c.loop-wire.invariant.each, c.requires.each)) others
      (c.loop-wire.invariant.marked others was);
}

pub returns-clause-marked : goal.returns-clause-marked
returns-clause-marked c =
    let all : c.loop-wire.wire-index ≡ length c.args.wires.now =
    omega (arith, c.loop-wire-test.false, c.loop-wire.auto) in
    subst (λ (ws : List Wire). (others : List Wire)
    → AreMarked (graph_in c.args.self.now) c.args.self.now.parts.table.items others
    c.args.marks.now.items
    → AreMarked (graph_in c.args.self.now) c.args.self.now.parts.table.items (others ++ ws)
    c.loop-wire.marks.items)
    (ap (λ (n : ℕ). take n c.args.wires.now) all ∙ take-length c.args.wires.now)
    c.loop-wire.invariant.marked
