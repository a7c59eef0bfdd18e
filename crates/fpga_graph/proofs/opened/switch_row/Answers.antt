use Rattle.std.proofs.Common.{◌<◌, length-set, ◌∙◌, arith, refl}
use Rattle.std.proofs.Math.Nat.{mod-lt}
use Rattle.fpga_types.specs.Boxes.{switch_track}
use Rattle.fpga_graph.proofs.MarkLemmas.{marked-more, unmarked}
use Rattle.fpga_graph.proofs.opened.switch_row.Goals as goal

pub loop-k-init : goal.loop-k-init
loop-k-init c = record { size = refl; marked = unmarked 64 }

pub loop-k-preserved : goal.loop-k-preserved
loop-k-preserved c =
    let within : switch_track c.args.width c.args.count c.args.number c.loop-k.k < c.args.width =
    mod-lt _ (omega arith) in
    record {
      size = length-set c.loop-k.row _ _ ∙ c.loop-k.invariant.size;
      marked = marked-more (switch_track c.args.width c.args.count c.args.number) c.loop-k.k
          c.loop-k.row (omega arith) c.loop-k.invariant.marked;
    }
