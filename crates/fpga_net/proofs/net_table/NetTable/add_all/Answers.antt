use Rattle.fpga_text.specs.Said.{has_text}
use Rattle.fpga_net.proofs.EntryLemmas.{takes-next}
use Rattle.fpga_net.proofs.net_table.NetTable.add_all.Goals as goal

pub loop-used-preserved : goal.loop-used-preserved
loop-used-preserved c =
    takes-next (has_text c.args.globals.now) c.args.self.now c.loop-used.self c.add.new.self
    c.args.uses.now c.loop-used.used-index _ c.loop-used-test.true c.loop-used.invariant
    c.in_ok-add.ensures
