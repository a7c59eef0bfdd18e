use Rattle.fpga_net.proofs.EndLemmas.{finished}
use Rattle.fpga_net.proofs.draft.Draft.netlist.Goals as goal

pub returns : goal.returns
returns c =
    let kept = rw (← c.self.view_is) at c.requires in
    rw (
      c.of.ensures,
      c.of-2.ensures,
      c.in_ok-nets.ensures,
      c.in_ok-blocks.ensures,
      c.names.ensures,
      c.deref.ensures.value,
      ← c.self.view_is,
    ) (finished _ kept)
