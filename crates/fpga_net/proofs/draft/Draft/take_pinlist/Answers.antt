use Rattle.std.proofs.Common.{◌≡◌, length, map, ap, ◌∙◌}
use Rattle.fpga_net.specs.NetUses.{use_said}
use Rattle.fpga_net.specs.Uses.{ListedBlock, block_uses, is_logic}
use Rattle.fpga_net.specs.Codes.{listed}
use Rattle.fpga_net.proofs.DraftLemmas.{refused-pinlist, takes-pinlist}
use Rattle.fpga_net.proofs.draft.Draft.take_pinlist.Goals as goal
use Rattle.fpga_net.proofs.draft.Draft.take_pinlist.Goals.{In-Ok-uses}

-- the nets on the pins of the block
own : (c : In-Ok-uses) → map use_said c.in-Ok-uses.uses.items
    ≡ block_uses c.self.inside.arch.now (length c.self.inside.blocks.items)
    (listed c.args.line.now.words c.in-Ok.ensures.ok.begun)
own c = c.in-Ok-uses.ensures
    ∙ (λ i. block_uses c.self.inside.arch.now ((c.len-count.ensures ∙ c.self.inside.blocks.ok.0) i)
    (c.in-Ok.ensures.ok.is i))

pub returns-in-Err-connect-clause-err : goal.returns-in-Err-connect-clause-err
returns-in-Err-connect-clause-err c =
    let kept = rw (← c.self.view_is) at c.requires in
    let lists = rw (← c.self.view_is) at c.in-Ok.ensures.ok in
    rw (← c.self.view_is) (refused-pinlist _ c.args.number c.args.line.now.words lists.begun
    c.in-Err-connect.fault kept lists.was lists.whole
    (rw (c.deref.ensures.value, own (goal.at.returns-in-Err-connect-clause-err c).In-Ok-uses)
    at c.in-Err-connect.ensures.err))

pub returns-clause-ok : goal.returns-clause-ok
returns-clause-ok c =
    let kept = rw (← c.self.view_is) at c.requires in
    let lists = rw (← c.self.view_is) at c.in-Ok.ensures.ok in
    let logic = c.is_logic-self-inside.ensures
    ∙ ap (λ (b : ListedBlock). is_logic b.kind) lists.is in
    rw (← c.self.view_is, logic, c.in-Ok-push.ensures.items, lists.is)
    (takes-pinlist _ c.args.number c.args.line.now.words lists.begun c.connect.new.self kept
    lists.was lists.whole
    (rw (c.deref.ensures.value, own (goal.at.returns-clause-ok c).In-Ok-uses)
    at c.in-Ok-connect.ensures.ok))
