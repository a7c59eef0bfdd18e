use Rattle.std.proofs.Common.{◌≢◌, length, sym, ◌∙◌}
use Rattle.fpga_net.specs.Begun.{begun_said}
use Rattle.fpga_net.specs.declared.limits.TheConstants.{BLOCK_LIMIT}
use Rattle.fpga_net.proofs.DraftLemmas.{is_some-map, takes-block}
use Rattle.fpga_net.proofs.draft.Draft.begin_block.Goals as goal

pub returns-clause-ok : goal.returns-clause-ok
returns-clause-ok c =
    let kept = rw (← c.self.view_is) at c.requires in
    let few : length c.self.inside.names ≢ BLOCK_LIMIT =
    λ all. c.if-len-eq-BLOCK_LIMIT.false (c.len.ensures.count ∙ all) in
    rw (← c.self.view_is, c.in-Some.ensures.some, c.in-Ok.ensures.ok, ← c.if-contains.ensures)
    (takes-block _ c.args.number c.args.kind c.in-Some.name.now kept (sym c.if-contains.ensures)
    (is_some-map begun_said c.self.inside.begun ∙ sym c.if-is_some.ensures) few)
