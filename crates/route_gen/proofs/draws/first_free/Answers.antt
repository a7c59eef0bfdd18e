use Rattle.std.proofs.Common.{◌≡◌, ◌-◌, true, sym, ap, ◌∙◌, arith}
use Rattle.route_gen.specs.Draws.{entry, has_room}
use Rattle.route_gen.proofs.RangeLemmas.{entry-is, find-none, find-range}
use Rattle.route_gen.proofs.draws.first_free.Goals as goal

pub returns-then-have_room : goal.returns-then-have_room
returns-then-have_room c =
    let inside = c.loop-block-test.true in
    let least = c.loop-block.auto.block in
    let item = entry-is c.args.inputs.now c.loop-block.block c.index-inputs-block.result
    (omega arith) c.index-inputs-block.is in
    let here : has_room (entry c.args.inputs.now c.loop-block.block) ≡ true
    = ap has_room item ∙ sym c.have_room.ensures ∙ c.if-have_room.true in
    sym (find-range (λ block. has_room (entry c.args.inputs.now block)) c.args.from
    (c.args.to - c.args.from) c.loop-block.block (omega arith) (omega arith)
    c.loop-block.invariant here)

pub returns : goal.returns
returns c = grind (arith, find-none)
