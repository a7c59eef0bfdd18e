use Rattle.std.proofs.Common.{◌<◌, ℕ, length, get_or, arith}
use Rattle.std.proofs.lemmas.List.{get_or_default}
use Rattle.route_ordered.proofs.AddingLemmas.{slot-added, slot-room, slots-all}
use Rattle.route_ordered.proofs.adding.add_precedence.Goals as goal

pub add_slot-requires-clause-room : goal.add_slot-requires-clause-room
add_slot-requires-clause-room c =
    let at : ℕ = c.loop-at.at in
    let low : at < length c.args.row.now = omega arith in
    slot-room c.args.pattern c.args.variables.width c.args.row.now at (get_or c.args.row.now at 0)
    low (get_or_default c.args.row.now at 0 (get_or c.args.row.now at 0) low)
    c.args.formula.now c.loop-at.formula c.requires.room c.loop-at.invariant

pub loop-at-preserved : goal.loop-at-preserved
loop-at-preserved c =
    let at : ℕ = c.loop-at.at in
    let low : at < length c.args.row.now = omega arith in
    slot-added c.args.pattern c.args.variables.width c.args.row.now at
    (get_or c.args.row.now at 0) low
    (get_or_default c.args.row.now at 0 (get_or c.args.row.now at 0) low)
    c.args.formula.now c.loop-at.formula c.add_slot.new.formula c.loop-at.invariant
    c.in_ok-add_slot.ensures

pub returns : goal.returns
returns c =
    slots-all c.args.pattern c.args.variables.width c.args.row.now c.args.formula.now
    c.loop-at.formula c.loop-at.at (omega arith) c.loop-at.invariant
