use Rattle.std.proofs.Common.{arith}
use Rattle.route_pinned.proofs.PinClauses.{added-all, added-at, room-at}
use Rattle.route_pinned.proofs.pin_clauses.add_row.Goals as goal

pub add_clause-requires-clause-room : goal.add_clause-requires-clause-room
add_clause-requires-clause-room c =
    rw c.has.ensures.value
    (room-at c.args.variables.width c.args.row.now c.args.formula.now c.loop-track.formula
    c.loop-track.track (omega arith) c.requires.room c.loop-track.invariant)

pub loop-track-preserved : goal.loop-track-preserved
loop-track-preserved c =
    added-at c.args.variables.width c.args.row.now c.args.formula.now c.loop-track.formula
    c.add_clause.new.formula c.loop-track.track (omega arith) c.loop-track.invariant
    (rw c.has.ensures.value at c.add_clause.ensures)

pub returns : goal.returns
returns c =
    added-all c.args.variables.width c.args.row.now c.args.formula.now c.loop-track.formula
    c.loop-track.track (omega arith) c.loop-track.invariant
