use Rattle.std.proofs.Common.{◌<◌, List, length, subst, sym}
use Rattle.fpga_types.specs.Problem.{RoutingProblem}
use Rattle.fpga_types.specs.Slots.{slots}
use Rattle.sat_clause.specs.Literal.{Clause}
use Rattle.route_encode.specs.Adding.{Adds, HasRoom}
use Rattle.route_encode.proofs.AddLemmas.{below-more, below-room}
use Rattle.route_reach.specs.Encoding.{frame_of, starts_at_source}
use Rattle.route_reach.proofs.StartLemmas.{starts-marked}
use Rattle.route_reach.proofs.starts.add_starts.Goals as goal

pub add_unmarked-requires-clause-room : goal.add_unmarked-requires-clause-room
add_unmarked-requires-clause-room c =
    let p : RoutingProblem = c.args.problem.now in
    let low : c.loop-slot.slot < length (slots p.route) =
    rw c.slots.ensures.value at c.loop-slot-test.true in
    let same = starts-marked c.args.width c.args.variables.reach p c.loop-slot.slot
    c.args.variables.wires c.args.graph.now c.requires.graph c.source_row_of-row.result
    c.source_row_of-row.ensures c.requires.wires in
    subst (HasRoom c.loop-slot.formula) same
    (below-room (starts_at_source (frame_of c.args.width c.args.variables.reach p) p.route)
    (length (slots p.route)) c.loop-slot.slot low _ _ c.requires.room c.loop-slot.invariant)

pub loop-slot-preserved : goal.loop-slot-preserved
loop-slot-preserved c =
    let p : RoutingProblem = c.args.problem.now in
    let low : c.loop-slot.slot < length (slots p.route) =
    rw c.slots.ensures.value at c.loop-slot-test.true in
    let same = starts-marked c.args.width c.args.variables.reach p c.loop-slot.slot
    c.args.variables.wires c.args.graph.now c.requires.graph c.source_row_of-row.result
    c.source_row_of-row.ensures c.requires.wires in
    below-more (starts_at_source (frame_of c.args.width c.args.variables.reach p) p.route)
    (length (slots p.route)) c.loop-slot.slot low _ _ _ c.loop-slot.invariant
    (subst (λ (cs : List Clause). Adds c.loop-slot.formula cs c.add_unmarked.new.formula)
    (sym same) c.add_unmarked.ensures)
