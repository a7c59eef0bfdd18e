use Rattle.std.proofs.Common.{◌*◌, ◌≤◌, List, ap, arith, length, sym}
use Rattle.fpga_bounds.proofs.PairLemmas.{slots-distinct}
use Rattle.fpga_graph.specs.GraphOf.{GraphOf}
use Rattle.fpga_types.specs.Problem.{RoutingProblem}
use Rattle.fpga_types.specs.Slots.{slots}
use Rattle.fpga_types.specs.declared.limits.TheConstants.{SLOT_LIMIT}
use Rattle.fpga_types.specs.declared.problem.Slot.{Slot}
use Rattle.route_encode.proofs.AddLemmas.{room-reserved}
use Rattle.route_reach.specs.Encoding.{Frame, frame_of, reach_encoding}
use Rattle.route_reach.specs.Near.{rows_of}
use Rattle.route_reach.proofs.NearbyLemmas.{table-long}
use Rattle.route_reach.proofs.TableLemmas.{slot-on_grid}
use Rattle.route_reach.proofs.TallyLemmas.{clauses-told, lits-told, vars-told}
use Rattle.route_reach.proofs.build.reach_build.Goals as goal

pub new-requires-2-clause-distinct : goal.new-requires-2-clause-distinct
new-requires-2-clause-distinct c =
    rw c.slots-slots.ensures.value (slots-distinct c.args.problem.now.route)

pub new-requires-2-clause-on_grid : goal.new-requires-2-clause-on_grid
new-requires-2-clause-on_grid c =
    rw (c.slots-slots.ensures.value, c.route-2.ensures.value)
    (slot-on_grid c.args.problem.now.route c.route-2.ensures.given.route)

pub invariant_of-variables : goal.invariant_of-variables
invariant_of-variables c = record {
  few_joins = c.requires.reach.1;
  few = rw c.slots-slots.ensures.value (omega (
    arith,
    vars-told c.args.width c.args.reach c.args.problem.now c.requires.reach.0,
    c.requires.few,
  ));
}

pub near_count-requires : goal.near_count-requires
near_count-requires c =
    let p : RoutingProblem = c.args.problem.now in
    let few : length (slots p.route) ≤ SLOT_LIMIT =
    rw c.slots-slots.ensures.value at c.slots-slots.ensures.limit in
    let long = table-long p.route c.in_ok-table.table.items c.in_ok-table.ensures in
    rw c.deref.ensures.value (omega (arith, few, long))

pub overflow_cast-clauses : goal.overflow_cast-clauses
overflow_cast-clauses c =
    let told = clauses-told c.args.width c.args.reach c.args.problem.now _ _ _ _
    c.tally-size.ensures.sinks (c.tally-size.ensures.far c.args.reach) c.tally-size.ensures.wires
    c.tally-size.ensures.shared in
    omega (arith, c.clauses.ensures, told, c.requires.few)

pub reserve-requires-clause-few_clauses : goal.reserve-requires-clause-few_clauses
reserve-requires-clause-few_clauses c =
    let told = clauses-told c.args.width c.args.reach c.args.problem.now _ _ _ _
    c.tally-size.ensures.sinks (c.tally-size.ensures.far c.args.reach) c.tally-size.ensures.wires
    c.tally-size.ensures.shared in
    rw c.new-formula.ensures (omega (arith, c.clauses.ensures, told, c.requires.few))

pub invariant_of-sinks : goal.invariant_of-sinks
invariant_of-sinks c = record {
  few_tracks = c.requires.width.1;
  tracks = ap (λ (g : GraphOf). g.width) c.new-graph.ensures;
  wires = ap (λ (ss : List Slot). length ss * c.args.width) (sym c.in_ok-numbers.ensures);
  distinct = rw (c.in_ok-numbers.ensures, c.slots-slots.ensures.value)
      (slots-distinct c.args.problem.now.route);
}

pub add_clauses-requires-clause-room : goal.add_clauses-requires-clause-room
add_clauses-requires-clause-room c =
    let p : RoutingProblem = c.args.problem.now in
    let f : Frame = frame_of c.args.width c.args.reach p in
    let told = clauses-told c.args.width c.args.reach p _ _ _ _
    c.tally-size.ensures.sinks (c.tally-size.ensures.far c.args.reach) c.tally-size.ensures.wires
    c.tally-size.ensures.shared in
    let near = rw c.deref.ensures.value at c.near_count.ensures.value in
    let lits = lits-told c.args.width c.args.reach p _ _ _ _
    c.tally-size.ensures.sinks (c.tally-size.ensures.far c.args.reach) c.tally-size.ensures.wires
    c.tally-size.ensures.shared c.near_count.result (rows_of c.in_ok-table.table.items)
    near c.in_ok-table.ensures in
    room-reserved c.new-formula.result c.reserve.new.self _ c.clauses.result c.lits-lits.result
    (reach_encoding f p.route) c.in_ok-reserve.ensures.ok (omega (arith, c.clauses.ensures, told))
    (omega (arith, c.lits-lits.ensures, lits))
