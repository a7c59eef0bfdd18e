use Rattle.std.proofs.Common.{◌*◌, ◌<◌, List, length, subst, arith}
use Rattle.std.specs.Prelude.{All}
use Rattle.fpga_types.specs.Problem.{RoutingProblem}
use Rattle.fpga_types.specs.declared.problem.Slot.{Slot}
use Rattle.route_reach.proofs.NearbyLemmas.{near-within, table-long, table-row}
use Rattle.route_reach.proofs.reach_model.near_places.Goals as goal

pub bounds-table-slot : goal.bounds-table-slot
bounds-table-slot c =
    let p : RoutingProblem = c.args.problem.now in
    omega (arith, c.requires.slot, table-long p.route c.args.table.now c.requires.table)

pub wires_beside-requires-clause-near : goal.wires_beside-requires-clause-near
wires_beside-requires-clause-near c =
    let p : RoutingProblem = c.args.problem.now in
    let row = table-row p.route c.args.table.now c.args.slot c.index-table-slot.result
    c.requires.table c.requires.slot c.index-table-slot.is in
    rw (c.slots.ensures.value, c.as_slice-near.ensures.value, row) (near-within p.route c.args.slot)

pub returns-clause-listed : goal.returns-clause-listed
returns-clause-listed c =
    let p : RoutingProblem = c.args.problem.now in
    let row = table-row p.route c.args.table.now c.args.slot c.index-table-slot.result
    c.requires.table c.requires.slot c.index-table-slot.is in
    rw (c.slots.ensures.value, c.as_slice-near.ensures.value, row) at c.wires_beside.ensures.listed

pub returns-clause-within : goal.returns-clause-within
returns-clause-within c = subst (λ (ss : List Slot). All (λ b. b < length ss * c.args.width)
    c.wires_beside.result.items) c.slots.ensures.value c.wires_beside.ensures.within
