use Rattle.std.proofs.Common.{◌≡◌, ◌<◌, ◌∙◌, ℕ, List, ap, arith, length, subst, sym}
use Rattle.std.specs.Prelude.{flat_map}
use Rattle.fpga_types.specs.Problem.{RoutingProblem}
use Rattle.fpga_types.specs.Slots.{slots}
use Rattle.sat_clause.specs.Literal.{Clause}
use Rattle.route_encode.specs.Adding.{Adds, HasRoom}
use Rattle.route_encode.specs.Encoding.{below}
use Rattle.route_encode.proofs.AddLemmas.{below-more, below-room}
use Rattle.route_reach.specs.Near.{near_of}
use Rattle.route_reach.specs.WireClauses.{slot_comes}
use Rattle.route_reach.proofs.NearbyLemmas.{comes-for, near-within, table-long, table-row}
use Rattle.route_reach.proofs.nearby.add_nearby.Goals as goal

pub bounds-table-slot : goal.bounds-table-slot
bounds-table-slot c =
    let p : RoutingProblem = c.args.problem.now in
    let low : c.loop-slot.slot < length (slots p.route) =
    rw c.slots.ensures.value at c.loop-slot-test.true in
    omega (arith, low, table-long p.route c.args.table.now c.requires.table)

pub add_slot_nearby-requires-clause-near : goal.add_slot_nearby-requires-clause-near
add_slot_nearby-requires-clause-near c =
    let p : RoutingProblem = c.args.problem.now in
    let low : c.loop-slot.slot < length (slots p.route) =
    rw c.slots.ensures.value at c.loop-slot-test.true in
    let row = table-row p.route c.args.table.now c.loop-slot.slot c.index-table-slot.result
    c.requires.table low c.index-table-slot.is in
    rw (c.slots-in-loop-slot.ensures.value, c.as_slice-near.ensures.value, row)
    (near-within p.route c.loop-slot.slot)

pub add_slot_nearby-requires-clause-room : goal.add_slot_nearby-requires-clause-room
add_slot_nearby-requires-clause-room c =
    let p : RoutingProblem = c.args.problem.now in
    let wires : ℕ = c.args.variables.wires in
    let reach : ℕ = c.args.variables.reach in
    let low : c.loop-slot.slot < length (slots p.route) =
    rw c.slots.ensures.value at c.loop-slot-test.true in
    let row = table-row p.route c.args.table.now c.loop-slot.slot c.index-table-slot.result
    c.requires.table low c.index-table-slot.is in
    let each : ℕ → List Clause = λ s. slot_comes wires reach c.args.graph.now (slots p.route)
    (near_of p.route s) s in
    let whole = comes-for c.args.width reach p wires c.args.graph.now c.requires.graph
    c.requires.wires in
    rw (c.slots-in-loop-slot.ensures.value, c.as_slice-near.ensures.value, row)
    (below-room each (length (slots p.route)) c.loop-slot.slot low _ _
    (subst (HasRoom c.args.formula.now) whole c.requires.room) c.loop-slot.invariant)

pub loop-slot-preserved : goal.loop-slot-preserved
loop-slot-preserved c =
    let p : RoutingProblem = c.args.problem.now in
    let wires : ℕ = c.args.variables.wires in
    let reach : ℕ = c.args.variables.reach in
    let low : c.loop-slot.slot < length (slots p.route) =
    rw c.slots.ensures.value at c.loop-slot-test.true in
    let row = table-row p.route c.args.table.now c.loop-slot.slot c.index-table-slot.result
    c.requires.table low c.index-table-slot.is in
    let each : ℕ → List Clause = λ s. slot_comes wires reach c.args.graph.now (slots p.route)
    (near_of p.route s) s in
    let added : Adds c.loop-slot.formula (each c.loop-slot.slot) c.add_slot_nearby.new.formula =
    rw (
      c.slots-in-loop-slot.ensures.value,
      c.as_slice-near.ensures.value,
      row,
    ) at c.add_slot_nearby.ensures in
    below-more each (length (slots p.route)) c.loop-slot.slot low _ _ _ c.loop-slot.invariant added

pub returns : goal.returns
returns c =
    let p : RoutingProblem = c.args.problem.now in
    let wires : ℕ = c.args.variables.wires in
    let reach : ℕ = c.args.variables.reach in
    let each : ℕ → List Clause = λ s. slot_comes wires reach c.args.graph.now (slots p.route)
    (near_of p.route s) s in
    let whole = comes-for c.args.width reach p wires c.args.graph.now c.requires.graph
    c.requires.wires in
    let last : c.loop-slot.slot ≡ length c.slots.result.now = omega arith in
    let end : c.loop-slot.slot ≡ length (slots p.route) = last ∙ ap length c.slots.ensures.value in
    subst (λ cs. Adds c.args.formula.now cs c.loop-slot.formula) (sym whole)
    (subst (λ (n : ℕ). Adds c.args.formula.now (flat_map each (below n)) c.loop-slot.formula) end
    c.loop-slot.invariant)
