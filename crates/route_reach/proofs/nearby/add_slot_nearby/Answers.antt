use Rattle.std.proofs.Common.{ℕ, List}
use Rattle.fpga_graph.specs.GraphOf.{GraphOf}
use Rattle.sat_clause.specs.Literal.{Clause}
use Rattle.route_encode.specs.Adding.{Adds}
use Rattle.route_encode.specs.Encoding.{place_of}
use Rattle.route_encode.proofs.AddLemmas.{below-more, below-room}
use Rattle.route_reach.specs.WireClauses.{comes_clauses, wires_beside}
use Rattle.route_reach.proofs.nearby.add_slot_nearby.Goals as goal

pub add_comes-requires-clause-room : goal.add_comes-requires-clause-room
add_comes-requires-clause-room c =
    let g : GraphOf = c.args.graph.now in
    let track : ℕ = c.loop-track.track in
    let each : ℕ → List Clause = λ t. comes_clauses c.args.variables.wires c.args.variables.reach
    (place_of g.width c.args.slot t)
    (wires_beside g c.args.slots.now c.args.near.now c.args.slot t) in
    rw (c.as_slice.ensures.value, c.wires_beside-beside.ensures.listed, ← c.requires.width)
    (below-room each g.width track (rw c.requires.width c.loop-track-test.true) _ _ c.requires.room
    c.loop-track.invariant)

pub loop-track-preserved : goal.loop-track-preserved
loop-track-preserved c =
    let g : GraphOf = c.args.graph.now in
    let track : ℕ = c.loop-track.track in
    let each : ℕ → List Clause = λ t. comes_clauses c.args.variables.wires c.args.variables.reach
    (place_of g.width c.args.slot t)
    (wires_beside g c.args.slots.now c.args.near.now c.args.slot t) in
    let added : Adds c.loop-track.formula (each track) c.add_comes.new.formula =
    rw (
      c.as_slice.ensures.value,
      c.wires_beside-beside.ensures.listed,
      ← c.requires.width,
    ) at c.add_comes.ensures in
    below-more each g.width track (rw c.requires.width c.loop-track-test.true) _ _ _
    c.loop-track.invariant added
