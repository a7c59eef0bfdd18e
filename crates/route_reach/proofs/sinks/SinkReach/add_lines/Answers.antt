use Rattle.std.proofs.Common.{◌≡◌, ◌+◌, ◌-◌, ◌≤◌, ℕ, List, arith, subst, take}
use Rattle.std.specs.Prelude.{filter_map, flat_map}
use Rattle.list_laws.proofs.Members.{In-all, In-filter_map}
use Rattle.list_laws.proofs.Places.{get-In}
use Rattle.fpga_types.specs.Pins.{HasPin}
use Rattle.fpga_types.specs.Slots.{adjacent}
use Rattle.fpga_types.specs.declared.route.Elem.{Elem}
use Rattle.fpga_bounds.proofs.LineLemmas.{NO_ELEM}
use Rattle.sat_clause.specs.Literal.{Clause}
use Rattle.route_encode.specs.Adding.{Adds}
use Rattle.route_reach.specs.Ends.{sink_pin}
use Rattle.route_reach.specs.SinkClauses.{line_clauses}
use Rattle.route_reach.proofs.SinkLemmas.{adds-at, pair-at, room-at, whole-adjacent}
use Rattle.route_reach.proofs.sinks.SinkReach.add_lines.Goals as goal

pub add_line-requires-clause-pin : goal.add_line-requires-clause-pin
add_line-requires-clause-pin c = λ pin is.
    let elems : List Elem = c.args.elems.now in
    let here = pair-at elems c.loop-i.i NO_ELEM c.loop-i.auto.i c.loop-i-test.true in
    In-all (HasPin c.args.self.now.graph.now.arch) (filter_map sink_pin (adjacent elems)) pin
    c.requires.pins (In-filter_map sink_pin (adjacent elems) _ pin
    (get-In (adjacent elems) (c.loop-i.i - 1) _ here) is)

pub add_line-requires-clause-room : goal.add_line-requires-clause-room
add_line-requires-clause-room c =
    let elems : List Elem = c.args.elems.now in
    let here = pair-at elems c.loop-i.i NO_ELEM c.loop-i.auto.i c.loop-i-test.true in
    room-at (line_clauses c.args.self.now.variables.wires c.args.self.now.variables.reach
    c.args.self.now.graph.now c.args.self.now.numbers.now c.args.net) (adjacent elems)
    (c.loop-i.i - 1) _ here _ _ c.loop-i.invariant c.requires.room

pub loop-i-preserved : goal.loop-i-preserved
loop-i-preserved c =
    let elems : List Elem = c.args.elems.now in
    let each : Elem × Elem → List Clause = line_clauses c.args.self.now.variables.wires
    c.args.self.now.variables.reach c.args.self.now.graph.now c.args.self.now.numbers.now
    c.args.net in
    let here = pair-at elems c.loop-i.i NO_ELEM c.loop-i.auto.i c.loop-i-test.true in
    let some : 1 ≤ c.loop-i.i = c.loop-i.auto.i in
    let next : c.loop-i.i - 1 + 1 ≡ c.loop-i.i + 1 - 1 = omega (arith, some) in
    subst (λ (k : ℕ). Adds c.args.formula.now (flat_map each (take k (adjacent elems)))
    c.add_line.new.formula) next
    (adds-at each (adjacent elems) (c.loop-i.i - 1) _ here _ _ c.loop-i.invariant _
    c.add_line.ensures)

pub returns : goal.returns
returns c =
    let elems : List Elem = c.args.elems.now in
    let each : Elem × Elem → List Clause = line_clauses c.args.self.now.variables.wires
    c.args.self.now.variables.reach c.args.self.now.graph.now c.args.self.now.numbers.now
    c.args.net in
    subst (λ (qs : List (Elem × Elem)). Adds c.args.formula.now (flat_map each qs)
    c.loop-i.formula) (whole-adjacent elems c.loop-i.i c.loop-i-test.false) c.loop-i.invariant
