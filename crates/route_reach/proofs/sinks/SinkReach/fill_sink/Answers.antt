use Rattle.std.proofs.Common.{◌≡◌, ◌∙◌, ℕ, Bool, List, ap, arith, length, take}
use Rattle.std.specs.Prelude.{flat_map}
use Rattle.std.proofs.Math.Seq.{take-length}
use Rattle.fpga_graph.specs.GraphOf.{GraphOf}
use Rattle.fpga_types.specs.declared.problem.Slot.{Slot}
use Rattle.route_reach.specs.Near.{touched_slots}
use Rattle.route_reach.specs.SinkClauses.{slot_lits}
use Rattle.route_reach.proofs.SinkLemmas.{lits-opened, touched-within}
use Rattle.route_reach.proofs.sinks.SinkReach.fill_sink.Goals as goal

pub push_opened-requires-clause-slot : goal.push_opened-requires-clause-slot
push_opened-requires-clause-slot c =
    let g : GraphOf = c.args.self.now.graph.now in
    let all : List Slot = c.args.self.now.numbers.now in
    let same : c.as_slice-slot-items.result.now ≡ touched_slots g all c.args.net c.args.pin =
    c.as_slice-slot-items.ensures.value ∙ c.touched_slots-touched.ensures in
    let low = rw same at c.loop-slot-test.true in
    rw same (touched-within g all c.args.net c.args.pin c.loop-slot.slot-index 0 low)

pub returns-clause-clause : goal.returns-clause-clause
returns-clause-clause c =
    let g : GraphOf = c.args.self.now.graph.now in
    let all : List Slot = c.args.self.now.numbers.now in
    let wires : ℕ = c.args.self.now.variables.wires in
    let reach : ℕ = c.args.self.now.variables.reach in
    let width : ℕ = c.args.self.now.width in
    let marks : List Bool = c.opened-opened.result in
    let items : List ℕ = c.as_slice-slot-items.result.now in
    let same : items ≡ touched_slots g all c.args.net c.args.pin =
    c.as_slice-slot-items.ensures.value ∙ c.touched_slots-touched.ensures in
    let end : c.loop-slot.slot-index ≡ length items = omega arith in
    let whole : take c.loop-slot.slot-index items ≡ items =
    ap (λ (n : ℕ). take n items) end ∙ take-length items in
    c.loop-slot.invariant.lits
    ∙ ap (flat_map (slot_lits wires reach width marks)) (whole ∙ same)
    ∙ lits-opened wires reach g all c.args.net c.args.pin width marks c.args.self.now.tracks
    c.opened-opened.ensures
