use Rattle.std.proofs.Common.{◌≡◌, ◌+◌, ◌∙◌, ℕ, List, Some, ap, arith, length, refl, subst, sym, take}
use Rattle.std.specs.Prelude.{flat_map, slice_get}
use Rattle.std.proofs.Math.Seq.{take-length}
use Rattle.std.proofs.lemmas.Option.{slice_get_read}
use Rattle.fpga_types.specs.Problem.{RoutingProblem}
use Rattle.fpga_types.specs.Slots.{numbered_nets}
use Rattle.fpga_types.specs.declared.route.RouteNet.{RouteNet}
use Rattle.fpga_types.specs.declared.route.RouteText.{RouteText}
use Rattle.sat_clause.specs.FormulaStore.{FormulaState}
use Rattle.sat_clause.specs.Literal.{Clause}
use Rattle.route_encode.specs.Adding.{Adds, HasRoom}
use Rattle.route_encode.proofs.AddLemmas.{adds-none}
use Rattle.route_reach.specs.Encoding.{Frame, frame_of, sinks_reached}
use Rattle.route_reach.proofs.PinLines.{ins-known}
use Rattle.route_reach.proofs.SinkLemmas.{adds-at, length-numbered, lines-for, numbered-at, room-at, sinks-none}
use Rattle.route_reach.proofs.sinks.SinkReach.add_sinks.Goals as goal
use Rattle.route_reach.proofs.sinks.SinkReach.add_sinks.Goals.{then-not-net, else-not-net}

pub add_lines-requires-clause-pins : goal.add_lines-requires-clause-pins
add_lines-requires-clause-pins c =
    let p : RoutingProblem = c.args.problem.now in
    let net : RouteNet = c.index-nets-n.result in
    let nets = c.as_slice-nets.ensures ∙ ap (λ (r : RouteText). r.nets) c.route.ensures.value in
    let low = rw nets at c.loop-n-test.true in
    let at = rw nets at c.index-nets-n.is in
    let here : slice_get p.route.nets c.loop-n.n ≡ Some net =
    slice_get_read p.route.nets (length p.route.nets) c.loop-n.n net refl low at in
    rw (c.requires.graph, c.as_slice.ensures)
    (ins-known p c.route.ensures.fits c.loop-n.n net here)

pub add_lines-requires-clause-room : goal.add_lines-requires-clause-room
add_lines-requires-clause-room c =
    let p : RoutingProblem = c.args.problem.now in
    let net : RouteNet = c.index-nets-n.result in
    let width : ℕ = c.args.self.now.width in
    let reach : ℕ = c.args.self.now.variables.reach in
    let f : Frame = frame_of width reach p in
    let nets = c.as_slice-nets.ensures ∙ ap (λ (r : RouteText). r.nets) c.route.ensures.value in
    let low = rw nets at c.loop-n-test.true in
    let at = rw nets at c.index-nets-n.is in
    let here : slice_get p.route.nets c.loop-n.n ≡ Some net =
    slice_get_read p.route.nets (length p.route.nets) c.loop-n.n net refl low at in
    let same = lines-for width reach p c.args.self.now.variables.wires c.args.self.now.graph.now
    c.args.self.now.numbers.now c.loop-n.n net c.requires.graph c.requires.numbers
    c.args.self.now.wires c.if-not-net.true in
    rw c.as_slice.ensures (subst (HasRoom c.loop-n.formula) same
    (room-at (sinks_reached f) (numbered_nets p.route) c.loop-n.n (c.loop-n.n, net)
    (numbered-at p.route c.loop-n.n net here) c.args.formula.now c.loop-n.formula
    c.loop-n.invariant c.requires.room))

pub loop-n-preserved : goal.loop-n-preserved
loop-n-preserved c =
    let p : RoutingProblem = c.args.problem.now in
    let net : RouteNet = c.index-nets-n.result in
    let width : ℕ = c.args.self.now.width in
    let reach : ℕ = c.args.self.now.variables.reach in
    let f : Frame = frame_of width reach p in
    let nets = c.as_slice-nets.ensures ∙ ap (λ (r : RouteText). r.nets) c.route.ensures.value in
    let low = rw nets at c.loop-n-test.true in
    let at = rw nets at c.index-nets-n.is in
    let here : slice_get p.route.nets c.loop-n.n ≡ Some net =
    slice_get_read p.route.nets (length p.route.nets) c.loop-n.n net refl low at in
    let more = adds-at (sinks_reached f) (numbered_nets p.route) c.loop-n.n (c.loop-n.n, net)
    (numbered-at p.route c.loop-n.n net here) c.args.formula.now c.loop-n.formula
    c.loop-n.invariant in
    let Added : FormulaState → Type 0 = λ after. Adds c.args.formula.now
    (flat_map (sinks_reached f) (take (c.loop-n.n + 1) (numbered_nets p.route))) after in
    elim c.if-not-net.branch [
      | then-not-net w ↦
          (let same = lines-for width reach p c.args.self.now.variables.wires
          c.args.self.now.graph.now c.args.self.now.numbers.now c.loop-n.n net c.requires.graph
          c.requires.numbers c.args.self.now.wires w.if-not-net.true in
          let added = rw w.as_slice.ensures at w.add_lines.ensures in
          subst Added (sym w.formula-is) (more w.add_lines.new.formula
          (subst (λ (cs : List Clause). Adds c.loop-n.formula cs w.add_lines.new.formula)
          (sym same) added)))
      | else-not-net w ↦
          (let none = sinks-none f c.loop-n.n net w.if-not-net.false in
          subst Added (sym w.formula-is) (more c.loop-n.formula
          (subst (λ (cs : List Clause). Adds c.loop-n.formula cs c.loop-n.formula) (sym none)
          (adds-none c.loop-n.formula))))
    ]

pub returns : goal.returns
returns c =
    let p : RoutingProblem = c.args.problem.now in
    let f : Frame = frame_of c.args.self.now.width c.args.self.now.variables.reach p in
    let nets = c.as_slice-nets.ensures ∙ ap (λ (r : RouteText). r.nets) c.route.ensures.value in
    let end : c.loop-n.n ≡ length c.as_slice-nets.result.now = omega arith in
    let all : c.loop-n.n ≡ length (numbered_nets p.route) =
    end ∙ ap length nets ∙ sym (length-numbered 0 p.route.nets) in
    subst (λ ns. Adds c.args.formula.now (flat_map (sinks_reached f) ns) c.loop-n.formula)
    (ap (λ (k : ℕ). take k (numbered_nets p.route)) all ∙ take-length (numbered_nets p.route))
    c.loop-n.invariant
