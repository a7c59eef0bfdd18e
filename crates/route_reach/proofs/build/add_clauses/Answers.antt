use Rattle.std.proofs.Common.{◌≡◌, ◌*◌, ◌∙◌, ℕ, List, ap, length, subst, sym}
use Rattle.std.specs.Prelude.{flat_map}
use Rattle.fpga_types.specs.Problem.{RoutingProblem}
use Rattle.fpga_types.specs.Slots.{numbered_nets, pairs, slots}
use Rattle.fpga_types.specs.declared.problem.Slot.{Slot}
use Rattle.sat_clause.specs.Literal.{Clause}
use Rattle.route_encode.specs.Adding.{Adds, HasRoom}
use Rattle.route_encode.specs.Encoding.{apart_track, below}
use Rattle.route_reach.specs.Encoding.{Frame, comes_from_near, each_wire, frame_of, reached_is_used, sinks_reached, starts_at_source, stays_reached}
use Rattle.route_reach.proofs.PlaceLemmas.{fifth-room, fourth-room, six-added, sixth-room, third-room}
use Rattle.route_reach.proofs.TallyLemmas.{apart-for, stays-for, used-for}
use Rattle.route_reach.proofs.build.add_clauses.Goals as goal

-- the six families of a problem
module _ (width reach : ℕ) (p : RoutingProblem) where
  abbrev f : Frame
  f = frame_of width reach p

  abbrev sinks : List Clause
  sinks = flat_map (sinks_reached f) (numbered_nets p.route)

  abbrev starts : List Clause
  starts = flat_map (starts_at_source f p.route) (below (length (slots p.route)))

  abbrev used : List Clause
  used = each_wire f (reached_is_used f)

  abbrev stays : List Clause
  stays = each_wire f (stays_reached f)

  abbrev comes : List Clause
  comes = each_wire f (comes_from_near f)

  abbrev apart : List Clause
  apart = flat_map (apart_track width) (pairs (slots p.route))

wires-are : (wires width : ℕ) (all whole : List Slot) → wires ≡ length all * width → all ≡ whole
    → wires ≡ length whole * width
wires-are wires width all whole is same = is ∙ ap (λ (ss : List Slot). length ss * width) same

pub add_each_wire-requires-clause-room : goal.add_each_wire-requires-clause-room
add_each_wire-requires-clause-room c =
    let p : RoutingProblem = c.args.problem.now in
    let w : ℕ = c.args.sinks.now.width in
    let r : ℕ = c.args.sinks.now.variables.reach in
    let n = wires-are c.args.sinks.now.variables.wires w c.args.sinks.now.numbers.now
    (slots p.route) c.args.sinks.now.wires c.requires.numbers in
    subst (HasRoom c.add_starts.new.formula) (used-for w r p c.args.sinks.now.variables.wires n)
    (third-room (sinks w r p) (starts w r p) (used w r p) (stays w r p) (comes w r p) (apart w r p)
    c.args.formula.now c.requires.room c.add_sinks.new.formula c.add_sinks.ensures
    c.add_starts.new.formula c.add_starts.ensures)

pub add_each_wire-requires-2-clause-room : goal.add_each_wire-requires-2-clause-room
add_each_wire-requires-2-clause-room c =
    let p : RoutingProblem = c.args.problem.now in
    let w : ℕ = c.args.sinks.now.width in
    let r : ℕ = c.args.sinks.now.variables.reach in
    let wires : ℕ = c.args.sinks.now.variables.wires in
    let n = wires-are wires w c.args.sinks.now.numbers.now
    (slots p.route) c.args.sinks.now.wires c.requires.numbers in
    let f3 = subst (λ (cs : List Clause).
    Adds c.add_starts.new.formula cs c.add_each_wire.new.formula)
    (sym (used-for w r p wires n)) c.add_each_wire.ensures in
    subst (HasRoom c.add_each_wire.new.formula) (stays-for w r p wires n)
    (fourth-room (sinks w r p) (starts w r p) (used w r p) (stays w r p) (comes w r p) (apart w r p)
    c.args.formula.now c.requires.room c.add_sinks.new.formula c.add_sinks.ensures
    c.add_starts.new.formula c.add_starts.ensures c.add_each_wire.new.formula f3)

pub add_nearby-requires-clause-room : goal.add_nearby-requires-clause-room
add_nearby-requires-clause-room c =
    let p : RoutingProblem = c.args.problem.now in
    let w : ℕ = c.args.sinks.now.width in
    let r : ℕ = c.args.sinks.now.variables.reach in
    let wires : ℕ = c.args.sinks.now.variables.wires in
    let n = wires-are wires w c.args.sinks.now.numbers.now
    (slots p.route) c.args.sinks.now.wires c.requires.numbers in
    let f3 = subst (λ (cs : List Clause).
    Adds c.add_starts.new.formula cs c.add_each_wire.new.formula)
    (sym (used-for w r p wires n)) c.add_each_wire.ensures in
    let f4 = subst (λ (cs : List Clause).
    Adds c.add_each_wire.new.formula cs c.add_each_wire-2.new.formula)
    (sym (stays-for w r p wires n)) c.add_each_wire-2.ensures in
    fifth-room (sinks w r p) (starts w r p) (used w r p) (stays w r p) (comes w r p) (apart w r p)
    c.args.formula.now c.requires.room c.add_sinks.new.formula c.add_sinks.ensures
    c.add_starts.new.formula c.add_starts.ensures c.add_each_wire.new.formula f3
    c.add_each_wire-2.new.formula f4

pub add_apart_tracks-requires-clause-room : goal.add_apart_tracks-requires-clause-room
add_apart_tracks-requires-clause-room c =
    let p : RoutingProblem = c.args.problem.now in
    let w : ℕ = c.args.sinks.now.width in
    let r : ℕ = c.args.sinks.now.variables.reach in
    let wires : ℕ = c.args.sinks.now.variables.wires in
    let n = wires-are wires w c.args.sinks.now.numbers.now
    (slots p.route) c.args.sinks.now.wires c.requires.numbers in
    let f3 = subst (λ (cs : List Clause).
    Adds c.add_starts.new.formula cs c.add_each_wire.new.formula)
    (sym (used-for w r p wires n)) c.add_each_wire.ensures in
    let f4 = subst (λ (cs : List Clause).
    Adds c.add_each_wire.new.formula cs c.add_each_wire-2.new.formula)
    (sym (stays-for w r p wires n)) c.add_each_wire-2.ensures in
    rw c.requires.chains (subst (HasRoom c.add_nearby.new.formula) (apart-for w r p)
    (sixth-room (sinks w r p) (starts w r p) (used w r p) (stays w r p) (comes w r p) (apart w r p)
    c.args.formula.now c.requires.room c.add_sinks.new.formula c.add_sinks.ensures
    c.add_starts.new.formula c.add_starts.ensures c.add_each_wire.new.formula f3
    c.add_each_wire-2.new.formula f4 c.add_nearby.new.formula c.add_nearby.ensures))

pub returns : goal.returns
returns c =
    let p : RoutingProblem = c.args.problem.now in
    let w : ℕ = c.args.sinks.now.width in
    let r : ℕ = c.args.sinks.now.variables.reach in
    let wires : ℕ = c.args.sinks.now.variables.wires in
    let n = wires-are wires w c.args.sinks.now.numbers.now
    (slots p.route) c.args.sinks.now.wires c.requires.numbers in
    let f3 = subst (λ (cs : List Clause).
    Adds c.add_starts.new.formula cs c.add_each_wire.new.formula)
    (sym (used-for w r p wires n)) c.add_each_wire.ensures in
    let f4 = subst (λ (cs : List Clause).
    Adds c.add_each_wire.new.formula cs c.add_each_wire-2.new.formula)
    (sym (stays-for w r p wires n)) c.add_each_wire-2.ensures in
    let last = rw c.requires.chains at c.add_apart_tracks.ensures in
    let f6 = subst (λ (cs : List Clause). Adds c.add_nearby.new.formula cs
    c.add_apart_tracks.new.formula) (sym (apart-for w r p)) last in
    six-added (sinks w r p) (starts w r p) (used w r p) (stays w r p) (comes w r p) (apart w r p)
    c.args.formula.now c.requires.room c.add_sinks.new.formula c.add_sinks.ensures
    c.add_starts.new.formula c.add_starts.ensures c.add_each_wire.new.formula f3
    c.add_each_wire-2.new.formula f4 c.add_nearby.new.formula c.add_nearby.ensures
    c.add_apart_tracks.new.formula f6
