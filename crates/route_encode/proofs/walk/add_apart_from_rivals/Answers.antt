use Rattle.std.proofs.Common.{◌≡◌, ◌∙◌, ◌+◌, ◌++◌, ℕ, List, [], ◌∷◌, Option, None, Some, arith, subst, sym, ap}
use Rattle.std.specs.Prelude.{filter, flat_map}
use Rattle.std.proofs.lemmas.Grind.{flat_map-append}
use Rattle.std.proofs.lemmas.List.{append-nil}
use Rattle.sat_clause.specs.Literal.{Clause}
use Rattle.fpga_types.specs.declared.problem.Slot.{Slot}
use Rattle.route_encode.specs.Adding.{Adds, HasRoom}
use Rattle.route_encode.specs.Encoding.{apart_track}
use Rattle.route_encode.specs.Rivals.{rivals_after, share_cell, slots_from}
use Rattle.route_encode.proofs.AddLemmas.{adds-both, room-first, room-second}
use Rattle.route_encode.proofs.RivalLemmas.{IsStep, IsWalked, fewer-left, walk-end, walk-step}
use Rattle.route_encode.proofs.walk.add_apart_from_rivals.Goals as goal

-- the walk goes on from a rival
on : (all : List Slot) (slot rival : ℕ) (next : Option ℕ) (done : List ℕ) → next ≡ Some rival
    → IsWalked all slot next done → IsStep all slot rival done
on all slot rival next done e h =
    walk-step all slot rival done (subst (λ (o : Option ℕ). IsWalked all slot o done) e h)

pub add_apart_track-requires-clause-within : goal.add_apart_track-requires-clause-within
add_apart_track-requires-clause-within c =
    let step =
    on c.args.chains.now c.args.slot c.in-Some.rival c.loop-next.next c.loop-next.invariant.done
    c.in-Some.is c.loop-next.invariant.walked in
    (omega (arith, c.requires.slot, c.requires.each), omega (arith, step.within, c.requires.each))

pub add_apart_track-requires-clause-room : goal.add_apart_track-requires-clause-room
add_apart_track-requires-clause-room c =
    let all : List Slot = c.args.chains.now in
    let slot : ℕ = c.args.slot in
    let rival : ℕ = c.in-Some.rival in
    let done : List ℕ = c.loop-next.invariant.done in
    let step = on all slot rival c.loop-next.next done c.in-Some.is c.loop-next.invariant.walked in
    let g : ℕ → List Clause = λ b. apart_track c.args.variables.width (slot, b) in
    let rest : List ℕ = filter (share_cell all slot) (slots_from all (rival + 1)) in
    let whole : flat_map g (rivals_after all slot) ≡ flat_map g done ++ g rival ++ flat_map g rest =
    ap (flat_map g) step.split ∙ flat_map-append g (done ++ rival ∷ []) rest
    ∙ ap (λ (ys : List Clause). ys ++ flat_map g rest) (flat_map-append g done (rival ∷ [])
    ∙ ap (λ (ys : List Clause). flat_map g done ++ ys) (append-nil (g rival))) in
    room-second c.args.formula.now c.loop-next.formula (flat_map g done) (g rival)
    (room-first c.args.formula.now (flat_map g done ++ g rival) (flat_map g rest)
    (subst (HasRoom c.args.formula.now) whole c.requires.room)) c.loop-next.invariant.added

pub next_after-next-requires-in-Some : goal.next_after-next-requires-in-Some
next_after-next-requires-in-Some c =
    (on c.args.chains.now c.args.slot c.in-Some.rival c.loop-next.next c.loop-next.invariant.done
    c.in-Some.is c.loop-next.invariant.walked).within

pub loop-next-smaller : goal.loop-next-smaller
loop-next-smaller c =
    let all : List Slot = c.args.chains.now in
    let step =
    on all c.args.slot c.in-Some.rival c.loop-next.next c.loop-next.invariant.done c.in-Some.is
    c.loop-next.invariant.walked in
    rw (c.in-Some.is, c.next_after-next-in-Some.ensures)
    (fewer-left all c.in-Some.rival step.within)

pub loop-next-preserved : goal.loop-next-preserved
loop-next-preserved c =
    let all : List Slot = c.args.chains.now in
    let slot : ℕ = c.args.slot in
    let rival : ℕ = c.in-Some.rival in
    let done : List ℕ = c.loop-next.invariant.done in
    let step = on all slot rival c.loop-next.next done c.in-Some.is c.loop-next.invariant.walked in
    let g : ℕ → List Clause = λ b. apart_track c.args.variables.width (slot, b) in
    let more : flat_map g (done ++ rival ∷ []) ≡ flat_map g done ++ g rival =
    flat_map-append g done (rival ∷ []) ∙ ap (λ (ys : List Clause). flat_map g done ++ ys)
    (append-nil (g rival)) in
    record {
      done = done ++ rival ∷ [];
      walked = subst (λ (o : Option ℕ). IsWalked all slot o (done ++ rival ∷ []))
          (sym c.next_after-next-in-Some.ensures) step.on;
      added = subst (λ (ys : List Clause). Adds c.args.formula.now ys c.add_apart_track.new.formula)
          (sym more)
          (adds-both c.args.formula.now c.loop-next.formula c.add_apart_track.new.formula
          (flat_map g done) (g rival) c.loop-next.invariant.added c.add_apart_track.ensures);
    }

pub returns : goal.returns
returns c =
    let all : List Slot = c.args.chains.now in
    let done : List ℕ = c.loop-next.invariant.done in
    let end : IsWalked all c.args.slot None done =
    subst (λ (o : Option ℕ). IsWalked all c.args.slot o done) c.in_default.is
    c.loop-next.invariant.walked in
    subst (λ (ks : List ℕ). Adds c.args.formula.now
    (flat_map
    (λ b. apart_track c.args.variables.width (c.args.slot, b)) ks) c.loop-next.formula)
    (walk-end all c.args.slot done end) c.loop-next.invariant.added
