use Rattle.std.proofs.Common.{◌≡◌, ◌≤◌, ◌*◌, ◌∷◌, [], ◌∙◌, ℕ, get_or, subst, sym, arith, All}
use Rattle.std.proofs.lemmas.List.{get_or_default}
use Rattle.sat_clause.specs.Literal.{Clause, IsWithin}
use Rattle.route_encode.specs.Adding.{Adds, HasRoom}
use Rattle.route_ordered.specs.Ordered.{only_behind}
use Rattle.route_ordered.proofs.AddingLemmas.{behind-added, behind-all, behind-room, behind-within}
use Rattle.route_ordered.proofs.adding.add_behind.Goals as goal
use Rattle.route_ordered.proofs.adding.add_behind.Goals.{After-deref}

-- the clause of the track
made : (c : After-deref) → c.deref.result.now ≡ only_behind c.args.variables.width
    c.args.earlier.now c.args.group.now c.args.slot
    (get_or c.args.tracks.now c.loop-track.track-index 0)
made c = c.deref.ensures.value ∙ c.in_ok-clause.ensures

pub add_clause-requires-clause-within : goal.add_clause-requires-clause-within
add_clause-requires-clause-within c =
    let vars : c.args.variables.slots * c.args.variables.width ≤ c.loop-track.formula.cnf.vars =
    rw (c.loop-track.invariant.vars) c.requires.vars in
    subst (λ (clause : Clause). All (IsWithin c.loop-track.formula.cnf.vars) clause)
    (sym (made c))
    (behind-within c.args.variables.slots c.args.variables.width c.loop-track.formula.cnf.vars
    c.args.earlier.now c.args.group.now c.args.slot
    (get_or c.args.tracks.now c.loop-track.track-index 0) c.requires.slots c.requires.group
    c.requires.slot (c.requires.tracks c.loop-track.track-index 0 c.loop-track-test.true) vars)

pub add_clause-requires-clause-room : goal.add_clause-requires-clause-room
add_clause-requires-clause-room c =
    let i : ℕ = c.loop-track.track-index in
    let t : ℕ = get_or c.args.tracks.now i 0 in
    subst (λ (clause : Clause). HasRoom c.loop-track.formula (clause ∷ [])) (sym (made c))
    (behind-room c.args.variables.width c.args.earlier.now c.args.group.now c.args.slot
    c.args.tracks.now i t c.loop-track-test.true
    (get_or_default c.args.tracks.now i 0 t c.loop-track-test.true) c.args.formula.now
    c.loop-track.formula c.requires.room c.loop-track.invariant)

pub loop-track-preserved : goal.loop-track-preserved
loop-track-preserved c =
    let i : ℕ = c.loop-track.track-index in
    let t : ℕ = get_or c.args.tracks.now i 0 in
    let clause_is : c.deref.result.now ≡ only_behind c.args.variables.width c.args.earlier.now
    c.args.group.now c.args.slot t = c.deref.ensures.value ∙ c.in_ok-clause.ensures in
    behind-added c.args.variables.width c.args.earlier.now c.args.group.now c.args.slot
    c.args.tracks.now i t c.loop-track-test.true
    (get_or_default c.args.tracks.now i 0 t c.loop-track-test.true) c.args.formula.now
    c.loop-track.formula c.add_clause.new.formula c.loop-track.invariant
    (subst (λ (clause : Clause). Adds c.loop-track.formula (clause ∷ [])
    c.add_clause.new.formula) clause_is c.add_clause.ensures)

pub returns : goal.returns
returns c =
    behind-all c.args.variables.width c.args.earlier.now c.args.group.now c.args.slot
    c.args.tracks.now c.loop-track.track-index c.args.formula.now c.loop-track.formula
    (omega arith) c.loop-track.invariant
