use Rattle.std.proofs.Common.{◌≡◌, ◌+◌, ℕ, Bool, false, List, [], ◌∷◌, get_or, arith, rules, sym, subst}
use Rattle.std.specs.Prelude.{flat_map}
use Rattle.sat_clause.specs.FormulaStore.{FormulaState}
use Rattle.sat_clause.specs.Literal.{Clause}
use Rattle.route_encode.specs.Adding.{Adds, HasRoom}
use Rattle.route_encode.specs.Encoding.{below, lacks}
use Rattle.route_encode.proofs.AddLemmas.{adds-none, below-more, below-room}
use Rattle.route_encode.proofs.FabricLemmas.{closed-here, closed-none, closed-rows, closed_at}
use Rattle.route_encode.proofs.fabric.add_open_track.Goals as goal
use Rattle.route_encode.proofs.fabric.add_open_track.Goals.{then-not-opened-track, else-not-opened-track}

pub add_clause-requires-clause-room : goal.add_clause-requires-clause-room
add_clause-requires-clause-room c =
    let marks : List Bool = c.args.opened.now in
    let width : ℕ = c.args.variables.width in
    let slot : ℕ = c.args.step.slot in
    let track : ℕ = c.loop-track.track in
    let closed : get_or marks track false ≡ false = search rules in
    let room = subst (HasRoom c.args.formula.now)
    (sym (closed-rows marks width slot (below width))) c.requires.room in
    rw c.lacks.ensures.value
    (subst (HasRoom c.loop-track.formula) (closed-here marks width slot track closed)
    (below-room (closed_at marks width slot) width track (omega arith) _ _ room
    c.loop-track.invariant))

pub loop-track-preserved : goal.loop-track-preserved
loop-track-preserved c =
    let marks : List Bool = c.args.opened.now in
    let width : ℕ = c.args.variables.width in
    let slot : ℕ = c.args.step.slot in
    let track : ℕ = c.loop-track.track in
    let Added : FormulaState → Type 0 = λ after.
    Adds c.args.formula.now (flat_map (closed_at marks width slot) (below (track + 1))) after in
    elim c.if-not-opened-track.branch [
      | then-not-opened-track w ↦
          (let closed = w.if-not-opened-track.true in
          let added : Adds c.loop-track.formula
          ((lacks width slot track ∷ []) ∷ []) w.add_clause.new.formula =
          rw w.lacks.ensures.value at w.add_clause.ensures in
          subst Added (sym w.formula-is)
          (below-more (closed_at marks width slot) width track (omega arith) _ _ _
          c.loop-track.invariant
          (subst (λ (cs : List Clause). Adds c.loop-track.formula cs w.add_clause.new.formula)
          (sym (closed-here marks width slot track closed)) added)))
      | else-not-opened-track w ↦
          (let opened = w.if-not-opened-track.false in
          subst Added (sym w.formula-is)
          (below-more (closed_at marks width slot) width track (omega arith) _ _ _
          c.loop-track.invariant
          (subst (λ (cs : List Clause). Adds c.loop-track.formula cs c.loop-track.formula)
          (sym (closed-none marks width slot track opened)) (adds-none c.loop-track.formula))))
    ]

pub returns : goal.returns
returns c =
    let marks : List Bool = c.args.opened.now in
    let width : ℕ = c.args.variables.width in
    let slot : ℕ = c.args.step.slot in
    let end : c.loop-track.track ≡ width = omega arith in
    subst (λ (cs : List Clause). Adds c.args.formula.now cs c.loop-track.formula)
    (closed-rows marks width slot (below width))
    (subst (λ (n : ℕ). Adds c.args.formula.now
    (flat_map (closed_at marks width slot) (below n)) c.loop-track.formula)
    end c.loop-track.invariant)
