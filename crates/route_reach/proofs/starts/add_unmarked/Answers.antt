use Rattle.std.proofs.Common.{◌≡◌, ◌+◌, ℕ, Bool, false, List, [], ◌∷◌, get_or, arith, rules, sym, subst}
use Rattle.std.specs.Prelude.{flat_map}
use Rattle.sat_clause.specs.FormulaStore.{FormulaState}
use Rattle.sat_clause.specs.Literal.{Clause}
use Rattle.route_encode.specs.Adding.{Adds, HasRoom}
use Rattle.route_encode.specs.Encoding.{below, place_of}
use Rattle.route_encode.proofs.AddLemmas.{adds-none, below-more, below-room}
use Rattle.route_reach.specs.WireClauses.{wire_unreached}
use Rattle.route_reach.proofs.StartLemmas.{unmarked-here, unmarked-none, unmarked-rows, unmarked_at}
use Rattle.route_reach.proofs.starts.add_unmarked.Goals as goal
use Rattle.route_reach.proofs.starts.add_unmarked.Goals.{then-not-row-track, else-not-row-track}

pub add_clause-requires-clause-room : goal.add_clause-requires-clause-room
add_clause-requires-clause-room c =
    let marks : List Bool = c.args.row.now in
    let width : ℕ = c.args.width in
    let wires : ℕ = c.args.variables.wires in
    let reach : ℕ = c.args.variables.reach in
    let track : ℕ = c.loop-track.track in
    let unmarked : get_or marks track false ≡ false = search rules in
    let room = subst (HasRoom c.args.formula.now)
    (sym (unmarked-rows wires reach width c.args.slot marks (below width))) c.requires.room in
    rw c.unreached.ensures.value
    (subst (HasRoom c.loop-track.formula)
    (unmarked-here wires reach width c.args.slot marks track unmarked)
    (below-room (unmarked_at wires reach width c.args.slot marks) width track (omega arith) _ _ room
    c.loop-track.invariant))

pub loop-track-preserved : goal.loop-track-preserved
loop-track-preserved c =
    let marks : List Bool = c.args.row.now in
    let width : ℕ = c.args.width in
    let slot : ℕ = c.args.slot in
    let wires : ℕ = c.args.variables.wires in
    let reach : ℕ = c.args.variables.reach in
    let track : ℕ = c.loop-track.track in
    let Added : FormulaState → Type 0 = λ after. Adds c.args.formula.now
    (flat_map (unmarked_at wires reach width slot marks) (below (track + 1))) after in
    elim c.if-not-row-track.branch [
      | then-not-row-track w ↦
          (let unmarked = w.if-not-row-track.true in
          let added : Adds c.loop-track.formula
          ((wire_unreached wires reach (place_of width slot track) 0 ∷ []) ∷ [])
          w.add_clause.new.formula = rw w.unreached.ensures.value at w.add_clause.ensures in
          subst Added (sym w.formula-is)
          (below-more (unmarked_at wires reach width slot marks) width track (omega arith) _ _ _
          c.loop-track.invariant
          (subst (λ (cs : List Clause). Adds c.loop-track.formula cs w.add_clause.new.formula)
          (sym (unmarked-here wires reach width slot marks track unmarked)) added)))
      | else-not-row-track w ↦
          (let marked = w.if-not-row-track.false in
          subst Added (sym w.formula-is)
          (below-more (unmarked_at wires reach width slot marks) width track (omega arith) _ _ _
          c.loop-track.invariant
          (subst (λ (cs : List Clause). Adds c.loop-track.formula cs c.loop-track.formula)
          (sym (unmarked-none wires reach width slot marks track marked))
          (adds-none c.loop-track.formula))))
    ]

pub returns : goal.returns
returns c =
    let marks : List Bool = c.args.row.now in
    let width : ℕ = c.args.width in
    let wires : ℕ = c.args.variables.wires in
    let reach : ℕ = c.args.variables.reach in
    let end : c.loop-track.track ≡ width = omega arith in
    subst (λ (cs : List Clause). Adds c.args.formula.now cs c.loop-track.formula)
    (unmarked-rows wires reach width c.args.slot marks (below width))
    (subst (λ (n : ℕ). Adds c.args.formula.now
    (flat_map (unmarked_at wires reach width c.args.slot marks) (below n)) c.loop-track.formula)
    end c.loop-track.invariant)
