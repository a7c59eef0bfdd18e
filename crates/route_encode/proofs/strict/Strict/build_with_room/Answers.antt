use Rattle.std.proofs.Common.{◌∙◌, ◌+◌, arith, refl, ap}
use Rattle.sat_clause.specs.FormulaStore.{FormulaState}
use Rattle.route_encode.specs.Encoding.{cnf_of}
use Rattle.route_encode.proofs.AddLemmas.{adds-new, room-left, room-reserved}
use Rattle.route_encode.proofs.ProblemCounts.{added-encoding}
use Rattle.route_encode.proofs.ProblemDecoded.{no-routing}
use Rattle.route_encode.proofs.strict.Strict.build_with_room.Goals as goal

pub add_clauses-requires-clause-room : goal.add_clauses-requires-clause-room
add_clauses-requires-clause-room c =
    let size = c.formula_size-size.ensures in
    rw (added-encoding c.args.width c.args.problem.now)
    (room-reserved c.new-formula.result c.reserve.new.self _
    (c.formula_size-size.result.clauses + c.args.clauses) _
    (cnf_of c.args.width c.args.problem.now).clauses c.in_ok-reserve.ensures.ok
    (omega (arith, size.clauses)) (omega (arith, size.lits)))

pub returns-clause-formula : goal.returns-clause-formula
returns-clause-formula c =
    let made = adds-new c.new-formula.result c.reserve.new.self c.add_clauses.new.formula _ _ _ _
    (ap (λ (s : FormulaState). s.cnf.clauses) c.new-formula.ensures) c.in_ok-reserve.ensures.ok
    c.add_clauses.ensures in
    made ∙ rw (
      c.count.ensures,
      c.slots-slots.ensures.value,
      added-encoding c.args.width c.args.problem.now,
    ) refl

pub returns-in_err-chains-clause-none_without_model :
    goal.returns-in_err-chains-clause-none_without_model
returns-in_err-chains-clause-none_without_model c =
    no-routing c.args.width c.args.problem.now c.slots-slots.ensures.fits

pub returns-in_err-reserve-clause-none_without_model :
    goal.returns-in_err-reserve-clause-none_without_model
returns-in_err-reserve-clause-none_without_model c =
    no-routing c.args.width c.args.problem.now c.slots-slots.ensures.fits

pub returns-clause-none_without_model : goal.returns-clause-none_without_model
returns-clause-none_without_model c =
    no-routing c.args.width c.args.problem.now c.slots-slots.ensures.fits

pub returns-clause-room : goal.returns-clause-room
returns-clause-room c =
    let size = c.formula_size-size.ensures in
    let added = rw (added-encoding c.args.width c.args.problem.now) at c.add_clauses.ensures in
    room-left c.new-formula.result c.reserve.new.self c.add_clauses.new.formula _
    c.formula_size-size.result.clauses c.formula_size-size.result.lits c.args.clauses c.args.lits
    (cnf_of c.args.width c.args.problem.now).clauses
    (ap (λ (s : FormulaState). s.clause_room) c.new-formula.ensures)
    (ap (λ (s : FormulaState). s.lit_room) c.new-formula.ensures)
    c.in_ok-reserve.ensures.ok added size.clauses size.lits
