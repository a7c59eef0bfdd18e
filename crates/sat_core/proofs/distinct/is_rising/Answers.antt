use Rattle.std.proofs.Common.{get_or, add-one, pos, arith}
use Rattle.std.proofs.lemmas.Option.{slice_get-get_or}
use Rattle.sat_clause.specs.declared.literal.Lit.{Lit}
use Rattle.sat_clause.specs.Literal.{lit}
use Rattle.sat_core.proofs.DistinctLaws.{rising_next}
use Rattle.sat_core.proofs.distinct.is_rising.Goals as goal

pub loop-l-preserved : goal.loop-l-preserved
loop-l-preserved c =
    let l : Lit = get_or c.args.lits.now c.loop-l.l-index (lit (pos 0)) in
    rw (add-one, c.variable-last.ensures)
    (rising_next c.args.lits.now c.loop-l.l-index c.loop-l.last l c.loop-l.invariant
    (slice_get-get_or c.args.lits.now c.loop-l.l-index (lit (pos 0)) c.loop-l-test.true)
    (omega (arith, c.if-variable-last.false, c.variable.ensures)))
