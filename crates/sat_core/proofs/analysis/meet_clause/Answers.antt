use Rattle.std.proofs.Common.{◌≡◌, ◌+◌, ◌++◌, ◌∷◌, [], pos, take, get_or}
use Rattle.std.proofs.lemmas.List.{take_more}
use Rattle.sat_clause.specs.declared.literal.Lit.{Lit}
use Rattle.sat_clause.specs.Literal.{Clause, lit}
use Rattle.sat_core.specs.Analysis.{IsFalsePlace}
use Rattle.sat_core.proofs.AnalysisLaws.{either_place, front_place, least_then, meets_then, next_place}
use Rattle.sat_core.proofs.analysis.meet_clause.Goals as goal

pub loop-l-preserved : goal.loop-l-preserved
loop-l-preserved c =
    let w = c.args.watches.now in
    let lits = c.args.lits.now in
    let i = c.loop-l.l-index in
    let l : Lit = get_or lits i (lit (pos 0)) in
    let front : Clause = take i lits in
    let longer : take (i + 1) lits ≡ front ++ l ∷ [] =
    take_more lits i (lit (pos 0)) c.loop-l-test.true in
    let P = IsFalsePlace w.trail front in
    let Q = IsFalsePlace w.trail (l ∷ []) in
    let R = IsFalsePlace w.trail (front ++ l ∷ []) in
    record {
      meets = rw longer
          (meets_then P Q R (front_place w.trail front l) (next_place w.trail front l)
          (either_place w.trail front l) c.args.marks.now c.loop-l.marks
          c.meet_literal-lowest.new.marks c.loop-l.invariant.meets
          c.meet_literal-lowest.ensures.meets);
      least = rw longer
          (least_then P Q R (front_place w.trail front l) (next_place w.trail front l)
          (either_place w.trail front l) w.trail w.level c.args.least c.loop-l.lowest
          c.meet_literal-lowest.result c.loop-l.invariant.least
          c.meet_literal-lowest.ensures.least);
    }
