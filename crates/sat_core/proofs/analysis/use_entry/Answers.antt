use Rattle.std.proofs.Common.{subst}
use Rattle.sat_clause.specs.Literal.{Clause}
use Rattle.sat_watch.specs.Watches.{lits_at}
use Rattle.sat_core.specs.Analysis.{IsFalsePlace, IsLeast, IsReasonPlace}
use Rattle.sat_core.specs.Marks.{Meets}
use Rattle.sat_core.proofs.AnalysisLaws.{least_alike, meets_alike, reason_from, reason_to}
use Rattle.sat_core.proofs.analysis.use_entry.Goals as goal

pub returns-clause-uses : goal.returns-clause-uses
returns-clause-uses c =
    let w = c.args.watches.now in
    let p = c.args.place in
    let r = c.args.reason in
    let has = c.requires.reason in
    let meets = subst (λ (lits : Clause). Meets (IsFalsePlace w.trail lits) c.args.marks.now
    c.meet_clause-lowest.new.marks) c.lits.ensures.value c.meet_clause-lowest.ensures.meets in
    record {
      between = c.meet_clause-lowest.new.marks;
      meets = meets_alike (IsFalsePlace w.trail (lits_at w.clauses r)) (IsReasonPlace w p)
          (reason_to w p has.0 r has.1 has.2) (reason_from w p has.0 r has.1 has.2)
          c.args.marks.now c.meet_clause-lowest.new.marks meets;
      is = c.use_reason.ensures.is;
      here = c.use_reason.ensures.here;
    }

pub returns-clause-least : goal.returns-clause-least
returns-clause-least c =
    let w = c.args.watches.now in
    let p = c.args.place in
    let r = c.args.reason in
    let has = c.requires.reason in
    let least = subst (λ (lits : Clause). IsLeast w.trail w.level (IsFalsePlace w.trail lits)
    c.args.least c.meet_clause-lowest.result) c.lits.ensures.value
    c.meet_clause-lowest.ensures.least in
    least_alike (IsFalsePlace w.trail (lits_at w.clauses r)) (IsReasonPlace w p)
    (reason_to w p has.0 r has.1 has.2) (reason_from w p has.0 r has.1 has.2) w.trail w.level
    c.args.least c.meet_clause-lowest.result least
