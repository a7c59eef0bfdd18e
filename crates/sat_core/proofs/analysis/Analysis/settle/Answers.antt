use Rattle.std.proofs.Common.{◌∙◌, sym, subst}
use Rattle.sat_clause.specs.Literal.{Clause}
use Rattle.sat_core.specs.Implied.{IsCovered}
use Rattle.sat_core.proofs.ImpliedLaws.{implied_marked}
use Rattle.sat_core.proofs.analysis.Analysis.settle.Goals as goal

pub returns-clause-walking : goal.returns-clause-walking
returns-clause-walking c =
    let w = c.args.self.now.watches.now in
    let s = c.args.self.now.marks.now in
    let implied = c.args.implied.now.marks.used in
    let covered = subst (λ (lits : Clause). IsCovered w.trail s implied lits)
    c.lits.ensures.value (c.are_covered.ensures c.if-not-are_covered.false) in
    record {
      implied = rw c.mark.ensures.used (implied_marked w s implied c.args.place
          c.requires.walking.implied (
            c.entry_at-entry.result,
            c.entry_at-entry.ensures.at,
            λ same. c.if-entry-self.false (same ∙ sym c.args.self.now.current),
            (c.in-Some.reason, sym c.clause.ensures ∙ c.in-Some.is, covered),
          ));
      on = rw c.mark.ensures.visits c.requires.walking.on;
      size = c.mark.ensures.size ∙ c.requires.walking.size;
    }
