use Rattle.std.proofs.Common.{sym, subst}
use Rattle.std.proofs.lemmas.Result.{IfOk-weaker}
use Rattle.sat_core.specs.Analysis.{AreOn, IsAnalysed}
use Rattle.sat_core.specs.Marks.{MarkState}
use Rattle.sat_core.specs.Reading.{HasLearnedClause, IsFound}
use Rattle.sat_core.proofs.UseLaws.{analysed_sorted, analysis_on}
use Rattle.sat_core.proofs.learned.find_learned.Goals as goal

pub invariant_of-analysis : goal.invariant_of-analysis
invariant_of-analysis c =
    let w = c.args.watches.now in
    let met = c.analyse-point.ensures.analysed.analysis in
    record {
      few = c.requires.few;
      size = rw c.sort.ensures.same met.size;
      on = subst (λ (s : MarkState). AreOn w.trail s) (sym c.sort.ensures.same)
          (analysis_on met);
      current = c.level.ensures.value;
    }

pub returns-clause-found : goal.returns-clause-found
returns-clause-found c =
    let w = c.args.watches.now in
    let s = c.sort.new.self in
    let point = c.analyse-point.result in
    let analysed : IsAnalysed w c.args.lits.now s point =
    subst (λ (t : MarkState). IsAnalysed w c.args.lits.now t point) (sym c.sort.ensures.same)
    (analysed_sorted w c.args.lits.now c.analyse-point.new.marks point s.places
    c.analyse-point.ensures.analysed) in
    IfOk-weaker c.read-learned.result
    (λ learned. HasLearnedClause w s point c.args.id learned.clause.items learned.hints.items
    learned.back)
    (λ learned. IsFound w c.args.lits.now c.args.id learned.clause.items learned.hints.items
    learned.back)
    (λ learned is. record {
      s = s;
      point = point;
      marks = c.sort.ensures.marks;
      rising = c.sort.ensures.rising;
      analysed = analysed;
      learned_clause = is;
    }) c.read-learned.ensures
