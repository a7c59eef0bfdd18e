use Rattle.std.proofs.Common.{arith, rules}
use Rattle.list_laws.proofs.FrontParts.{all-next, all-whole}
use Rattle.list_laws.proofs.Places.{get-there}
use Rattle.rows.specs.Series.{HasCutRun}
use Rattle.rows.proofs.cases.row.Row.play_cuts.Goals as goal

pub loop-cut-preserved : goal.loop-cut-preserved
loop-cut-preserved c =
    let row = c.args.self.now in
    let at = get-there row.series.cuts.items c.loop-cut.cut-index c.cut-item.result
    c.cut-item.result (search rules) (search rules) in
    record {
      count = grind (arith, c.saturating_add-number.ensures, c.loop-cut.invariant.count);
      come = all-next (HasCutRun row c.args.whole.now) row.series.cuts.items
          c.loop-cut.cut-index c.cut-item.result at c.loop-cut.invariant.come
          c.in_ok-play_cut.ensures;
    }

pub returns-clause-come : goal.returns-clause-come
returns-clause-come c =
    all-whole (HasCutRun c.args.self.now c.args.whole.now) c.args.self.now.series.cuts.items
    c.loop-cut.cut-index (search rules) c.loop-cut.invariant.come
