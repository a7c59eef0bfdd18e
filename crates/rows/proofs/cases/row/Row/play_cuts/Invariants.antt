use Rattle.std.proofs.Common.{◌≡◌, take}
use Rattle.std.specs.Prelude.{All}
use Rattle.rows.specs.Series.{HasCutRun}
use Rattle.rows.proofs.cases.row.Row.play_cuts.Given as goal

-- the runs so far have come as they must
abbrev pub invariant-loop-cut : goal.invariant-loop-cut
invariant-loop-cut l = record {
  count : l.number ≡ l.cut-index;
  come : All (HasCutRun l.fn.self l.fn.whole) (take l.cut-index l.fn.self.series.cuts.items);
}
