use Rattle.std.proofs.Common.{List, subst}
use Rattle.std.specs.Prelude.{String}
use Rattle.std.specs.Global.{Global}
use Rattle.rows.specs.Cut.{AreSame}
use Rattle.rows.proofs.cases.row.Row.play_last.Goals as goal

pub returns : goal.returns
returns c = (
  c.in_ok-outcome.outcome,
  c.in_ok-outcome.last,
  c.in_ok-outcome.ensures,
  c.in_ok-compare.ensures,
  subst (λ (order : List (String Global)). AreSame order c.args.whole.now.files
      c.in_ok-outcome.last.files) c.deref.ensures.value c.in_ok-compare_same.ensures,
)
