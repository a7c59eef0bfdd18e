use Rattle.std.proofs.Common.{ℕ, List, subst}
use Rattle.std.specs.Prelude.{String}
use Rattle.std.specs.Global.{Global}
use Rattle.rows.specs.Cut.{IsAsCut}
use Rattle.rows.proofs.cases.row.Row.play_cut.Goals as goal

pub returns : goal.returns
returns c =
    let o = c.in_ok-outcome.outcome in
    let s = c.in_ok-outcome.shelf in (
      o,
      s,
      c.in_ok-outcome.ensures,
      subst (λ (lead : List ℕ). IsAsCut c.args.cut.now lead c.args.self.now.series.order.items
          c.args.whole.now o s) c.deref.ensures.value
          (subst (λ (order : List (String Global)). IsAsCut c.args.cut.now c.deref.result.now order
          c.args.whole.now o s) c.as_slice-order.ensures.value c.in_ok-compare.ensures),
    )
