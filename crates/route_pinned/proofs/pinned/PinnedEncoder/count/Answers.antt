use Rattle.std.proofs.Common.{arith}
use Rattle.route_pinned.proofs.EncodeLemmas.{count-row}
use Rattle.route_pinned.proofs.pinned.PinnedEncoder.count.Goals as goal

pub returns : goal.returns
returns c = omega (
  arith,
  count-row c.args.width c.args.problem.now c.pinned_row.result.items c.pinned_row.ensures.row,
  c.count.ensures.count,
  c.len.ensures.value,
)
