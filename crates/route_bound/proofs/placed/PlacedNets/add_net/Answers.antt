use Rattle.std.proofs.Common.{◌≤◌, refl, inl, inr, arith, ap}
use Rattle.std.proofs.lemmas.Bool.{cases_lt}
use Rattle.route_bound.specs.Lines.{one_if}
use Rattle.route_bound.proofs.placed.PlacedNets.add_net.Goals as goal

pub loop-line-init : goal.loop-line-init
loop-line-init c = record {
  size = refl;
  passed = λ line there before.
      let off = ap one_if (c.net_spans-spans.ensures.off line there (inl before)) in omega (arith, off);
  ahead = λ line there from. refl;
}

pub returns-clause-added : goal.returns-clause-added
returns-clause-added c = λ line there. elim (cases_lt line c.loop-line.line) [
  | inl before ↦ c.loop-line.invariant.passed line there before
  | inr not_before ↦
      let from : c.loop-line.line ≤ line = omega (arith, not_before) in
      let behind : c.net_spans-spans.result.whole.high ≤ line =
      omega (
        arith,
        from,
        c.loop-line-test.false,
        c.min-line-end.ensures,
        there,
        c.line_count.ensures.count,
      ) in
      let off = ap one_if (c.net_spans-spans.ensures.off line there (inr behind)) in
      omega (arith, off, c.loop-line.invariant.ahead line there from)
]
