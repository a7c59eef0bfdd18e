use Rattle.std.proofs.Common.{◌+◌, ap, arith, inl, inr}
use Rattle.std.proofs.lemmas.Bool.{cases_lt}
use Rattle.route_bound.specs.declared.span.Span.{Span}
use Rattle.route_bound.proofs.SpanLemmas.{covers-some, widens-some}
use Rattle.route_bound.proofs.placed.PlacedNets.with_pin.Goals as goal

pub returns-clause-covers : goal.returns-clause-covers
returns-clause-covers c =
    let low = ap (λ (s : Span). s.low) c.span-low.ensures in
    let high = ap (λ (s : Span). s.high) c.span-low.ensures in
    covers-some c.args.self.now c.args.kind c.args.pin c.in-Some.reach
    (record { low = c.min.result; high = c.max.result }) c.line_count.result c.in-Some.ensures
    c.line_count.ensures.count (omega (arith, c.min.ensures, low))
    (omega (arith, c.max.ensures, high))

pub returns-clause-by : goal.returns-clause-by
returns-clause-by c =
    let low = ap (λ (s : Span). s.low) c.span-low.ensures in
    let high = ap (λ (s : Span). s.high) c.span-low.ensures in
    widens-some c.args.self.now c.args.kind c.args.pin c.in-Some.reach c.args.span
    (record { low = c.min.result; high = c.max.result }) c.line_count.result c.in-Some.ensures
    (λ line h. elim (cases_lt c.args.span.low line) [
      | inl before ↦ inl before
      | inr not_before ↦ inr (omega (arith, h, not_before, c.min.ensures, low))
    ])
    (λ line h. elim (cases_lt (line + 1) c.args.span.high) [
      | inl before ↦ inl before
      | inr not_before ↦ inr (omega (arith, h, not_before, c.max.ensures, high))
    ])
