use Rattle.std.proofs.Common.{List, arith, refl, subst}
use Rattle.std.specs.Prelude.{All}
use Rattle.fpga_types.specs.declared.netlist.PinRef.{PinRef}
use Rattle.route_bound.specs.Spans.{Covers, WidensByAny}
use Rattle.route_bound.specs.declared.span.Span.{Span}
use Rattle.route_bound.specs.declared.span.Spans.{Spans}
use Rattle.route_bound.proofs.SpanLemmas.{covers-wider, crosses-between, not-crossing}
use Rattle.route_bound.proofs.placed.PlacedNets.net_spans.Goals as goal

pub returns-clause-off : goal.returns-clause-off
returns-clause-off c =
    let driver = c.with_pin-driver.ensures.covers in
    let sinks = subst
    (λ (pins : List PinRef). All (λ pin. Covers c.args.self.now c.args.kind pin c.with_pins-sinks.result) pins)
    c.as_slice.ensures c.with_pins-sinks.ensures.covers in
    not-crossing c.args.self.now c.args.kind c.args.net.now c.in-Some.pin
    (record { low = c.min.result; high = c.max.result }) c.in-Some.is
    (covers-wider c.args.self.now c.args.kind c.in-Some.pin c.with_pin-driver.result
    (record { low = c.min.result; high = c.max.result }) driver (omega (arith, c.min.ensures))
    (omega (arith, c.max.ensures)))
    (λ k d there. covers-wider c.args.self.now c.args.kind _ c.with_pins-sinks.result
    (record { low = c.min.result; high = c.max.result }) (sinks k d there)
    (omega (arith, c.min.ensures)) (omega (arith, c.max.ensures)))

pub returns-clause-between : goal.returns-clause-between
returns-clause-between c =
    let none : Span = record { low = c.line_count.result; high = 0 } in
    let spans : Spans = record {
      driver = c.with_pin-driver.result;
      sinks = c.with_pins-sinks.result;
      whole = record { low = c.min.result; high = c.max.result };
    } in
    let sinks = subst
    (λ (pins : List PinRef). WidensByAny c.args.self.now c.args.kind pins none spans.sinks)
    c.as_slice.ensures c.with_pins-sinks.ensures.by in
    crosses-between c.args.self.now c.args.kind c.args.net.now c.in-Some.pin none spans
    c.if-net.false c.in-Some.is (omega (arith, c.line_count.ensures.count)) refl
    c.with_pin-driver.ensures.by sinks
