use Rattle.std.proofs.Common.{sym}
use Rattle.std.specs.Prelude.{string_bytes}
use Rattle.route_draw.proofs.WireLemmas.{behind-sink-none, no-cell-none, wire-added}
use Rattle.route_draw.proofs.wires.append_line.Goals as goal

pub returns-then-behind_sink : goal.returns-then-behind_sink
returns-then-behind_sink c = λ layout are.
    behind-sink-none layout c.args.behind_sink c.args.elem (string_bytes c.args.out.now)
    c.if-behind_sink.true

pub returns-in_default : goal.returns-in_default
returns-in_default c = λ layout are.
    no-cell-none layout c.args.behind_sink c.args.elem (string_bytes c.args.out.now)
    c.if-behind_sink.false (sym c.in_default.ensures)

pub returns : goal.returns
returns c = λ layout are.
    wire-added layout c.args.behind_sink c.args.elem c.in-Some.cell c.across.result _ _
    c.if-behind_sink.false (sym c.in-Some.ensures) (c.across.ensures.place layout are)
    c.in_ok-append_wire.ensures
