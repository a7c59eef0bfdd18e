use Rattle.std.proofs.Common.{◌∙◌, sym}
use Rattle.route_verify.specs.Wires.{wire_key}
use Rattle.route_verify.proofs.WireLemmas.{one_more_wire}
use Rattle.route_verify.proofs.wires.add_wire.Goals as goal

pub returns : goal.returns
returns c = λ other. c.in_ok-insert.ensures.updates.0 (wire_key other)
    ∙ one_more_wire c.args.line c.in-Some.wire other c.wire_key.result _
    (sym c.wire_of.ensures ∙ c.in-Some.is) c.wire_key.ensures
