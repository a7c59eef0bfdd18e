use Rattle.std.proofs.Common.{◌-◌, arith}
use Rattle.route_parts.specs.Links.{graph_of, wire_number}
use Rattle.route_parts.proofs.FloodLemmas.{begun, keeps-both}
use Rattle.route_parts.proofs.flood.Flood.begin.Goals as goal

pub go_on-requires-clause-flooding : goal.go_on-requires-clause-flooding
go_on-requires-clause-flooding c =
    (begun (graph_of c.args.wires.now) (c.args.part - 1) c.args.part c.args.wire
    c.args.self.now.table.items c.args.self.now.ahead.items c.take.new.self.table.items
    c.take.new.self.ahead.items c.requires.flooding (omega arith) c.requires.none c.requires.wire
    c.requires.open c.in_ok-take.ensures).flooding

pub returns-clause-taken : goal.returns-clause-taken
returns-clause-taken c =
    let first = begun (graph_of c.args.wires.now) (c.args.part - 1) c.args.part c.args.wire
    c.args.self.now.table.items c.args.self.now.ahead.items c.take.new.self.table.items
    c.take.new.self.ahead.items c.requires.flooding (omega arith) c.requires.none c.requires.wire
    c.requires.open c.in_ok-take.ensures in
    let kept = c.in_ok-go_on.ensures.keeps (wire_number (graph_of c.args.wires.now) c.args.wire)
    (λ none. absurd (omega (arith, none, first.begun, c.requires.part))) in
    λ none. absurd (omega (arith, none, kept, first.begun, c.requires.part))

pub returns-clause-keeps : goal.returns-clause-keeps
returns-clause-keeps c =
    let first = begun (graph_of c.args.wires.now) (c.args.part - 1) c.args.part c.args.wire
    c.args.self.now.table.items c.args.self.now.ahead.items c.take.new.self.table.items
    c.take.new.self.ahead.items c.requires.flooding (omega arith) c.requires.none c.requires.wire
    c.requires.open c.in_ok-take.ensures in
    keeps-both c.args.self.now.table.items c.take.new.self.table.items c.go_on.new.self.table.items
    first.keeps c.in_ok-go_on.ensures.keeps
