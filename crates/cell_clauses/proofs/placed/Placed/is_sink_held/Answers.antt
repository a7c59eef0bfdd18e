use Rattle.std.proofs.Common.{sym, ◌∙◌}
use Rattle.cell_clauses.specs.Held.{placed_of}
use Rattle.cell_clauses.proofs.FindingLemmas.{sink-driven, sink-none, sink-own}
use Rattle.cell_clauses.proofs.placed.Placed.is_sink_held.Goals as goal

pub returns-in_default : goal.returns-in_default
returns-in_default c =
    sink-none (placed_of c.args.self.now) c.args.range c.args.held c.args.pin
    (sym c.terminal.ensures ∙ c.in_default.is)

pub returns-then-held : goal.returns-then-held
returns-then-held c =
    sink-driven (placed_of c.args.self.now) c.args.range c.args.held c.args.pin c.in-Some.at
    (sym c.terminal.ensures ∙ c.in-Some.is) c.if-held.true

pub returns-else-held : goal.returns-else-held
returns-else-held c =
    sink-own (placed_of c.args.self.now) c.args.range c.args.held c.args.pin c.in-Some.at
    c.is_inside.result (sym c.terminal.ensures ∙ c.in-Some.is) c.if-held.false c.is_inside.ensures
