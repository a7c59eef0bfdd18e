use Rattle.std.proofs.Common.{map}
use Rattle.router_says.proofs.UseLemmas.{uses-end}
use Rattle.router_says.specs.AtFault.{use_said}
use Rattle.router_says.proofs.pin_use.ordinary_uses.Goals as goal

pub returns-in_default : goal.returns-in_default
returns-in_default c = uses-end c.args.text.now c.loop-number.number c.args.pins.now
    c.loop-number.line.words (map use_said c.loop-number.uses.items) _ c.loop-number.invariant
    c.in_default.ensures.word
