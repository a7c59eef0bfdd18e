-- the nets that were found and those of the words ahead are those of all words
use Rattle.std.proofs.Common.{◌≡◌, ◌++◌, map, drop}
use Rattle.router_says.specs.AtFault.{ordinary_uses, use_said}
use Rattle.router_says.proofs.pin_use.ordinary_uses.Given as goal

abbrev pub invariant-loop-number : goal.invariant-loop-number
invariant-loop-number l = map use_said l.uses.items
    ++ ordinary_uses l.text l.number (drop l.number l.pins) l.line.words
    ≡ ordinary_uses l.text 0 l.pins l.initial.line.words
