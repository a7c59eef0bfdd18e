use Rattle.std.proofs.Common.{◌≡◌, length}
use Rattle.route_negotiate.specs.Texts.{AreNetLines}
use Rattle.route_negotiate.proofs.text.net_texts.Given as goal

-- the nets so far
abbrev pub invariant-loop-number : goal.invariant-loop-number
invariant-loop-number l = (length l.nets.items ≡ l.number)
    × AreNetLines l.placement.grid l.fn.last l.last l.nets.items
