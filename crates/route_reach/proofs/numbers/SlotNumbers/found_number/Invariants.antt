-- the slot is none of those before the next slot of its cell
use Rattle.std.proofs.Common.{length, ◌-◌}
use Rattle.std.specs.Option.{option_map_or}
use Rattle.route_reach.proofs.FirstLemmas.{IsSought}
use Rattle.route_reach.proofs.numbers.SlotNumbers.found_number.Given as goal

abbrev pub invariant-loop-next : goal.invariant-loop-next
invariant-loop-next l = IsSought l.self l.slot l.next

abbrev pub decreases-loop-next : goal.decreases-loop-next
decreases-loop-next l = option_map_or (λ b. length l.self - b) l.next 0
