-- the numbers of the nets so far that cross
use Rattle.std.proofs.Common.{◌≡◌, false}
use Rattle.std.specs.List.{range_with_len}
use Rattle.std.specs.Option.{option_map_or}
use Rattle.std.specs.Prelude.{filter, slice_get}
use Rattle.route_bound.specs.Crossing.{crosses}
use Rattle.route_bound.specs.Ranges.{corners_of}
use Rattle.route_bound.proofs.placed.PlacedNets.crossing.Given as goal

abbrev pub invariant-loop-number : goal.invariant-loop-number
invariant-loop-number l = l.numbers.items
    ≡ filter (λ number. option_map_or (crosses l.self (corners_of l.range))
    (slice_get l.self.netlist.nets number) false) (range_with_len 0 l.number)
