use Rattle.std.proofs.Common.{◌≡◌, ◌++◌}
use Rattle.std.specs.Prelude.{flat_map}
use Rattle.std.specs.List.{range_with_len}
use Rattle.route_gen.specs.Placements.{place_line, placement_head}
use Rattle.route_gen.proofs.placement.placement_text.Given as goal

abbrev pub invariant-loop-block : goal.invariant-loop-block
invariant-loop-block l = l.text.items
    ≡ placement_head l.side ++ flat_map (place_line l.side) (range_with_len 0 l.block)
