use Rattle.std.proofs.Common.{◌≡◌, map, take, All}
use Rattle.sat_merge.specs.Moved.{HasPlace, moved_id}
use Rattle.sat_merge.proofs.moving.move_ids.Given as goal

-- the ids so far are moved
abbrev pub invariant-loop-id : goal.invariant-loop-id
invariant-loop-id l = record {
  ids : l.numbers.items ≡ map (moved_id l.places) (take l.id-index l.ids);
  places : All (HasPlace l.places) (take l.id-index l.ids);
}
