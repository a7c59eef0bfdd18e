-- the copy has the names so far
use Rattle.std.proofs.Common.{◌≡◌, take}
use Rattle.route_reach.proofs.decoding.copied_names.Given as goal

abbrev pub invariant-loop-name : goal.invariant-loop-name
invariant-loop-name l = l.copy.items ≡ take l.name-index l.names
