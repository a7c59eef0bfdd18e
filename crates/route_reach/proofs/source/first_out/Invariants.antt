-- none of the lines so far is an OPIN line
use Rattle.std.proofs.Common.{◌≡◌, [], filter_map, take}
use Rattle.route_reach.specs.Ends.{opin_of}
use Rattle.route_reach.proofs.source.first_out.Given as goal

abbrev pub invariant-loop-e : goal.invariant-loop-e
invariant-loop-e l = filter_map opin_of (take l.e-index l.elems) ≡ []
