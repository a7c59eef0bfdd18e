-- none of the lines so far
use Rattle.std.proofs.Common.{◌≡◌, false, take}
use Rattle.std.specs.List.{list_any}
use Rattle.route_reach.specs.Modelled.{is_source_of}
use Rattle.route_reach.proofs.source_line.source_line.Given as goal

abbrev pub invariant-loop-e : goal.invariant-loop-e
invariant-loop-e l = list_any (is_source_of l.graph l.wire) (take l.e-index l.elems) ≡ false
