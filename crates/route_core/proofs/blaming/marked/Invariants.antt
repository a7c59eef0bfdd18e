-- the marked positions so far were found
use Rattle.std.proofs.Common.{◌≡◌, false, get_or}
use Rattle.std.specs.Prelude.{filter}
use Rattle.route_encode.specs.Encoding.{below}
use Rattle.route_core.proofs.blaming.marked.Given as goal

abbrev pub invariant-loop-net : goal.invariant-loop-net
invariant-loop-net l = l.nets.items ≡ filter (λ at. get_or l.marks at false) (below l.net)
