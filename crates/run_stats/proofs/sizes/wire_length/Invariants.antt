use Rattle.std.proofs.Common.{◌≡◌, take}
use Rattle.run_stats.specs.Sizes.{capped, wire_length}
use Rattle.run_stats.proofs.sizes.wire_length.Given as goal

-- the wires of the nets so far
abbrev pub invariant-loop-net : goal.invariant-loop-net
invariant-loop-net l = l.length ≡ capped (wire_length (take l.net-index l.nets))
