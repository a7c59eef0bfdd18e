use Rattle.std.proofs.Common.{◌≡◌, ◌+◌, ◌≤◌, drop}
use Rattle.run_stats.specs.Sizes.{wire_count, wires_from}
use Rattle.run_stats.proofs.sizes.wire_count.Given as goal

-- the wires so far, with those ahead
abbrev pub invariant-loop-elem : goal.invariant-loop-elem
invariant-loop-elem l = record {
  all : l.count + wires_from l.branches (drop l.elem-index l.elems) ≡ wire_count l.elems;
  few : l.count ≤ l.elem-index;
}
