use Rattle.std.proofs.Common.{◌≡◌, false, take}
use Rattle.std.specs.Prelude.{filter_map}
use Rattle.fpga_types.specs.Fit.{same_elem}
use Rattle.route_reach.specs.TraceDepth.{greatest}
use Rattle.route_verify.specs.Depths.{DeepLine, deep_lines}
use Rattle.route_verify.specs.LineDepths.{HasTaken}
use Rattle.route_reach.proofs.trace.net_depth.Given as goal

abbrev pub invariant-loop-line : goal.invariant-loop-line
invariant-loop-line l = record {
  cells : l.depths.tracked ≡ false;
  taken : HasTaken l.depths (take l.line-index l.net.elems);
  greatest : l.greatest ≡ greatest (filter_map (λ (line : DeepLine). line.depth)
      (deep_lines same_elem (take l.line-index l.net.elems)));
}
