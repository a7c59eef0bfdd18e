use Rattle.std.proofs.Common.{◌≡◌, ◌++◌}
use Rattle.std.specs.Prelude.{map}
use Rattle.std.specs.List.{range_with_len}
use Rattle.fpga_types.specs.declared.route.ElemKind.TheVariants.{ChanY}
use Rattle.route_gen.specs.Traces.{channel, towards}
use Rattle.route_gen.proofs.trace.push_column.Given as goal

abbrev pub invariant-loop-steps : goal.invariant-loop-steps
invariant-loop-steps l = l.elems.items ≡ l.initial.elems.items
    ++ map (λ steps. channel ChanY l.column (towards l.from l.to steps)) (range_with_len 0 l.steps)
