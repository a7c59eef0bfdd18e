use Rattle.std.proofs.Common.{◌≡◌, ◌++◌, take, None}
use Rattle.std.specs.Prelude.{option_and_then}
use Rattle.std.specs.List.{last_or}
use Rattle.fpga_bounds.specs.StepList.{elem_number, net_steps}
use Rattle.fpga_bounds.proofs.step_list.add_steps.Given as goal

abbrev pub invariant-loop-e : goal.invariant-loop-e
invariant-loop-e l = record {
  found : l.found.items ≡ l.initial.found.items ++ net_steps l.table l.net (take l.e-index l.elems);
  previous : l.previous ≡ option_and_then (elem_number l.table l.net)
      (last_or None (take l.e-index l.elems));
}
