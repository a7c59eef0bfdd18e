use Rattle.std.proofs.Common.{◌≡◌, ◌++◌, take, None}
use Rattle.std.specs.List.{last_or}
use Rattle.fpga_bounds.specs.PinList.{net_pin_steps}
use Rattle.fpga_bounds.proofs.pin_list.add_pin_steps.Given as goal

abbrev pub invariant-loop-e : goal.invariant-loop-e
invariant-loop-e l = record {
  found : l.found.items
      ≡ l.initial.found.items ++ net_pin_steps l.table l.net (take l.e-index l.elems);
  previous : l.previous ≡ last_or None (take l.e-index l.elems);
}
