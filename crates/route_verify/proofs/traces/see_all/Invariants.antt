-- what equals one of the elements so far
use Rattle.std.proofs.Common.{◌≡◌, take}
use Rattle.std.specs.Prelude.{◌||◌}
use Rattle.std.specs.List.{list_any}
use Rattle.fpga_bounds.specs.Keys.{has_elem}
use Rattle.fpga_types.specs.Fit.{same_elem}
use Rattle.fpga_types.specs.declared.route.Elem.{Elem}
use Rattle.route_verify.proofs.traces.see_all.Given as goal

abbrev pub invariant-loop-e : goal.invariant-loop-e
invariant-loop-e l = (q : Elem) → has_elem l.set q
    ≡ (has_elem l.initial.set q || list_any (same_elem q) (take l.e-index l.elems))
