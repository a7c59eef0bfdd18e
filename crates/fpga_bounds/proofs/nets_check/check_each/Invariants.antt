use Rattle.std.proofs.Common.{◌≡◌, [], take}
use Rattle.fpga_text.proofs.FaultLemmas.{IsPast}
use Rattle.fpga_types.specs.Fit.{is_pin_of}
use Rattle.fpga_types.specs.declared.route.Elem.{Elem}
use Rattle.fpga_types.specs.declared.route.RouteNet.{RouteNet}
use Rattle.fpga_bounds.specs.Keys.{has_pin}
use Rattle.fpga_bounds.specs.NetFit.{nets_faults}
use Rattle.fpga_bounds.specs.NetTable.{HasNetLines}
use Rattle.fpga_bounds.proofs.nets_check.check_each.Given as goal

abbrev pub invariant-loop-n : goal.invariant-loop-n
invariant-loop-n g l = record {
  past : IsPast (nets_faults (g.R.LineRules.fault l.rules) l.nets 0)
      (nets_faults (g.R.LineRules.fault l.rules) l.nets l.n);
  pins : (e : Elem) → has_pin l.pins e ≡ is_pin_of (take l.n l.nets) e;
  kept : (net : RouteNet) → g.R.LineRules.has_kept l.kept (take l.n l.nets) net [];
  lined : HasNetLines (g.R.LineRules.problem l.rules).netlist.nets l.marks (take l.n l.nets);
}
