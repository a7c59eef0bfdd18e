use Rattle.std.proofs.Common.{◌≡◌, take, None}
use Rattle.std.specs.List.{list_any, last_or}
use Rattle.fpga_text.proofs.FaultLemmas.{IsPast}
use Rattle.fpga_types.specs.Fit.{same_elem}
use Rattle.fpga_types.specs.declared.route.Elem.{Elem}
use Rattle.fpga_bounds.specs.Keys.{has_elem}
use Rattle.fpga_bounds.specs.NetFit.{elems_faults}
use Rattle.fpga_bounds.proofs.elems_check.check_elems.Given as goal

abbrev pub invariant-loop-i : goal.invariant-loop-i
invariant-loop-i g l = record {
  elems : l.elems ≡ l.net.elems;
  past : IsPast (elems_faults (g.R.LineRules.fault l.rules) l.earlier l.net 0)
      (elems_faults (g.R.LineRules.fault l.rules) l.earlier l.net l.i);
  previous : l.previous ≡ last_or None (take l.i l.elems);
  seen : (e : Elem) → has_elem l.seen e ≡ list_any (same_elem e) (take l.i l.elems);
  kept : g.R.LineRules.has_kept l.kept l.earlier l.net (take l.i l.net.elems);
}
