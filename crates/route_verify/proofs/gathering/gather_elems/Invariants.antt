use Rattle.std.proofs.Common.{◌≡◌, ◌++◌, take, None}
use Rattle.std.specs.List.{list_any, last_or}
use Rattle.fpga_bounds.specs.Keys.{has_elem}
use Rattle.fpga_types.specs.Fit.{same_elem}
use Rattle.fpga_types.specs.declared.route.Elem.{Elem}
use Rattle.route_verify.specs.Gathered.{elems_causes, problem_of}
use Rattle.route_verify.specs.Judge.{HasKept}
use Rattle.route_verify.proofs.gathering.gather_elems.Given as goal

abbrev pub invariant-loop-i : goal.invariant-loop-i
invariant-loop-i l = record {
  elems : l.elems ≡ l.net.elems;
  causes : l.causes.items ++ elems_causes (problem_of l.rules) l.earlier l.net l.i
      ≡ l.initial.causes.items ++ elems_causes (problem_of l.rules) l.earlier l.net 0;
  previous : l.previous ≡ last_or None (take l.i l.elems);
  seen : (e : Elem) → has_elem l.seen e ≡ list_any (same_elem e) (take l.i l.elems);
  kept : HasKept l.kept l.earlier (take l.i l.net.elems);
}
