use Rattle.std.proofs.Common.{◌≡◌, ◌++◌, [], take}
use Rattle.fpga_bounds.specs.Keys.{has_pin}
use Rattle.fpga_types.specs.Fit.{is_pin_of}
use Rattle.fpga_types.specs.declared.route.Elem.{Elem}
use Rattle.route_verify.specs.Gathered.{nets_causes}
use Rattle.route_verify.specs.Judge.{HasKept}
use Rattle.route_verify.proofs.gathering.gather_nets.Given as goal

abbrev pub invariant-loop-n : goal.invariant-loop-n
invariant-loop-n l = record {
  causes : l.causes.items ++ nets_causes l.judge l.nets l.n
      ≡ l.initial.causes.items ++ nets_causes l.judge l.nets 0;
  pins : (e : Elem) → has_pin l.pins e ≡ is_pin_of (take l.n l.nets) e;
  kept : HasKept l.kept (take l.n l.nets) [];
}
