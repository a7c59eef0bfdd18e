-- the wires of the lines so far
use Rattle.std.proofs.Common.{◌≡◌, take}
use Rattle.std.specs.Prelude.{◌||◌}
use Rattle.fpga_types.specs.declared.grid.Wire.{Wire}
use Rattle.route_verify.specs.Lines.{has_wire}
use Rattle.route_verify.specs.Wires.{is_kept}
use Rattle.route_verify.proofs.wires.add_wires.Given as goal

abbrev pub invariant-loop-line : goal.invariant-loop-line
invariant-loop-line l = (wire : Wire) → is_kept l.wires wire
    ≡ (is_kept l.initial.wires wire || has_wire (take l.line-index l.lines) wire)
