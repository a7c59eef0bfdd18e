-- the tracks that the pins of the steps so far do not open were counted
use Rattle.std.proofs.Common.{◌≡◌, ◌≤◌, ◌*◌, length, take}
use Rattle.std.specs.Prelude.{flat_map}
use Rattle.fpga_types.specs.Boxes.{opens}
use Rattle.fpga_types.specs.declared.limits.TheConstants.{WIDTH_LIMIT}
use Rattle.route_encode.specs.Encoding.{open_track}
use Rattle.route_encode.proofs.size.closed_count.Given as goal

abbrev pub invariant-loop-step : goal.invariant-loop-step
invariant-loop-step l = record {
  count : l.closed ≡ length
      (flat_map (open_track (opens l.arch l.width) l.width) (take l.step-index l.pin_steps));
  within : l.closed ≤ l.step-index * WIDTH_LIMIT;
}
