-- When all tracks of a channel are alike: switch blocks join a track to itself alone, and each
-- connection box opens every track.
use Rattle.std.specs.Prelude.{ℕ, ◌==◌, Bool, true, false, ◌&&◌, not, Option, Some, None, if◌then◌else◌}
use Rattle.fpga_types.specs.Boxes.{box_count}
use Rattle.fpga_types.specs.Fc.{Fc}
use Rattle.fpga_types.specs.Problem.{RoutingProblem}
use Rattle.fpga_types.specs.declared.arch.Pattern.{Pattern}
use Rattle.fpga_types.specs.declared.arch.Pattern.TheVariants.{Subset, Wilton, Universal}
use Rattle.problem_facts.specs.declared.full.Asymmetry.{Asymmetry}
use Rattle.problem_facts.specs.declared.full.Asymmetry.TheVariants.{Inputs, Outputs, Pads, Pattern as OfPattern}

-- the pattern is the subset one
abbrev pub is_subset : Pattern → Bool
is_subset Subset = true
is_subset Wilton = false
is_subset Universal = false

-- a box with this share opens every track
abbrev pub is_full_box : Fc → (width value : ℕ) → Bool
is_full_box fc width value = box_count fc.fractional width value == width

-- the boxes of output pins, input pins and pads open every track
abbrev pub are_full_boxes : ℕ → RoutingProblem → Bool
are_full_boxes width p = is_full_box p.arch.fc width p.arch.fc.output
    && is_full_box p.arch.fc width p.arch.fc.input && is_full_box p.arch.fc width p.arch.fc.pad

-- the pattern is the subset one, and the boxes are full
abbrev pub is_symmetric : ℕ → RoutingProblem → Bool
is_symmetric width p = is_subset p.arch.pattern && are_full_boxes width p

-- the first of the output pins, the input pins and the pads whose boxes are not full
abbrev pub narrow_boxes_of : ℕ → RoutingProblem → Option Asymmetry
narrow_boxes_of width p =
    if not (is_full_box p.arch.fc width p.arch.fc.output) then Some Outputs
    else if not (is_full_box p.arch.fc width p.arch.fc.input) then Some Inputs
    else if not (is_full_box p.arch.fc width p.arch.fc.pad) then Some Pads
    else None

-- the first of the pattern and the boxes that is not as it is there
abbrev pub asymmetry_of : ℕ → RoutingProblem → Option Asymmetry
asymmetry_of width p =
    if not (is_subset p.arch.pattern) then Some OfPattern else narrow_boxes_of width p
