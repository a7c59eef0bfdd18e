-- The tracks that may take one another's place: the changes of tracks that go through each switch
-- block move such groups as a whole.
use Rattle.std.specs.Prelude.{ℕ, ◌-◌, ◌/◌, Bool, true, false, ◌&&◌, not, List, [], ◌∷◌, Option, Some, if◌then◌else◌}
use Rattle.fpga_types.specs.Problem.{RoutingProblem}
use Rattle.fpga_types.specs.declared.arch.Pattern.{Pattern}
use Rattle.fpga_types.specs.declared.arch.Pattern.TheVariants.{Subset, Wilton, Universal}
use Rattle.problem_facts.specs.Full.{are_full_boxes, narrow_boxes_of}
use Rattle.problem_facts.specs.declared.full.Asymmetry.{Asymmetry}
use Rattle.problem_facts.specs.declared.full.Asymmetry.TheVariants.{Pattern as OfPattern}

-- group p of the tracks: under subset blocks each track is a group, under universal ones each track
-- and the one that is as far from the other end; Wilton blocks have none
abbrev pub track_group : Pattern → (width p : ℕ) → List ℕ
track_group Subset width p = p ∷ []
track_group Wilton width p = []
track_group Universal width p = p ∷ (width - 1 - p) ∷ []

-- how many groups there are; the middle track of an odd width is in none of the pairs
abbrev pub group_count : Pattern → (width : ℕ) → ℕ
group_count Subset width = width
group_count Wilton width = 0
group_count Universal width = width / 2

-- the pattern has such groups
abbrev pub is_grouped : Pattern → Bool
is_grouped Subset = true
is_grouped Wilton = false
is_grouped Universal = true

-- the groups of tracks may change places: the pattern has groups, and the boxes of output pins,
-- input pins and pads open every track
abbrev pub is_exchangeable : ℕ → RoutingProblem → Bool
is_exchangeable width p = is_grouped p.arch.pattern && are_full_boxes width p

-- the first of the pattern, the output pins, the input pins and the pads that keeps them from it
abbrev pub obstacle_of : ℕ → RoutingProblem → Option Asymmetry
obstacle_of width p =
    if not (is_grouped p.arch.pattern) then Some OfPattern else narrow_boxes_of width p
