-- What legal routings make of trees where switch blocks keep tracks.
use Rattle.std.specs.Prelude.{◌≡◌, ◌≢◌, ℕ, ◌<◌, List, length, slice_index}
use Rattle.std.specs.List.{AllPairs}
use Rattle.fpga_types.specs.Problem.{RoutingProblem}
use Rattle.fpga_types.specs.Slots.{slots}
use Rattle.problem_facts.specs.Crowd.{tree_of}

-- each slot has the track of the slot that stands for its tree
abbrev pub HaveOneTrack : RoutingProblem → (tracks : List ℕ) → Type 0
HaveOneTrack p tracks = (s : ℕ) → s < length (slots p.route)
    → slice_index tracks (slice_index (tree_of p) s) ≡ slice_index tracks s

-- no two of these slots have one track
abbrev pub HaveDifferentTracks : (tracks row : List ℕ) → Type 0
HaveDifferentTracks tracks row =
    AllPairs (λ s t. slice_index tracks s ≢ slice_index tracks t) row
