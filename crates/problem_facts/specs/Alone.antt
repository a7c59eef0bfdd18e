-- Trees that no track serves: under subset switch blocks all slots of a tree have one track, which
-- each of its pins has to open.
use Rattle.std.specs.Prelude.{◌≡◌, ℕ, ◌<◌, ◌==◌, ◌&&◌, not, Bool, true, false, List, [], length, filter, slice_index, slice_index_or}
use Rattle.std.specs.List.{list_any}
use Rattle.fpga_graph.specs.declared.opened.TheConstants.{MOST_TRACKS}
use Rattle.fpga_types.specs.Boxes.{opens}
use Rattle.fpga_types.specs.Problem.{RoutingProblem}
use Rattle.fpga_types.specs.Slots.{pin_steps, slots}
use Rattle.fpga_types.specs.declared.arch.Arch.{Arch}
use Rattle.fpga_types.specs.declared.arch.Pattern.TheVariants.{Subset}
use Rattle.fpga_types.specs.declared.problem.PinStep.{PinStep}
use Rattle.problem_facts.specs.declared.closed_tree.ClosedTree.{ClosedTree}
use Rattle.problem_facts.specs.Crowd.{tree_of}

-- the slot of the pin step is of this tree
abbrev pub is_of_tree : (roots : List ℕ) → (tree : ℕ) → PinStep → Bool
is_of_tree roots tree step = slice_index roots step.slot == tree

-- the slot of the pin step is of this tree, and its pin does not open the track
abbrev pub closes : Arch → (width : ℕ) → (roots : List ℕ) → (tree track : ℕ) → PinStep → Bool
closes arch width roots tree track step =
    is_of_tree roots tree step && not (opens arch width step.pin track)

-- the pin steps of a tree of the problem
abbrev pub pins_of : RoutingProblem → (tree : ℕ) → List PinStep
pins_of p tree = filter (is_of_tree (tree_of p) tree) (pin_steps p.route)

-- each track of a channel is closed to some pin of the tree
abbrev pub HasNoTrack : (width : ℕ) → RoutingProblem → (tree : ℕ) → Type 0
HasNoTrack width p tree = (track : ℕ) → track < width
    → list_any (closes p.arch width (tree_of p) tree track) (pin_steps p.route) ≡ true

-- switch blocks keep tracks, and this is the first slot of a tree that has none
pub record IsTrackless (width : ℕ) (p : RoutingProblem) (tree : ℕ) : Type 0 where
  pub keeps : p.arch.pattern ≡ Subset
  pub slot : tree < length (slots p.route)
  pub closed : HasNoTrack width p tree

-- there is such a tree
abbrev pub HasTrackless : (width : ℕ) → RoutingProblem → Type 0
HasTrackless width p = (tree : ℕ) × IsTrackless width p tree

-- this is such a tree, with its pin steps
abbrev pub IsTracklessTree : (width : ℕ) → RoutingProblem → ClosedTree → Type 0
IsTracklessTree width p found =
    IsTrackless width p found.tree × (found.pins.items ≡ pins_of p found.tree)

-- the rows say of each slot and track whether a pin of one of these steps closes the track to the
-- slot's tree
abbrev pub AreClosed : Arch → (width : ℕ) → (roots : List ℕ) → List PinStep
    → (rows : List (List Bool)) → Type 0
AreClosed arch width roots found rows = (tree track : ℕ) → tree < length rows
    → track < MOST_TRACKS → slice_index_or (slice_index_or rows tree []) track false
    ≡ list_any (closes arch width roots tree track) found

-- each track of a channel is marked
abbrev pub IsFull : (width : ℕ) → List Bool → Type 0
IsFull width row = (track : ℕ) → track < width → slice_index_or row track false ≡ true
