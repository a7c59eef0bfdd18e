-- The trees of wires by which the sources of nets lead to their sinks.
use Rattle.std.specs.Prelude.{◌≡◌, ℕ, ◌+◌, ◌/◌, ◌%◌, ◌<◌, ◌≤◌, ◌++◌, true, All, Bool, Contains, List, [], ◌∷◌, Option, None, Some, is_some, length, slice_index_or, slice_set, if◌then◌else◌}
use Rattle.fpga_graph.specs.GraphOf.{GraphOf}
use Rattle.fpga_graph.specs.Wires.{Reaches}
use Rattle.fpga_types.specs.Kinds.{is_opin}
use Rattle.fpga_types.specs.Slots.{elem_pin, slot_at}
use Rattle.fpga_types.specs.declared.grid.PinAt.{PinAt}
use Rattle.fpga_types.specs.declared.grid.Wire.{Wire as WireOf}
use Rattle.fpga_types.specs.declared.problem.Slot.{Slot}
use Rattle.fpga_types.specs.declared.route.RouteNet.{RouteNet}
use Rattle.route_encode.specs.Said.{says}
use Rattle.route_reach.specs.Encoding.{wire_at}
use Rattle.route_reach.specs.Ends.{ins}
use Rattle.route_reach.specs.Reach.{IsJoint}
use Rattle.route_reach.specs.declared.tree.Lead.{Lead}
use Rattle.route_reach.specs.declared.tree.Lead.TheVariants.{Pin, Wire}
use Rattle.route_reach.specs.declared.tree.Reached.{Reached}

-- the wires of one net, slot by slot and in each by track: the number of its first slot among all,
-- the number of tracks, and for each wire how it is reached if it is
pub record TreeOf : Type 0 where
  pub first : ℕ
  pub width : ℕ
  pub wires : List (Option Reached)

-- how the wire of a number is reached, if it is
abbrev pub reached_at : TreeOf → ℕ → Option Reached
reached_at tree k = slice_index_or tree.wires k None

-- the slot of the wire of a number, and its track
abbrev pub tree_slot : TreeOf → ℕ → ℕ
tree_slot tree k = tree.first + k / tree.width

abbrev pub tree_track : TreeOf → ℕ → ℕ
tree_track tree k = k % tree.width

-- the wire of a number, over these slots
abbrev pub tree_wire : List Slot → TreeOf → ℕ → WireOf
tree_wire all tree k = wire_at all (tree_slot tree k) (tree_track tree k)

-- what leads to wire k of a net, which is reached over so many joins: an OPIN of the net that
-- touches its cell and opens its track, or a wire that is reached over one join less and is joined
-- to it
abbrev pub IsLedBy : GraphOf → List Slot → RouteNet → TreeOf → (k depth : ℕ) → Lead → Type 0
IsLedBy g all net tree k depth (Pin e) = (depth ≡ 0) × Contains net.elems e
    × (is_opin e.kind ≡ true)
    × (pin : PinAt) × (elem_pin e ≡ Some pin) × Reaches g pin (tree_wire all tree k)
IsLedBy g all net tree k depth (Wire j) = (s : Reached) × (reached_at tree j ≡ Some s)
    × (depth ≡ s.depth + 1) × IsJoint g (tree_wire all tree j, tree_wire all tree k)

-- the wires that are reached are those of slots of the net at this position, over at most so many
-- joins, and each is led to
pub record IsTree (g : GraphOf) (reach : ℕ) (all : List Slot) (n : ℕ) (net : RouteNet)
    (tree : TreeOf) : Type 0 where
  pub width : tree.width ≡ g.width
  pub within : (k : ℕ) (r : Reached) → reached_at tree k ≡ Some r → tree_slot tree k < length all
  pub own : (k : ℕ) (r : Reached) → reached_at tree k ≡ Some r
      → (slot_at all (tree_slot tree k)).net ≡ n
  pub low : (k : ℕ) (r : Reached) → reached_at tree k ≡ Some r → r.depth ≤ reach
  pub led : (k : ℕ) (r : Reached) → reached_at tree k ≡ Some r
      → IsLedBy g all net tree k r.depth r.lead

-- by the values a wire that is reached is used
abbrev pub IsUsed : List Bool → TreeOf → Type 0
IsUsed values tree = (k : ℕ) (r : Reached) → reached_at tree k ≡ Some r
    → says values tree.width (tree_slot tree k) (tree_track tree k) ≡ true

-- the pin reaches a wire that is reached
pub record IsServed (g : GraphOf) (all : List Slot) (tree : TreeOf) (pin : PinAt) : Type 0 where
  pub number : ℕ
  pub reached : Reached
  pub is : reached_at tree number ≡ Some reached
  pub reaches : Reaches g pin (tree_wire all tree number)

-- each sink of the net is at a wire that is reached
abbrev pub Serves : GraphOf → List Slot → RouteNet → TreeOf → Type 0
Serves g all net tree = All (IsServed g all tree) (ins net)

-- the tree with wire k reached so, unless it was reached before
abbrev pub with_reached : TreeOf → (k : ℕ) → Reached → TreeOf
with_reached tree k r = if is_some (reached_at tree k) then tree
    else record tree { wires = slice_set tree.wires k (Some r) }

-- the numbers with wire k at the end, unless it was reached before
abbrev pub with_new : TreeOf → List ℕ → (k : ℕ) → List ℕ
with_new tree level k = if is_some (reached_at tree k) then level else level ++ k ∷ []
