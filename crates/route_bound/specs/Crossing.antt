-- The nets that cross the cut round a set of corners, and how many of them there can be.
use Rattle.std.specs.Prelude.{◌≡◌, ◌≢◌, ◌⊎◌, ◌↔◌, ℕ, ◌+◌, ◌-◌, ◌*◌, ◌/◌, ◌≤◌, Bool, false, not, ◌&&◌, ◌||◌, List, All, AllPairs, Contains, filter, length, slice_get, Some}
use Rattle.std.specs.List.{list_any, range_with_len}
use Rattle.std.specs.Option.{option_map_or}
use Rattle.fpga_types.specs.Placed.{IsPlacedRouting, NetWires}
use Rattle.fpga_types.specs.Problem.{PlacedNetlist}
use Rattle.fpga_types.specs.Size.{Size}
use Rattle.fpga_types.specs.Terminals.{driver_in, sinks_in}
use Rattle.fpga_types.specs.declared.arch.Arch.{Arch}
use Rattle.fpga_types.specs.declared.grid.Cell.{Cell}
use Rattle.fpga_types.specs.declared.netlist.Net.{Net}
use Rattle.fpga_types.specs.declared.problem.Terminal.{Terminal}
use Rattle.route_bound.specs.Corners.{Corners, has_corner_in, has_corner_out, is_cut_cell, other_side}
use Rattle.route_bound.specs.Lying.{LiesIn, cells_in, lies_in}
use Rattle.route_bound.specs.Walks.{IsParted}

-- the cells of the cut round a set of corners
abbrev pub cut_cells : Size → Corners → List Cell
cut_cells grid corners = cells_in grid (is_cut_cell corners)

-- the terminal is inside the cut or at it: each cell that it touches has a corner in the set; or
-- outside or at it: each has a corner that is not
abbrev pub IsInside : Arch → Size → Corners → Terminal → Type 0
IsInside arch grid corners at = LiesIn arch grid (has_corner_in corners) at

abbrev pub IsOutside : Arch → Size → Corners → Terminal → Type 0
IsOutside arch grid corners at = LiesIn arch grid (has_corner_out corners) at

-- the terminal is at the cut alone: each cell that it touches is one of the cut
abbrev pub IsAtCut : Arch → Size → Corners → Terminal → Type 0
IsAtCut arch grid corners at = LiesIn arch grid (is_cut_cell corners) at

-- one of the two terminals is at the cut alone, or they lie on different sides of it, where each
-- may be at it too
abbrev pub AreAcross : PlacedNetlist → Corners → (a b : Terminal) → Type 0
AreAcross placed corners a b = let arch = placed.arch in let grid = placed.placement.grid in
    (IsAtCut arch grid corners a ⊎ IsAtCut arch grid corners b)
    ⊎ ((IsInside arch grid corners a × IsOutside arch grid corners b)
    ⊎ (IsOutside arch grid corners a × IsInside arch grid corners b))

-- the net with this number is an ordinary one, and its driver and one of its sinks lie across the
-- cut from each other
pub record Crosses (placed : PlacedNetlist) (corners : Corners) (number : ℕ) : Type 0 where
  pub net : Net
  pub is_net : slice_get placed.netlist.nets number ≡ Some net
  pub ordinary : net.global ≡ false
  pub driver : Terminal
  pub is_driver : driver_in placed net ≡ Some driver
  pub sink : Terminal
  pub is_sink : Contains (sinks_in placed net) sink
  pub across : AreAcross placed corners driver sink

-- whether the two terminals lie across the cut from each other
abbrev pub are_across : PlacedNetlist → Corners → (a b : Terminal) → Bool
are_across placed corners a b = let arch = placed.arch in let grid = placed.placement.grid in
    (lies_in arch grid (is_cut_cell corners) a || lies_in arch grid (is_cut_cell corners) b)
    || (lies_in arch grid (has_corner_in corners) a && lies_in arch grid (has_corner_out corners) b
    || lies_in arch grid (has_corner_out corners) a && lies_in arch grid (has_corner_in corners) b)

-- whether the net is an ordinary one that crosses the cut
abbrev pub crosses : PlacedNetlist → Corners → Net → Bool
crosses placed corners net = not net.global && option_map_or
    (λ driver. list_any (are_across placed corners driver) (sinks_in placed net))
    (driver_in placed net) false

-- the numbers of the nets that cross, in the order of the netlist
abbrev pub crossing : PlacedNetlist → Corners → List ℕ
crossing placed corners =
    filter (λ number. option_map_or (crosses placed corners) (slice_get placed.netlist.nets number)
    false) (range_with_len 0 (length placed.netlist.nets))

-- exactly the nets that cross are among them
abbrev pub AreThoseThatCross : PlacedNetlist → Corners → Type 0
AreThoseThatCross placed corners =
    (number : ℕ) → Contains (crossing placed corners) number ↔ Crosses placed corners number

-- the cut round the other corners has the same cells, and the same nets cross it
pub record HasTwoSides (placed : PlacedNetlist) (corners : Corners) : Type 0 where
  pub nets : crossing placed (other_side corners) ≡ crossing placed corners
  pub cells : cut_cells placed.placement.grid (other_side corners)
      ≡ cut_cells placed.placement.grid corners

-- a net that crosses the cut is parted by the cells of the cut
abbrev pub ArePartedByCut : PlacedNetlist → Corners → Type 0
ArePartedByCut placed corners =
    (number : ℕ) → Crosses placed corners number → IsParted placed (is_cut_cell corners) number

-- in every placed routing with so many tracks, nets that cross the cut, each once, are at most as
-- many as the cut's cells have wires
abbrev pub FewNetsCross : PlacedNetlist → Corners → (width : ℕ) → Type 0
FewNetsCross placed corners width = (has : ℕ → NetWires) → IsPlacedRouting placed width has
    → (numbers : List ℕ) → AllPairs (λ a b. a ≢ b) numbers → All (Crosses placed corners) numbers
    → length numbers ≤ width * length (cut_cells placed.placement.grid corners)

-- the least number of tracks, from 1 on, with which so many cells have as many wires as there are
-- nets
abbrev pub tracks_wanted : (nets cells : ℕ) → ℕ
tracks_wanted nets cells = (nets - 1) / cells + 1

-- it is
pub record IsLeast (nets cells tracks : ℕ) : Type 0 where
  pub some : 1 ≤ tracks
  pub enough : nets ≤ tracks * cells
  pub least : (fewer : ℕ) → 1 ≤ fewer → nets ≤ fewer * cells → tracks ≤ fewer

-- how many tracks a cut asks for
abbrev pub bound_of : PlacedNetlist → Corners → ℕ
bound_of placed corners = tracks_wanted (length (crossing placed corners))
    (length (cut_cells placed.placement.grid corners))

-- no placed routing has fewer tracks
abbrev pub IsBound : PlacedNetlist → (tracks : ℕ) → Type 0
IsBound placed tracks = (width : ℕ) (has : ℕ → NetWires) → 1 ≤ width
    → IsPlacedRouting placed width has → tracks ≤ width
