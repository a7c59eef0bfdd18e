-- What sets of cells, and the clauses over cells of a window, say of the routings of a placement.
use Rattle.std.specs.Prelude.{◌≡◌, ◌⊎◌, ℕ, ◌*◌, ◌≤◌, Bool, true, List, All, Contains, Some, length, slice_get}
use Rattle.fpga_types.specs.Placed.{IsPlacedRouting, NetWires}
use Rattle.fpga_types.specs.Problem.{PlacedNetlist}
use Rattle.sat_clause.specs.Formula.{Cnf, IsTrueClause, IsUnsat, Satisfies}
use Rattle.sat_clause.specs.Literal.{Clause}
use Rattle.route_bound.specs.Corners.{Corners}
use Rattle.route_bound.specs.Lying.{Cells, cells_in}
use Rattle.cell_clauses.specs.Clauses.{cell_clauses, cell_cnf}
use Rattle.cell_clauses.specs.Demands.{demands}
use Rattle.cell_clauses.specs.Frames.{Frame, frame_of, held_nets}
use Rattle.cell_clauses.specs.Parts.{IsPlacedRoutingOf}
use Rattle.cell_clauses.specs.Places.{variable_count}
use Rattle.cell_clauses.specs.declared.window.WindowNet.{WindowNet}

-- each placed routing with no more tracks gives values that satisfy the clauses
abbrev pub RoutingsAreModels : PlacedNetlist → Corners → (width : ℕ) → Type 0
RoutingsAreModels placed corners width =
    (tracks : ℕ) (has : ℕ → NetWires) → tracks ≤ width → IsPlacedRouting placed tracks has
    → (values : List Bool) × Satisfies values (cell_cnf (frame_of placed corners width))

-- some of the clauses as a formula
abbrev pub part_of : Frame → List Clause → Cnf
part_of f part = record { vars = variable_count f; clauses = part }

-- where no values satisfy some of the clauses, or all, no placed routing has so many tracks or
-- fewer
abbrev pub RefutedHasNoRouting : PlacedNetlist → Corners → (width : ℕ) → Type 0
RefutedHasNoRouting placed corners width = let f : Frame = frame_of placed corners width in
    (part : List Clause) → All (Contains (cell_clauses f)) part → IsUnsat (part_of f part)
    → (tracks : ℕ) (has : ℕ → NetWires) → tracks ≤ width → ¬ IsPlacedRouting placed tracks has

-- the clause demands something of a net of the window that is none of these
pub record DemandsOther (f : Frame) (nets : List ℕ) (clause : Clause) : Type 0 where
  pub place : ℕ
  pub net : WindowNet
  pub is_net : slice_get f.nets place ≡ Some net
  pub other : ¬ Contains nets net.number
  pub demanded : demands f place clause ≡ true

-- the values make each clause over cells true but those
pub record SatisfiesOf (f : Frame) (nets : List ℕ) (values : List Bool) : Type 0 where
  pub one_each : length values ≡ variable_count f
  pub each_clause : All (λ clause. IsTrueClause values clause ⊎ DemandsOther f nets clause)
      (cell_clauses f)

-- each routing of some nets by themselves with no more tracks gives values that satisfy the clauses
-- that demand nothing of another net
abbrev pub PartsAreModels : PlacedNetlist → Corners → (width : ℕ) → Type 0
PartsAreModels placed corners width =
    (nets : List ℕ) (tracks : ℕ) (has : ℕ → NetWires) → tracks ≤ width
    → IsPlacedRoutingOf placed nets tracks has
    → (values : List Bool) × SatisfiesOf (frame_of placed corners width) nets values

-- in every placed routing with so many tracks, the nets of which a set of cells holds a terminal
-- are at most as many as these cells have wires
abbrev pub FewNetsHeld : PlacedNetlist → Cells → (width : ℕ) → Type 0
FewNetsHeld placed cells width = (has : ℕ → NetWires) → IsPlacedRouting placed width has
    → length (held_nets placed cells) ≤ width * length (cells_in placed.placement.grid cells)
