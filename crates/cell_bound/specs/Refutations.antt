-- What a refutation over the cells of a window says.
use Rattle.std.specs.Prelude.{◌≡◌, ℕ, ◌≤◌, List, length}
use Rattle.fpga_types.specs.Placed.{IsPlacedRouting, NetWires}
use Rattle.fpga_types.specs.Problem.{PlacedNetlist}
use Rattle.route_bound.specs.Ranges.{corners_of}
use Rattle.route_bound.specs.declared.range.CornerRange.{CornerRange}
use Rattle.sat_clause.specs.Formula.{Cnf}
use Rattle.sat_clause.specs.Step.{Step}
use Rattle.sat_clause.specs.declared.limits.TheConstants.{CLAUSE_LIMIT}
use Rattle.cell_clauses.specs.Clauses.{cell_cnf}
use Rattle.cell_clauses.specs.Frames.{Frame, frame_of}
use Rattle.cell_clauses.specs.Parts.{HaveNoRouting}
use Rattle.route_core.specs.Trimmed.{IsTrimmed}
use Rattle.cell_bound.specs.Blamed.{blamed_nets}
use Rattle.cell_bound.specs.declared.refuting.CellRefutation.{CellRefutation}

-- no placed routing has so many tracks or fewer
abbrev pub HasNoRouting : PlacedNetlist → (width : ℕ) → Type 0
HasNoRouting placed width =
    (tracks : ℕ) (has : ℕ → NetWires) → tracks ≤ width → ¬ IsPlacedRouting placed tracks has

-- the formula is that of the clauses over cells of the rectangle's window, which are no more than
-- may be read; the log refutes it, without what a refutation does not need, and so no placed
-- routing has so many tracks or fewer; and these are the nets that it blames: by themselves they
-- have none either, whatever the others would have
pub record IsRefuted (placed : PlacedNetlist) (width : ℕ) (found : CellRefutation) : Type 0 where
  pub formula : found.formula.cnf ≡ cell_cnf (frame_of placed (corners_of found.range) width)
  pub few : length found.formula.cnf.clauses ≤ CLAUSE_LIMIT
  pub trimmed : IsTrimmed found.formula.cnf found.log.steps found.log.steps
  pub none : HasNoRouting placed width
  pub blames : found.nets.items
      ≡ blamed_nets (frame_of placed (corners_of found.range) width)
      found.formula.cnf found.log.steps
  pub alone : HaveNoRouting placed found.nets.items width

-- a log that refutes a formula, which has no more clauses than may be read, without what a
-- refutation does not need
pub record IsCutRefutation (formula : Cnf) (log : List Step) : Type 0 where
  pub few : length formula.clauses ≤ CLAUSE_LIMIT
  pub trimmed : IsTrimmed formula log log

-- what was found for the formula of a rectangle's window
pub record IsFoundFor (frame : Frame) (range : CornerRange) (formula : Cnf) (found : CellRefutation)
    : Type 0 where
  pub range_is : found.range ≡ range
  pub formula_is : found.formula.cnf ≡ formula
  pub refutes : IsCutRefutation formula found.log.steps
  pub blames : found.nets.items ≡ blamed_nets frame formula found.log.steps
