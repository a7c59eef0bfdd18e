-- How large a window is.
use Rattle.std.specs.Prelude.{◌≡◌, ◌⊎◌, ℕ, ◌+◌, ◌*◌, ◌<◌, ◌≤◌, length}
use Rattle.sat_clause.specs.declared.limits.TheConstants.{VARIABLE_LIMIT}
use Rattle.cell_clauses.specs.Frames.{Frame}
use Rattle.cell_clauses.specs.Places.{variable_count}
use Rattle.cell_clauses.specs.declared.framing.TheConstants.{WINDOW_CELLS, WINDOW_NETS, WINDOW_SINKS, WINDOW_VARIABLES}
use Rattle.cell_clauses.specs.declared.tallies.Sizes.{Sizes}

-- one of these numbers is above what a window may have
abbrev pub AreTooMany : (nets cells sinks variables : ℕ) → Type 0
AreTooMany nets cells sinks variables =
    (WINDOW_NETS < nets) ⊎ (WINDOW_CELLS < cells) ⊎ (WINDOW_SINKS < sinks)
    ⊎ (WINDOW_VARIABLES < variables)

-- the frame is too large for a window
abbrev pub IsTooLarge : Frame → Type 0
IsTooLarge f =
    AreTooMany (length f.nets) (length f.cells) (length f.arrivals) (variable_count f)

-- how many variables the clauses of a window with these sizes have
abbrev pub variables_of : (nets cells arrivals pins width : ℕ) → ℕ
variables_of nets cells arrivals pins width =
    nets * cells + (nets + 1) * cells * width + arrivals * (pins + 1)

-- the sizes are these, and there are not too many variables
pub record AreSizes (nets cells arrivals pins width : ℕ) (sizes : Sizes) : Type 0 where
  pub nets_are : sizes.nets ≡ nets
  pub cells_are : sizes.cells ≡ cells
  pub width_is : sizes.width ≡ width
  pub few : sizes.nets * sizes.cells + (sizes.nets + 1) * sizes.cells * sizes.width
      + arrivals * (pins + 1) ≤ VARIABLE_LIMIT
