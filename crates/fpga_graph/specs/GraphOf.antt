-- What contracts see of a graph of wires.
use Rattle.std.specs.Prelude.{ℕ, ◌≤◌}
use Rattle.fpga_types.specs.Size.{Size}
use Rattle.fpga_types.specs.declared.arch.Arch.{Arch}
use Rattle.fpga_types.specs.declared.limits.TheConstants.{WIDTH_LIMIT}

-- the wires of an array at a width, with the switch blocks and connection boxes of an architecture
pub record GraphOf : Type 0 where
  pub arch : Arch
  pub grid : Size
  pub width : ℕ

-- a channel has at least one track, and at most so many as may be
pub record IsWidth (width : ℕ) : Type 0 where
  pub some : 1 ≤ width
  pub most : width ≤ WIDTH_LIMIT
