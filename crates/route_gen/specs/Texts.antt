-- How long the texts may be that a routing problem is read from.
use Rattle.std.specs.Prelude.{ℕ, ◌≤◌, length}
use Rattle.fpga_types.specs.Texts.{Texts}

-- each text has at most so many bytes
pub record AreShort (most : ℕ) (texts : Texts) : Type 0 where
  pub architecture : length texts.architecture ≤ most
  pub netlist : length texts.netlist ≤ most
  pub placement : length texts.placement ≤ most
  pub route : length texts.route ≤ most
