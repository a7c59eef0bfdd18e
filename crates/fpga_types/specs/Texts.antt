-- The four texts that a routing problem is read from.
use Rattle.fpga_text.specs.Bytes.{Bytes}

-- the bytes of an architecture, a netlist, its placement and a global route of it
pub record Texts : Type 0 where
  pub architecture : Bytes
  pub netlist : Bytes
  pub placement : Bytes
  pub route : Bytes
