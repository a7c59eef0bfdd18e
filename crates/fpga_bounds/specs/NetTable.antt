-- Nets by what their names are found with, and which of them a route has.
use Rattle.std.specs.Prelude.{◌≡◌, ℕ, Bool, false, List, length, slice_index_or, Option, Some}
use Rattle.std.specs.BTreeMap.{BTreeMap}
use Rattle.std.specs.Borrow.{Bor}
use Rattle.std.specs.List.{position_from}
use Rattle.fpga_text.specs.Bytes.{Bytes}
use Rattle.fpga_types.specs.Fits.{has_net}
use Rattle.fpga_types.specs.Names.{number_in}
use Rattle.fpga_types.specs.Terminals.{is_net_named}
use Rattle.fpga_types.specs.declared.netlist.Net.{Net}
use Rattle.fpga_types.specs.declared.route.RouteNet.{RouteNet}

-- the number of the first net with this name
abbrev pub number_named : List Net → Bytes → Option ℕ
number_named nets name = position_from (is_net_named name) 0 nets

-- each name has the number of the first net with this name, if there is one
pub record AreNumbered (nets : List Net) (numbers : BTreeMap (Bor Bytes) ℕ) : Type 0 where
  pub found : (name : Bytes) → number_in numbers name ≡ number_named nets name

-- of each name that the netlist has, the mark at its number says whether one of these nets of the
-- route has it
pub record HasNetLines (nets : List Net) (marks : List Bool) (lines : List RouteNet) : Type 0 where
  pub count : length marks ≡ length nets
  pub marked : (name : Bytes) (number : ℕ) → number_named nets name ≡ Some number
      → slice_index_or marks number false ≡ has_net lines name
