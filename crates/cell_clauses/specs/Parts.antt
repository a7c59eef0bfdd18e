-- Routings of some nets of a placement by themselves, whatever its other nets would have.
use Rattle.std.specs.Prelude.{◌≡◌, ◌≢◌, ◌≤◌, ℕ, false, IsTrue, List, Contains, slice_get, Some}
use Rattle.fpga_types.specs.Placed.{IsNetRouted, NetWires, is_ordinary_net, net_pins}
use Rattle.fpga_types.specs.Problem.{PlacedNetlist}
use Rattle.fpga_types.specs.declared.grid.PinAt.{PinAt}
use Rattle.fpga_types.specs.declared.grid.Wire.{Wire}
use Rattle.fpga_types.specs.declared.netlist.Net.{Net}

-- each ordinary net of these, by number, is routed, and no two of them share a wire or a pin
pub record IsPlacedRoutingOf
    (placed : PlacedNetlist) (nets : List ℕ) (width : ℕ) (has : ℕ → NetWires) : Type 0 where
  pub routed : (number : ℕ) (net : Net) → Contains nets number
      → slice_get placed.netlist.nets number ≡ Some net → net.global ≡ false
      → IsNetRouted placed width net (has number)
  pub wires : (a b : ℕ) → a ≢ b → Contains nets a → Contains nets b
      → IsTrue (is_ordinary_net placed a) → IsTrue (is_ordinary_net placed b) → (wire : Wire)
      → Contains (has a).wires wire → Contains (has b).wires wire → ⊥
  pub pins : (a b : ℕ) → a ≢ b → Contains nets a → Contains nets b
      → IsTrue (is_ordinary_net placed a) → IsTrue (is_ordinary_net placed b) → (pin : PinAt)
      → Contains (net_pins (has a)) pin → Contains (net_pins (has b)) pin → ⊥

-- these nets have no routing by themselves with so many tracks or fewer
abbrev pub HaveNoRouting : PlacedNetlist → (nets : List ℕ) → (width : ℕ) → Type 0
HaveNoRouting placed nets width =
    (tracks : ℕ) (has : ℕ → NetWires) → tracks ≤ width → ¬ IsPlacedRoutingOf placed nets tracks has
