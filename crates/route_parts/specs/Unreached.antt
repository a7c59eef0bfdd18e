-- The sinks of ordinary nets that no wires reach, whatever the other nets have.
use Rattle.std.specs.Prelude.{◌≡◌, ℕ, ◌<◌, false, Some, slice_get}
use Rattle.fpga_types.specs.Placed.{IsPlacedRouting, IsWay, NetWires, Way}
use Rattle.fpga_types.specs.Problem.{PlacedNetlist}
use Rattle.fpga_types.specs.Terminals.{driver_in, terminal_in}
use Rattle.fpga_types.specs.declared.arch.Arch.{Arch}
use Rattle.fpga_types.specs.declared.netlist.Net.{Net}
use Rattle.fpga_types.specs.declared.netlist.Netlist.{Netlist}
use Rattle.fpga_types.specs.declared.netlist.PinRef.{PinRef}
use Rattle.fpga_types.specs.declared.placement.Placement.{Placement}
use Rattle.fpga_types.specs.declared.problem.Terminal.{Terminal}
use Rattle.route_parts.specs.declared.unreached.Unreached.{Unreached}

-- the placed netlist that three values make
abbrev pub placed_netlist : Arch → Netlist → Placement → PlacedNetlist
placed_netlist arch netlist placement =
    record { arch = arch; netlist = netlist; placement = placement }

-- the net has a driver, and a way leads from it to the terminal
pub record IsReached (placed : PlacedNetlist) (width : ℕ) (net : Net) (at : Terminal) : Type 0
  where
    pub driver : Terminal
    pub is_driver : driver_in placed net ≡ Some driver
    pub way : Way
    pub is_way : IsWay placed width driver at way

-- the sink of the net at this pin is reached, if it is there
abbrev pub IsSinkReached : PlacedNetlist → (width : ℕ) → Net → PinRef → Type 0
IsSinkReached placed width net pin =
    (at : Terminal) → terminal_in placed pin ≡ Some at → IsReached placed width net at

-- each sink of the net is reached
abbrev pub AreSinksReached : PlacedNetlist → (width : ℕ) → Net → Type 0
AreSinksReached placed width net = (number : ℕ) (pin : PinRef)
    → slice_get net.sinks number ≡ Some pin → IsSinkReached placed width net pin

-- each sink of each ordinary net is reached
abbrev pub AreNetsReached : PlacedNetlist → (width : ℕ) → Type 0
AreNetsReached placed width = (number : ℕ) (net : Net)
    → slice_get placed.netlist.nets number ≡ Some net → net.global ≡ false
    → AreSinksReached placed width net

-- the sink with this number of the net is there, and is not reached
pub record IsUnreachedSink (placed : PlacedNetlist) (width : ℕ) (net : Net) (number : ℕ) : Type 0
  where
    pub pin : PinRef
    pub is_pin : slice_get net.sinks number ≡ Some pin
    pub at : Terminal
    pub is_there : terminal_in placed pin ≡ Some at
    pub unreached : IsReached placed width net at → ⊥

-- and those before it are reached
pub record IsFirstSink (placed : PlacedNetlist) (width : ℕ) (net : Net) (number : ℕ) : Type 0
  where
    pub is : IsUnreachedSink placed width net number
    pub before : (k : ℕ) (pin : PinRef) → k < number → slice_get net.sinks k ≡ Some pin
        → IsSinkReached placed width net pin

-- the net is an ordinary one, and the sink is the first of its sinks that are not reached
pub record IsUnreachedNet (placed : PlacedNetlist) (width : ℕ) (found : Unreached) : Type 0 where
  pub net : Net
  pub is_net : slice_get placed.netlist.nets found.net ≡ Some net
  pub is_ordinary : net.global ≡ false
  pub sink : IsFirstSink placed width net found.sink

-- and each sink of each ordinary net before it is reached
pub record IsFirstNet (placed : PlacedNetlist) (width : ℕ) (found : Unreached) : Type 0 where
  pub is : IsUnreachedNet placed width found
  pub before : (number : ℕ) (net : Net) → number < found.net
      → slice_get placed.netlist.nets number ≡ Some net → net.global ≡ false
      → AreSinksReached placed width net

-- with a sink of an ordinary net that is not reached, there is no placed routing
abbrev pub HasNoRouting : PlacedNetlist → (width : ℕ) → Type 0
HasNoRouting placed width = (found : Unreached) → IsUnreachedNet placed width found
    → (has : ℕ → NetWires) → IsPlacedRouting placed width has → ⊥
