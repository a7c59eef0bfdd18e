-- Routings of a placement, with no cells given beforehand: what each ordinary net has of wires and
-- pins, as a router finds them that looks for a global route and its tracks at once.
use Rattle.std.specs.Prelude.{◌≡◌, ◌≢◌, ℕ, ◌<◌, ◌==◌, Bool, false, not, ◌&&◌, IsTrue, List, [], ◌∷◌, ◌++◌, All, AllPairs, Contains, length, map, zip, slice_get, Some, ⊤}
use Rattle.std.specs.Option.{option_map_or}
use Rattle.fpga_types.specs.Boxes.{Opens}
use Rattle.fpga_types.specs.Fabric.{is_cell}
use Rattle.fpga_types.specs.Problem.{PlacedNetlist}
use Rattle.fpga_types.specs.Size.{Size}
use Rattle.fpga_types.specs.Terminals.{driver_in, is_number_of, is_ordinary, sinks_in}
use Rattle.fpga_types.specs.Touching.{Touches}
use Rattle.fpga_types.specs.Tracks.{AreJoined, mapped_track}
use Rattle.fpga_types.specs.declared.arch.Arch.{Arch}
use Rattle.fpga_types.specs.declared.grid.PinAt.{PinAt}
use Rattle.fpga_types.specs.declared.grid.PinAt.TheVariants.{Pad as PadAt, Pin as PinOf}
use Rattle.fpga_types.specs.declared.grid.Wire.{Wire}
use Rattle.fpga_types.specs.declared.netlist.Net.{Net}
use Rattle.fpga_types.specs.declared.problem.Terminal.{Terminal}
use Rattle.fpga_types.specs.declared.route.Label.TheVariants.{Pad, Pin}

-- the pin is one of the terminal, its pad or one of its class, and takes ordinary nets
abbrev pub is_terminal_pin : Arch → Terminal → PinAt → Bool
is_terminal_pin arch at (PadAt x y sub) =
    x == at.x && y == at.y && is_number_of arch at.label at.number Pad sub
    && is_ordinary arch Pad sub
is_terminal_pin arch at (PinOf x y pin) =
    x == at.x && y == at.y && is_number_of arch at.label at.number Pin pin
    && is_ordinary arch Pin pin

-- a way from a pin of the driver to a pin of a sink: its wires in turn, of which there is one at
-- least
pub record Way : Type 0 where
  pub leaves : PinAt
  pub first : Wire
  pub rest : List Wire
  pub enters : PinAt

-- the wires of a way
abbrev pub way_wires : Way → List Wire
way_wires way = way.first ∷ way.rest

-- the last of some wires, the first of which is this
abbrev pub last_wire : Wire → List Wire → Wire
last_wire u [] = u
last_wire u (v ∷ vs) = last_wire v vs

-- a switch block joins each wire to the next
abbrev pub AreInTurn : (Wire → Wire → Type 0) → Wire → List Wire → Type 0
AreInTurn joins u [] = ⊤
AreInTurn joins u (v ∷ vs) = joins u v × AreInTurn joins v vs

-- the wire is one of the array with so many tracks
pub record IsWire (grid : Size) (width : ℕ) (wire : Wire) : Type 0 where
  pub there : IsTrue (is_cell grid wire.cell)
  pub within : wire.track < width

-- the pin touches the wire's cell, and one of its switches is on the wire's track
pub record OpensWire (arch : Arch) (grid : Size) (width : ℕ) (pin : PinAt) (wire : Wire) : Type 0
  where
    pub touches : Touches arch grid pin wire.cell
    pub opens : Opens arch width pin wire.track

-- the way leaves by a pin of this driver, goes from wire to wire by switches, and comes to a pin of
-- this sink
pub record IsWay (placed : PlacedNetlist) (width : ℕ) (driver sink : Terminal) (way : Way) : Type 0
  where
    pub leaves : IsTrue (is_terminal_pin placed.arch driver way.leaves)
    pub starts : OpensWire placed.arch placed.placement.grid width way.leaves way.first
    pub joined : AreInTurn
        (AreJoined (mapped_track placed.arch.pattern width) placed.placement.grid)
        way.first way.rest
    pub ends : OpensWire placed.arch placed.placement.grid width way.enters
        (last_wire way.first way.rest)
    pub enters : IsTrue (is_terminal_pin placed.arch sink way.enters)

-- what a net has: its wires, and a way for each of its sinks
pub record NetWires : Type 0 where
  pub wires : List Wire
  pub ways : List Way

-- the pins that a net takes: where its ways leave, and where they come to
abbrev pub pins_out : NetWires → List PinAt
pins_out has = map (λ (way : Way). way.leaves) has.ways

abbrev pub pins_in : NetWires → List PinAt
pins_in has = map (λ (way : Way). way.enters) has.ways

abbrev pub net_pins : NetWires → List PinAt
net_pins has = pins_out has ++ pins_in has

-- the net's wires are those of the array, its ways are of them, one for each sink, and no two ways
-- come to one pin
pub record IsNetRouted (placed : PlacedNetlist) (width : ℕ) (net : Net) (has : NetWires) : Type 0
  where
    pub there : All (IsWire placed.placement.grid width) has.wires
    pub own : All (λ (way : Way). All (Contains has.wires) (way_wires way)) has.ways
    pub each : length has.ways ≡ length (sinks_in placed net)
    pub ways : All (λ (at : Terminal × Way). (driver : Terminal)
        × (driver_in placed net ≡ Some driver) × IsWay placed width driver at.0 at.1)
        (zip (sinks_in placed net) has.ways)
    pub pins : AllPairs (λ p q. p ≢ q) (pins_in has)

-- the net with this number is there, and has no dedicated wiring
abbrev pub is_ordinary_net : PlacedNetlist → ℕ → Bool
is_ordinary_net placed number = option_map_or (λ (net : Net). not net.global)
    (slice_get placed.netlist.nets number) false

-- a placed routing with so many tracks: each ordinary net, by number, is routed, and no two of them
-- share a wire or a pin
pub record IsPlacedRouting (placed : PlacedNetlist) (width : ℕ) (has : ℕ → NetWires) : Type 0 where
  pub routed : (number : ℕ) (net : Net) → slice_get placed.netlist.nets number ≡ Some net
      → net.global ≡ false → IsNetRouted placed width net (has number)
  pub wires : (a b : ℕ) → a ≢ b → IsTrue (is_ordinary_net placed a)
      → IsTrue (is_ordinary_net placed b) → (wire : Wire) → Contains (has a).wires wire
      → Contains (has b).wires wire → ⊥
  pub pins : (a b : ℕ) → a ≢ b → IsTrue (is_ordinary_net placed a)
      → IsTrue (is_ordinary_net placed b) → (pin : PinAt) → Contains (net_pins (has a)) pin
      → Contains (net_pins (has b)) pin → ⊥
