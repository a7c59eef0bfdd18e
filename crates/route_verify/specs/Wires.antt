-- The order by which wires are kept, and what a set of wires has.
use Rattle.std.specs.Prelude.{◌≡◌, Bool, ◌||◌, List}
use Rattle.std.specs.BTreeSet.{BTreeSet, contains}
use Rattle.std.specs.declared.cmp.Ordering.{Ordering}
use Rattle.fpga_types.specs.declared.grid.Wire.{Wire}
use Rattle.fpga_types.specs.declared.route.Elem.{Elem}
use Rattle.route_verify.specs.Lines.{has_wire, is_on_wire}
use Rattle.route_verify.specs.declared.wires.WireKey.{WireKey}
use Rattle.route_verify.specs.contracts.wires.WireKeyOrd.TheImpl as wire_key_ord

-- the order of keys
abbrev pub wire_cmp : WireKey → WireKey → Ordering
wire_cmp = (wire_key_ord.ghosts).cmp

-- the key of a wire
abbrev pub wire_key : Wire → WireKey
wire_key wire = record { cell = wire.cell; track = wire.track }

-- the set has the wire
abbrev pub is_kept : BTreeSet WireKey → Wire → Bool
is_kept wires wire = contains wire_cmp wires (wire_key wire)

-- the set afterwards has what it had before, and the line's wire if it is a channel line
abbrev pub GainsWire : BTreeSet WireKey → Elem → BTreeSet WireKey → Type 0
GainsWire before e after = (wire : Wire) → is_kept after wire
    ≡ (is_kept before wire || is_on_wire wire e)

-- the set afterwards has what it had before, and the wires of the lines
abbrev pub GainsWires : BTreeSet WireKey → List Elem → BTreeSet WireKey → Type 0
GainsWires before elems after = (wire : Wire) → is_kept after wire
    ≡ (is_kept before wire || has_wire elems wire)
