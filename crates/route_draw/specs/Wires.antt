-- Which wires a picture shows of a net, and where.
use Rattle.std.specs.Prelude.{◌≡◌, ℕ, ◌+◌, ◌*◌, ◌/◌, Bool, false, not, ◌&&◌, IsTrue, List, [], ◌∷◌, ◌++◌, Option, None, Some, codes, decimal, is_some, max, min, if◌then◌else◌}
use Rattle.fpga_types.specs.Fabric.{is_cell}
use Rattle.fpga_types.specs.Kinds.{is_sink}
use Rattle.fpga_types.specs.Size.{Size}
use Rattle.fpga_types.specs.Slots.{elem_cell}
use Rattle.fpga_types.specs.declared.grid.Axis.{Axis}
use Rattle.fpga_types.specs.declared.grid.Axis.TheVariants.{X, Y}
use Rattle.fpga_types.specs.declared.grid.Cell.{Cell}
use Rattle.fpga_types.specs.declared.route.Elem.{Elem}
use Rattle.fpga_types.specs.declared.route.RouteText.{RouteText}
use Rattle.route_draw.specs.Needs.{AreNeeds, wanted}
use Rattle.route_draw.specs.Parts.{AreParts}
use Rattle.route_draw.specs.declared.scale.TheConstants.{BLOCK, CHANNEL, TILE}

-- a channel line that stands behind no SINK; one behind a SINK names a wire again
abbrev pub wire_line : (behind_sink : Bool) → Elem → List Elem
wire_line behind_sink e = if not behind_sink && is_some (elem_cell e) then e ∷ [] else []

-- such lines among some, in their order, of which the first stands behind a SINK or not
abbrev pub wires_from : (behind_sink : Bool) → List Elem → List Elem
wires_from behind_sink [] = []
wires_from behind_sink (e ∷ es) = wire_line behind_sink e ++ wires_from (is_sink e.kind) es

-- the lines that name the wires of a net, each wire for the first time
abbrev pub wires_of : List Elem → List Elem
wires_of elems = wires_from false elems

-- how the wires of a route stand in the channels of an array: on their tracks, or else side by side
-- in each cell; how many tracks each cell wants, and how many there are
pub record Layout : Type 0 where
  pub grid : Size
  pub on_tracks : Bool
  pub wants : Cell → ℕ
  pub width : ℕ

abbrev pub layout_of : (on_tracks : Bool) → RouteText → (width : ℕ) → Layout
layout_of on_tracks route width = record {
  grid = route.grid;
  on_tracks = on_tracks;
  wants = wanted on_tracks route;
  width = width;
}

-- how far a track is from the start of a channel that has so many
abbrev pub track_place : (track tracks : ℕ) → ℕ
track_place track tracks = min (CHANNEL * (track + 1) / (tracks + 1)) CHANNEL

-- a wire in a cell of the array is so far from the start of its channel: on its track, if the
-- wires stand so, among as many as there are or the cell wants
abbrev pub IsAcross : Layout → Cell → (track across : ℕ) → Type 0
IsAcross layout cell track across = IsTrue layout.on_tracks → IsTrue (is_cell layout.grid cell)
    → across ≡ track_place track (max (layout.wants cell) layout.width)

-- the line of a wire that is so far from the start of its channel: along the block of its cell
abbrev pub path_along : Axis → (x y across : ℕ) → List ℕ
path_along X x y across =
    codes "M" ++ decimal (x * TILE) ++ codes " " ++ decimal (y * TILE + BLOCK + across)
    ++ codes "h" ++ decimal BLOCK
path_along Y x y across =
    codes "M" ++ decimal (x * TILE + BLOCK + across) ++ codes " " ++ decimal (y * TILE)
    ++ codes "v" ++ decimal BLOCK

-- of a channel line of this track: its wire, in its cell and on its track
abbrev pub IsWireIn : Layout → Option Cell → (track : ℕ) → List ℕ → Type 0
IsWireIn layout None track text = text ≡ []
IsWireIn layout (Some cell) track text =
    (across : ℕ) × IsAcross layout cell track across
    × (text ≡ path_along cell.axis cell.x cell.y across)

abbrev pub IsWire : Layout → Elem → List ℕ → Type 0
IsWire layout e text = IsWireIn layout (elem_cell e) e.number text

-- what is drawn of a net: a path that begins with its wires, each once and in order
pub record AreWires (layout : Layout) (elems : List Elem) (drawn : List ℕ) : Type 0 where
  pub wires : List ℕ
  pub rest : List ℕ
  pub are_wires : AreParts (IsWire layout) (wires_of elems) wires
  pub drawn_is : drawn ≡ codes "<path d=\"" ++ wires ++ rest

-- where wires stand, to the program: how many tracks each cell wants, by its number
pub record LanesOf : Type 0 where
  pub grid : Size
  pub on_tracks : Bool
  pub needs : List ℕ
  pub width : ℕ

-- they stand so
pub record AreLanes (layout : Layout) (lanes : LanesOf) : Type 0 where
  pub grid : lanes.grid ≡ layout.grid
  pub on_tracks : lanes.on_tracks ≡ layout.on_tracks
  pub needs : AreNeeds layout.grid layout.wants lanes.needs
  pub width : lanes.width ≡ layout.width
