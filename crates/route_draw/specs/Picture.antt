-- What a picture shows, as a text of SVG.
use Rattle.std.specs.Prelude.{◌≡◌, ℕ, Bool, true, false, List, [], ◌++◌, Option, None, Some, codes, flat_map}
use Rattle.fpga_types.specs.CellNumbers.{cell_count}
use Rattle.fpga_types.specs.Problem.{RoutingProblem}
use Rattle.fpga_types.specs.Size.{Size}
use Rattle.fpga_types.specs.declared.netlist.Block.{Block}
use Rattle.fpga_types.specs.declared.netlist.BlockKind.{BlockKind}
use Rattle.fpga_types.specs.declared.netlist.BlockKind.TheVariants.{Input, Output, Logic}
use Rattle.fpga_types.specs.declared.netlist.Net.{Net}
use Rattle.fpga_types.specs.declared.route.RouteNet.{RouteNet}
use Rattle.fpga_types.specs.declared.route.RouteText.{RouteText}
use Rattle.route_draw.specs.Blamed.{Blame, mark_of}
use Rattle.route_draw.specs.Caption.{AreCounts}
use Rattle.route_draw.specs.Colour.{colour_of}
use Rattle.route_draw.specs.Crowded.{AreCrowded}
use Rattle.route_draw.specs.Cut.{AreBands, CutSaid}
use Rattle.route_draw.specs.Escape.{escaped}
use Rattle.route_draw.specs.Label.{IsLabelled}
use Rattle.route_draw.specs.Needs.{has_tracks}
use Rattle.route_draw.specs.Parts.{AreParts}
use Rattle.route_draw.specs.Ruler.{AreRulers}
use Rattle.route_draw.specs.Wires.{AreWires, Layout, layout_of}

-- what stands before the name of a group, and what stands behind it
abbrev pub opening : (mark class colour : List ℕ) → List ℕ
opening mark class colour =
    codes "<g class=\"" ++ mark ++ class ++ colour ++ codes "\"><title>"

abbrev pub closing : (drawn : List ℕ) → List ℕ
closing drawn = codes "</title>" ++ drawn ++ codes "</g>\n"

-- a group with this mark, class and colour, with its name, which a viewer shows under the pointer,
-- and with what is drawn
abbrev pub group : (mark class colour name drawn : List ℕ) → List ℕ
group mark class colour name drawn =
    opening mark class colour ++ flat_map escaped name ++ closing drawn

-- the class of a block, by its kind
abbrev pub block_class : BlockKind → List ℕ
block_class Logic = codes "l"
block_class Input = codes "i"
block_class Output = codes "o"

-- a block: a group of its class with its whole name, and in it a rectangle with the name as it is
-- shown there
abbrev pub IsBlock : Block → List ℕ → Type 0
IsBlock block text =
    (drawn : List ℕ) × IsLabelled block.name drawn
    × (text ≡ group [] (block_class block.kind) [] block.name drawn)

-- of a net of the netlist: a group with its mark and name if it is global, and else nothing
abbrev pub IsGlobalIf : Bool → (mark name : List ℕ) → List ℕ → Type 0
IsGlobalIf true mark name text =
    (drawn : List ℕ) × (text ≡ group mark (codes "g") [] name drawn)
IsGlobalIf false mark name text = text ≡ []

abbrev pub IsGlobal : Blame → Net → List ℕ → Type 0
IsGlobal blame net text = IsGlobalIf net.global (mark_of blame net.name) net.name text

-- of a net of the route: nothing if it is global, and else a group in the colour of a number with
-- its mark and name, in which its wires stand
abbrev pub IsRoutedUnless : Bool → Layout → (mark : List ℕ) → RouteNet → List ℕ → Type 0
IsRoutedUnless true layout mark net text = text ≡ []
IsRoutedUnless false layout mark net text =
    (number : ℕ) × ((drawn : List ℕ) × AreWires layout net.elems drawn
    × (text ≡ group mark (codes "n\" stroke=\"") (colour_of number) net.name drawn))

abbrev pub IsRouted : Layout → Blame → RouteNet → List ℕ → Type 0
IsRouted layout blame net text =
    IsRoutedUnless net.global layout (mark_of blame net.name) net text

-- the blocks, the global nets and the nets of the route, each once and in their order
pub record IsBody (problem : RoutingProblem) (layout : Layout) (blame : Blame) (text : List ℕ) :
    Type 0 where
  pub blocks : List ℕ
  pub globals : List ℕ
  pub nets : List ℕ
  pub are_blocks : AreParts IsBlock problem.netlist.blocks blocks
  pub are_globals : AreParts (IsGlobal blame) problem.netlist.nets globals
  pub are_nets : AreParts (IsRouted layout blame) problem.route.nets nets
  pub text_is : text ≡ blocks ++ globals ++ nets

-- of a cut that is shown: a group with its line for a name, in which a band lies over each of its
-- cells and over no other; and nothing where none is
abbrev pub IsCutIf : Size → Option CutSaid → List ℕ → Type 0
IsCutIf grid None text = text ≡ []
IsCutIf grid (Some cut) text =
    (colour : List ℕ) × ((bands : List ℕ) × AreBands grid cut.range (cell_count grid) bands
    × (text ≡ group [] (codes "cut\" fill-opacity=\".4\" fill=\"") colour cut.line bands))

-- a picture of a problem, whose wires stand so in the channels: one element of SVG from its start
-- to its end, with the cells of a cut if one is shown, all blocks and nets, a mark on each crowded
-- cell and on no other, beside them the numbers of columns and rows, and below them the counts and
-- a key
pub record IsPictureOf (problem : RoutingProblem) (layout : Layout) (blame : Blame)
    (shown : Option CutSaid) (text : List ℕ) : Type 0 where
  pub head : List ℕ
  pub cut : List ℕ
  pub body : List ℕ
  pub marks : List ℕ
  pub rulers : List ℕ
  pub line : List ℕ
  pub key : List ℕ
  pub is_cut : IsCutIf layout.grid shown cut
  pub is_body : IsBody problem layout blame body
  pub are_crowded : AreCrowded layout marks key
  pub are_rulers : AreRulers layout.grid rulers
  pub are_counts : AreCounts problem layout.width blame line
  pub text_is : text ≡ codes "<svg " ++ head ++ cut ++ body ++ marks ++ codes "</g>\n"
      ++ rulers ++ line ++ key ++ codes "</svg>\n"

-- a picture of a problem and its route, with so many tracks in each channel, and of a cut if one is
-- shown
abbrev pub IsPicture : RoutingProblem → (width : ℕ) → Blame → (shown : Option CutSaid) → List ℕ
    → Type 0
IsPicture problem width blame shown text =
    let route : RouteText = problem.route in
    IsPictureOf problem (layout_of (has_tracks route.nets) route width) blame shown text

-- a picture of a routing of a problem, whose wires stand on their tracks
abbrev pub IsRoutedPicture : RoutingProblem → RouteText → (width : ℕ) → List ℕ → Type 0
IsRoutedPicture problem found width text =
    IsPictureOf (record problem { route = found }) (layout_of true found width) None None text
