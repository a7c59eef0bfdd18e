-- What stands below a picture.
use Rattle.std.specs.Prelude.{◌≡◌, ℕ, zero, suc, List, [], ◌++◌, Some, None, codes, decimal, filter, length}
use Rattle.fpga_types.specs.Problem.{RoutingProblem}
use Rattle.fpga_types.specs.declared.netlist.Net.{Net}
use Rattle.route_draw.specs.Blamed.{Blame}

-- what a line of the caption begins with
abbrev pub line_opening : (y : ℕ) → List ℕ
line_opening y = codes "<text class=\"k\" x=\"180\" y=\"" ++ decimal y ++ codes "\">"

-- so many nets, some of them global, and so many blocks and tracks
abbrev pub counted : (nets globals blocks width : ℕ) → List ℕ
counted nets globals blocks width =
    codes "nets: " ++ decimal nets ++ codes " (global: " ++ decimal globals
    ++ codes "), blocks: " ++ decimal blocks
    ++ codes ", tracks in each channel: " ++ decimal width

-- so many nets are to blame
abbrev pub blamed_said : ℕ → List ℕ
blamed_said count = codes ", nets to blame, bold: " ++ decimal count

-- how many of the nets are to blame, if that is shown
abbrev pub blamed_counted : Blame → List Net → List ℕ
blamed_counted None nets = []
blamed_counted (Some blamed) nets =
    blamed_said (length (filter (λ (net : Net). blamed net.name) nets))

-- how many nets are global
abbrev pub global_count : List Net → ℕ
global_count nets = length (filter (λ (net : Net). net.global) nets)

-- the first line: how many nets the netlist has, how many of these are global and how many are to
-- blame, and how many blocks and tracks there are
abbrev pub AreCounts : RoutingProblem → (width : ℕ) → Blame → List ℕ → Type 0
AreCounts problem width blame text =
    (y : ℕ) × (text ≡ line_opening y
    ++ counted (length problem.netlist.nets) (global_count problem.netlist.nets)
    (length problem.netlist.blocks) width
    ++ blamed_counted blame problem.netlist.nets ++ codes "</text>\n")

-- so many cells are crowded
abbrev pub crowded_cells : ℕ → List ℕ
crowded_cells crowded =
    codes "<tspan fill=\"#e00000\">&#9632; cells that want more tracks: " ++ decimal crowded
    ++ codes "</tspan></text>\n"

-- the last line, where some cells are crowded: how many
abbrev pub crowd_counted : (y crowded : ℕ) → List ℕ
crowd_counted y zero = []
crowd_counted y (suc n) = line_opening y ++ crowded_cells (suc n)

-- a key to the colours, and how many cells are crowded
abbrev pub IsKey : (crowded : ℕ) → List ℕ → Type 0
IsKey crowded text =
    (colours : List ℕ) × ((y : ℕ) × (text ≡ colours ++ crowd_counted y crowded))
