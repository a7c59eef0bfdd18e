-- What is said of the nets by which a placement needs more tracks than its cut asks for.
use Rattle.std.specs.Prelude.{ℕ, ◌+◌, ◌++◌, List, [], codes, decimal, length, Option, Some, None}
use Rattle.fault_names.specs.NameBytes.{name_said}
use Rattle.fpga_types.specs.declared.netlist.Netlist.{Netlist}
use Rattle.route_bound.specs.declared.range.CornerRange.{CornerRange}
use Rattle.router_says.specs.Seen.{listed}
use Rattle.router_says.specs.declared.phrases.TheConstants.{TO, WINDOW_ALONE, WINDOW_COLUMNS, WINDOW_NETS, WINDOW_ROWS}
use Rattle.route_sweep.specs.NetNames.{net_name}
use Rattle.run_outcome.specs.declared.outcome.Outcome.{Outcome}
use Rattle.run_outcome.specs.declared.outcome.Outcome.TheVariants.{Narrowed}
use Rattle.run_outcome.specs.declared.ran.Reason.{Reason}

-- which columns and rows of blocks have all their corners in the range
abbrev pub window_said : CornerRange → List ℕ
window_said range =
    WINDOW_COLUMNS.now ++ (decimal (range.low.i + 1)
    ++ (TO.now ++ (decimal range.high.i ++ (WINDOW_ROWS.now
    ++ (decimal (range.low.j + 1) ++ (TO.now ++ (decimal range.high.j ++ codes ".")))))))

-- that so many nets are blamed
abbrev pub alone_said : (count : ℕ) → List ℕ
alone_said count = WINDOW_ALONE.now ++ (decimal count ++ WINDOW_NETS.now)

-- a blank, and the name of the net with this number
abbrev pub net_said : Netlist → (number : ℕ) → List ℕ
net_said netlist number = codes " " ++ name_said (net_name netlist number)

-- nets by their numbers, the first by name, and how many more there are
abbrev pub nets_said : Netlist → (row : List ℕ) → List ℕ
nets_said netlist row = listed (net_said netlist) row

-- where the window of a refutation is, and which nets that blames
abbrev pub blamed_said : Reason → List ℕ
blamed_said reason =
    window_said reason.found.range ++ (alone_said (length reason.found.nets.items)
    ++ nets_said reason.netlist reason.found.nets.items)

-- so where an outcome tells of tracks, and such a reason is given for them
abbrev pub raised_said : Option Reason → Outcome → List ℕ
raised_said None outcome = []
raised_said (Some reason) (Narrowed tracks width cut) = blamed_said reason
raised_said (Some reason) outcome = []
