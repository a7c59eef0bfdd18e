-- The command `bound`: a cut of a placement that many nets cross for each of its cells, what is
-- said of it, and how many tracks it asks for.
use Rattle.std.specs.Prelude.{◌≡◌, ◌⊎◌, ℕ, ◌++◌, List, codes, decimal, flat_map, length, Ok, Err, Result, Option}
use Rattle.fpga_problem.specs.Files.{PosesPlaced}
use Rattle.fpga_types.specs.Problem.{PlacedNetlist}
use Rattle.fpga_types.specs.declared.netlist.Netlist.{Netlist}
use Rattle.route_bound.specs.Crossing.{IsBound}
use Rattle.route_bound.specs.Cuts.{IsBestCut}
use Rattle.route_bound.specs.declared.cut.Cut.{Cut}
use Rattle.run_outcome.specs.Subject.{Bytes, FailsToSay, FileMap, ShelfState, after_say, job_of, BoundAsked, Bounds, Word}
use Rattle.run_outcome.specs.declared.outcome.Outcome.{Outcome}
use Rattle.run_outcome.specs.declared.outcome.Outcome.TheVariants.{Bound, WriteFault}
use Rattle.run_outcome.specs.declared.slot.Slot.TheVariants.{Said}
use Rattle.route_sweep.specs.NetNames.{net_name}
use Rattle.run_outcome.specs.Report.{IsShort}

-- ---- what is said

-- the line that names a cut: the lower left and the upper right one of the corners round which it
-- goes, how many cells it has, and how many nets cross it
abbrev pub cut_line : Cut → Bytes
cut_line cut =
    codes "cut (" ++ (decimal cut.range.low.i ++ (codes "," ++ (decimal cut.range.low.j
    ++ (codes ") (" ++ (decimal cut.range.high.i ++ (codes "," ++ (decimal cut.range.high.j
    ++ (codes ") cells " ++ (decimal cut.cells ++ (codes " nets " ++ (decimal (length cut.nets)
    ++ codes "\n")))))))))))

-- the line that names it
abbrev pub net_line : Netlist → (number : ℕ) → Bytes
net_line netlist number = codes "net " ++ net_name netlist number ++ codes "\n"

-- the line of the cut, and then one for each net that crosses it, in their order
abbrev pub cut_lines : Netlist → Cut → Bytes
cut_lines netlist cut = cut_line cut ++ flat_map (net_line netlist) cut.nets

-- ---- what it comes to

-- how many tracks the cut asks for, and why
abbrev pub bound_outcome : Cut → Outcome
bound_outcome cut = Bound cut.tracks cut.cells (length cut.nets)

-- the lines of the cut were said, and the outcome is what it asks for; or a front part of them was,
-- and the run has failed to write
abbrev pub SaysCut : Netlist → Cut → (before now : ShelfState) → Outcome → Type 0
SaysCut netlist cut before now outcome =
    ((now ≡ after_say before (cut_lines netlist cut)) × (outcome ≡ bound_outcome cut))
    ⊎ (FailsToSay before (cut_lines netlist cut) now × (outcome ≡ WriteFault Said))

-- the lines of the cut were said; or memory ran out, or a front part of them was said, and the run
-- comes to that
abbrev pub HasSaidCut : Netlist → Cut → (before now : ShelfState) → Result (Unit {0}) Outcome
    → Type 0
HasSaidCut netlist cut before now (Ok said) = now ≡ after_say before (cut_lines netlist cut)
HasSaidCut netlist cut before now (Err stop) =
    IsShort before now stop
    ⊎ (FailsToSay before (cut_lines netlist cut) now × (stop ≡ WriteFault Said))

-- so it was; or one of the best cuts of the placed netlist was found and said
abbrev pub BoundsTo : PlacedNetlist → (before now : ShelfState) → Outcome → Type 0
BoundsTo placed before now outcome =
    IsShort before now outcome
    ⊎ ((cut : Cut) × IsBestCut placed cut × SaysCut placed.netlist cut before now outcome)

-- the outcome is what one of the best cuts of the placed netlist asks for
abbrev pub IsTrueOfCut : PlacedNetlist → Outcome → Type 0
IsTrueOfCut placed outcome =
    (cut : Cut) × IsBestCut placed cut × (outcome ≡ bound_outcome cut)

-- the words ask for a bound, and the three files read as the values of a placed netlist; so many
-- nets cross a cut of it with so many cells, for each of which at least as many cross as cross any
-- straight line; with fewer tracks these cells have not as many wires, and no placed routing has
-- fewer tracks
pub record IsBounded (words : List Word) (desk : Option FileMap) (tracks cells nets : ℕ)
    : Type 0 where
  pub job : BoundAsked
  pub asked : job_of words ≡ Ok (Bounds job)
  pub placed : PlacedNetlist
  pub poses : PosesPlaced desk job.files placed
  pub cut : Cut
  pub best : IsBestCut placed cut
  pub tracks_of : tracks ≡ cut.tracks
  pub cells_of : cells ≡ cut.cells
  pub nets_of : nets ≡ length cut.nets
  pub bound : IsBound placed tracks
