-- The command `least`: how many tracks a placement needs, from both sides.
use Rattle.std.specs.Prelude.{◌≡◌, ◌⊎◌, ℕ, ◌<◌, ◌≤◌, ⊤, Bool, true, is_some, List, length, Ok, Option}
use Rattle.fpga_types.specs.Placed.{IsPlacedRouting, NetWires}
use Rattle.fpga_types.specs.Problem.{PlacedNetlist}
use Rattle.route_bound.specs.Crossing.{IsBound}
use Rattle.route_bound.specs.Cuts.{IsBestCut}
use Rattle.route_bound.specs.declared.cut.Cut.{Cut}
use Rattle.route_judge.specs.Says.{SaysRouting}
use Rattle.run_outcome.specs.Report.{IsShort}
use Rattle.run_placed.specs.Bound.{cut_lines}
use Rattle.run_placed.specs.Global.{EndsUnfound, HasFiles, IsFoundRoute, LacksFiles}
use Rattle.run_placed.specs.Raised.{IsRaised, least_names, narrowed_files}
use Rattle.run_outcome.specs.Written.{AreWritten, WritesFiles}
use Rattle.run_placed.specs.declared.narrowing.FoundAt.{FoundAt}
use Rattle.run_placed.specs.declared.raising.Raised.{Raised}
use Rattle.run_outcome.specs.Subject.{FailsToSay, FileMap, ShelfState, after_say, RouteText, job_of, GlobalAsked, LeastAsked, Narrows, Word, IsStopped, IsHalted}
use Rattle.run_outcome.specs.declared.outcome.Outcome.{Outcome}
use Rattle.run_outcome.specs.declared.outcome.Outcome.TheVariants.{Beyond, Narrowed, Unfound, WriteFault, OutOfMemory}
use Rattle.run_outcome.specs.declared.slot.Slot.TheVariants.{Said, File}
use Rattle.run_outcome.specs.Scene.{Scene}

-- ---- what is asked for

-- the search for a route at a width
abbrev pub at_width : LeastAsked → (width : ℕ) → GlobalAsked
at_width job width = record {
  files = job.files;
  width = width;
  prefix = job.prefix;
  free = job.free;
  from = job.from;
  rounds = job.rounds;
  seconds = job.seconds;
  stats = job.stats;
}

-- the last one
abbrev pub last_asked : LeastAsked → GlobalAsked
last_asked job = at_width job job.last

-- ---- what is found

-- a route was found at a width from so many tracks up to the last
pub record IsFoundAt (job : LeastAsked) (placed : PlacedNetlist) (tracks : ℕ) (at : FoundAt)
    : Type 0 where
  pub from : tracks ≤ at.width
  pub to : at.width ≤ job.last
  pub route : IsFoundRoute (at_width job at.width) placed at.found

-- more tracks are needed than were to be tried: as many as the cut asks for
abbrev pub beyond_outcome : Cut → Outcome
beyond_outcome cut = Beyond cut.tracks cut.cells (length cut.nets)

-- the cut asks for more tracks than were to be tried; or none of the searches found a route
abbrev pub EndsOpen : LeastAsked → Cut → Outcome → Type 0
EndsOpen job cut outcome =
    ((job.last < cut.tracks) × (outcome ≡ beyond_outcome cut))
    ⊎ ((cut.tracks ≤ job.last) × EndsUnfound (is_some job.seconds) job.last job.rounds outcome)

-- ---- what is left

-- a bound was raised from that of the cut on, and a route was found at a width from it on
pub record IsFoundFrom
    (job : LeastAsked) (placed : PlacedNetlist) (cut : Cut) (raised : Raised) (at : FoundAt)
    : Type 0 where
  pub raised_from : IsRaised placed cut.tracks raised
  pub found : IsFoundAt job placed raised.tracks at

-- nothing was written, since no route was found or memory ran out; or one was found at a width from
-- this bound on, and its file was written, and what raised the bound behind it, or not whole
abbrev pub LeavesRaised : LeastAsked → PlacedNetlist → (cut : ℕ) → Raised
    → (before now : ShelfState) → Outcome → Type 0
LeavesRaised job placed cut raised before now outcome =
    ((EndsUnfound (is_some job.seconds) job.last job.rounds outcome ⊎ (outcome ≡ OutOfMemory))
    × (now ≡ before))
    ⊎ ((at : FoundAt) × IsFoundAt job placed raised.tracks at
    × WritesFiles (Narrowed raised.tracks at.width cut)
    (narrowed_files (least_names job.prefix) at.found raised.tracks raised.why) before now outcome)

-- nothing was written, since no route was found, or memory ran out; or one was found at a width
-- from the raised bound on, and its file was written, and what raised the bound behind it, or not
-- whole
abbrev pub LeavesWidths : LeastAsked → PlacedNetlist → Cut → (before now : ShelfState) → Outcome
    → Type 0
LeavesWidths job placed cut before now outcome =
    ((EndsOpen job cut outcome ⊎ (outcome ≡ OutOfMemory)) × (now ≡ before))
    ⊎ ((raised : Raised) × (at : FoundAt) × IsFoundFrom job placed cut raised at
    × WritesFiles (Narrowed raised.tracks at.width cut.tracks)
    (narrowed_files (least_names job.prefix) at.found raised.tracks raised.why) before now outcome)

-- a front part of the lines of the cut was said, and the run has failed to write; or they were
-- said, and this is what the searches leave
abbrev pub LeavesCut : LeastAsked → PlacedNetlist → Cut → (before now : ShelfState) → Outcome
    → Type 0
LeavesCut job placed cut before now outcome =
    (FailsToSay before (cut_lines placed.netlist cut) now × (outcome ≡ WriteFault Said))
    ⊎ LeavesWidths job placed cut (after_say before (cut_lines placed.netlist cut)) now outcome

-- memory ran out before anything was said; or one of the best cuts was found, and this is left
abbrev pub LeavesNarrowed : LeastAsked → PlacedNetlist → (before now : ShelfState) → Outcome
    → Type 0
LeavesNarrowed job placed before now outcome =
    IsShort before now outcome
    ⊎ ((cut : Cut) × IsBestCut placed cut × LeavesCut job placed cut before now outcome)

-- ---- what the answers mean

-- the words ask how many tracks a placement needs, the files read, and one of its best cuts asks
-- for so many tracks, than which no placed routing has fewer
pub record IsCutOfLeast (words : List Word) (desk : Option FileMap) (cut : Cut) : Type 0 where
  pub job : LeastAsked
  pub asked : job_of words ≡ Ok (Narrows job)
  pub placed : PlacedNetlist
  pub files : HasFiles desk (last_asked job) placed
  pub best : IsBestCut placed cut
  pub bound : IsBound placed cut.tracks

-- so it is, and no placed routing has fewer than so many tracks: the cut asks for as many, or it
-- asks for fewer, and clauses over the cells of a window are refuted with one track fewer. A route
-- was found at a width from there up to the last, and these files alone were written: the printed
-- form of a route that is judged legal at this width and says a routing of the placement, which
-- reads back; and where clauses were refuted, these and the log that refutes them. Where that width
-- is as many tracks as the bound, it is the least of the placement: every placed routing has at
-- least as many
pub record IsNarrowed
    (words : List Word) (desk before now : Option FileMap) (tracks width by_cut : ℕ)
    : Type 0 where
  pub cut : Cut
  pub least : IsCutOfLeast words desk cut
  pub cut_of : by_cut ≡ cut.tracks
  pub raised : Raised
  pub tracks_of : tracks ≡ raised.tracks
  pub reason : IsRaised least.placed cut.tracks raised
  pub bound : IsBound least.placed tracks
  pub from : tracks ≤ width
  pub to : width ≤ least.job.last
  pub found : RouteText
  pub route : IsFoundRoute (at_width least.job width) least.placed found
  pub says : (has : ℕ → NetWires) × SaysRouting least.placed width found has
  pub written : AreWritten
      (narrowed_files (least_names least.job.prefix) found raised.tracks raised.why) before now
  pub is_least : width ≡ tracks → IsBound least.placed width

-- so it is, and these are more tracks than were to be tried: no placed routing has so few, and no
-- file has changed
pub record IsBeyond (words : List Word) (desk before now : Option FileMap) (tracks cells nets : ℕ)
    : Type 0 where
  pub cut : Cut
  pub least : IsCutOfLeast words desk cut
  pub tracks_of : tracks ≡ cut.tracks
  pub cells_of : cells ≡ cut.cells
  pub nets_of : nets ≡ length cut.nets
  pub beyond : least.job.last < tracks
  pub none : (width : ℕ) (has : ℕ → NetWires) → 1 ≤ width → width ≤ least.job.last
      → ¬ IsPlacedRouting least.placed width has
  pub same : now ≡ before

-- so it is, and none was found at any width up to the last, in at most so many rounds at each,
-- which are at most as many as were asked for, and which the clock may have ended where the words
-- set a limit of time; no file has changed
pub record IsUnnarrowed
    (words : List Word) (desk before now : Option FileMap) (width rounds : ℕ) (stopped : Bool)
    : Type 0 where
  pub cut : Cut
  pub least : IsCutOfLeast words desk cut
  pub width_is : width ≡ least.job.last
  pub rounds_most : rounds ≤ least.job.rounds
  pub timed : stopped ≡ true → is_some least.job.seconds ≡ true
  pub within : cut.tracks ≤ width
  pub same : now ≡ before

-- ---- what is said first

-- what an outcome tells of the cut whose lines were said before it
abbrev pub IsOfCut : Cut → Outcome → Type 0
IsOfCut cut (Narrowed tracks width by_cut) = (by_cut ≡ cut.tracks) × (by_cut ≤ tracks)
IsOfCut cut (Beyond tracks cells nets) = Beyond tracks cells nets ≡ beyond_outcome cut
IsOfCut cut (Unfound width rounds stopped) = cut.tracks ≤ width
IsOfCut cut (WriteFault (File slot)) = ⊤
IsOfCut cut OutOfMemory = ⊤
IsOfCut cut outcome = ⊥

-- the words ask how many tracks a placement needs, and these lines name one of its best cuts, of
-- which the outcome tells, and exactly the nets that cross it, in order
pub record AreLeastLines
    (words : List Word) (desk : Option FileMap) (outcome : Outcome) (lead : List ℕ)
    : Type 0 where
  pub cut : Cut
  pub least : IsCutOfLeast words desk cut
  pub tells : IsOfCut cut outcome
  pub is : lead ≡ cut_lines least.placed.netlist cut

-- the outcome tells of a cut that was said
abbrev pub IsNarrowing : Outcome → Type 0
IsNarrowing (Narrowed tracks width by_cut) = Unit {0}
IsNarrowing (Beyond tracks cells nets) = Unit {0}
IsNarrowing (Unfound width rounds stopped) = Unit {0}
IsNarrowing outcome = ⊥

-- ---- what is true

-- some route is judged legal at a width from a bound on that was raised from that of the cut, and
-- the outcome is that one was found there; or it is that none was, or that the cut asks for too
-- many
abbrev pub IsTrueOfWidths : LeastAsked → PlacedNetlist → Cut → Outcome → Type 0
IsTrueOfWidths job placed cut outcome =
    EndsOpen job cut outcome
    ⊎ ((raised : Raised) × (at : FoundAt) × IsFoundFrom job placed cut raised at
    × (outcome ≡ Narrowed raised.tracks at.width cut.tracks))

-- so it is of one of the best cuts
abbrev pub IsTrueOfLeast : LeastAsked → PlacedNetlist → Outcome → Type 0
IsTrueOfLeast job placed outcome =
    (cut : Cut) × IsBestCut placed cut × IsTrueOfWidths job placed cut outcome

-- nothing was written, since a file of the job gives nothing; or they pose a placed netlist, and
-- this is what the bound and the searches leave
abbrev pub LeavesLeast : LeastAsked → Scene → Outcome → Type 0
LeavesLeast job at outcome =
    (LacksFiles (IsStopped at.desk at.desk_now) at.desk.files (last_asked job) outcome
    × (at.shelf_now ≡ at.shelf))
    ⊎ ((placed : PlacedNetlist) × HasFiles at.desk.files (last_asked job) placed
    × LeavesNarrowed job placed at.shelf at.shelf_now outcome)

-- so of what the placed netlist needs
abbrev pub IsTrueOfNarrows : LeastAsked → Option FileMap → Outcome → Type 0
IsTrueOfNarrows job files outcome =
    LacksFiles (IsHalted files) files (last_asked job) outcome
    ⊎ ((placed : PlacedNetlist) × HasFiles files (last_asked job) placed
    × IsTrueOfLeast job placed outcome)
