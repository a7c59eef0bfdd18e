-- The command `global`: a route of a placement that was found together with its tracks.
use Rattle.std.specs.Prelude.{◌≡◌, ◌⊎◌, ◌≤◌, ◌++◌, ℕ, Bool, true, is_some, not, ⊤, List, [], ◌∷◌, codes, Option, None, Some, Ok}
use Rattle.fpga_problem.specs.Files.{IsSoundPlaced, PosesPlaced}
use Rattle.fpga_problem.specs.Sources.{StopsAt}
use Rattle.fpga_problem.specs.declared.text_file.TextFile.TheVariants.{Route as RouteFile}
use Rattle.fpga_route.specs.Printed.{printed}
use Rattle.fpga_route.specs.ReadBack.{ReadsBack}
use Rattle.fpga_route.specs.Value.{route_value}
use Rattle.fpga_types.specs.Placed.{IsPlacedRouting, NetWires}
use Rattle.fpga_types.specs.Problem.{PlacedNetlist}
use Rattle.fpga_types.specs.Sound.{IsSound}
use Rattle.fpga_types.specs.declared.netlist.Netlist.{Netlist}
use Rattle.route_judge.specs.Judged.{placed_judged}
use Rattle.route_judge.specs.Says.{SaysRouting}
use Rattle.route_parts.specs.Unreached.{AreNetsReached, IsFirstNet}
use Rattle.route_parts.specs.declared.unreached.Unreached.{Unreached}
use Rattle.route_sweep.specs.declared.found.FileSlot.TheVariants.{Route}
use Rattle.route_verify.specs.declared.judgement.Judgement.{Judgement}
use Rattle.route_verify.specs.declared.judgement.Judgement.TheVariants.{Legal as IsLegal}
use Rattle.run_outcome.specs.Report.{IsShort, unread_outcome}
use Rattle.run_placed.specs.Bound.{net_line}
use Rattle.run_outcome.specs.Scene.{WorksOnPlaced, Scene}
use Rattle.run_outcome.specs.Written.{AreWritten, JobFile, WritesFiles, job_file}
use Rattle.run_outcome.specs.Subject.{Bytes, FailsToSay, FileMap, ShelfState, after_say, Source, FileFault, Says, route_source, RouteText, job_of, GlobalAsked, Negotiates, Word, IsStopped, IsHalted}
use Rattle.run_outcome.specs.declared.outcome.Outcome.{Outcome}
use Rattle.run_outcome.specs.declared.outcome.Outcome.TheVariants.{Routed, Unfound, NoWay, WriteFault, OutOfMemory}
use Rattle.run_outcome.specs.declared.slot.Slot.TheVariants.{Said, File}
use Rattle.run_outcome.specs.declared.text_file.TextFile.TheVariants.{Problem}

-- ---- what is found

-- how a route is judged for a job: as one in which each net has one wire of a cell alone, unless
-- the words allow it several
abbrev pub judged_for : GlobalAsked → PlacedNetlist → RouteText → Judgement
judged_for job placed found = placed_judged (not job.free) job.width placed found

-- the route is such as is read, it is judged legal, and its printed form reads back
pub record IsFoundRoute (job : GlobalAsked) (placed : PlacedNetlist) (found : RouteText) : Type 0
  where
    pub sound : IsSound found
    pub legal : judged_for job placed found ≡ IsLegal
    pub reads_back : ReadsBack found

-- its file
abbrev pub found_file : GlobalAsked → RouteText → JobFile
found_file job found = job_file (File Route) (job.prefix ++ codes ".route") (printed found)

-- ---- what is read

-- the words name a route to begin with, its file gives none, and the outcome says why
abbrev pub LacksStart : (Source → FileFault → Type 0) → Option Word → Outcome → Type 0
LacksStart stops None outcome = ⊥
LacksStart stops (Some name) outcome =
    StopsAt stops (route_source name) (unread_outcome (Problem RouteFile)) outcome

-- the words name no route to begin with, or its file says one
abbrev pub HasStart : Option FileMap → Option Word → Type 0
HasStart files None = ⊤
HasStart files (Some name) = (start : RouteText) × Says files (route_source name) route_value start

-- a file of the job gives nothing, those before it read, and the outcome says why
abbrev pub LacksFiles : (Source → FileFault → Type 0) → Option FileMap → GlobalAsked → Outcome
    → Type 0
LacksFiles stops files job =
    WorksOnPlaced stops files job.files (λ placed. LacksStart stops job.from)

-- the files of the job pose this placed netlist, and say a route to begin with where the words name
-- one
pub record HasFiles (files : Option FileMap) (job : GlobalAsked) (placed : PlacedNetlist) : Type 0
  where
    pub poses : PosesPlaced files job.files placed
    pub sound : IsSoundPlaced placed
    pub start : HasStart files job.from

-- ---- what is left

-- the line of the net was said, and the outcome is that there is no way at the width; or a front
-- part of it was, and the run has failed to write
abbrev pub SaysNet : Netlist → (net width : ℕ) → (before now : ShelfState) → Outcome → Type 0
SaysNet netlist net width before now outcome =
    ((now ≡ after_say before (net_line netlist net)) × (outcome ≡ NoWay width))
    ⊎ (FailsToSay before (net_line netlist net) now × (outcome ≡ WriteFault Said))

-- no route was found at the width, in some rounds that were no more than these; the clock may have
-- ended them, where there is a limit of time
abbrev pub EndsUnfound : (timed : Bool) → (width most : ℕ) → Outcome → Type 0
EndsUnfound timed width most outcome =
    (rounds : ℕ) × (stopped : Bool) × (rounds ≤ most) × (stopped ≡ true → timed ≡ true)
    × (outcome ≡ Unfound width rounds stopped)

-- nothing was written, since no route was found in at most as many rounds as were asked for, or
-- memory ran out; or one was found, and its file was written, or not whole
abbrev pub LeavesFound : GlobalAsked → PlacedNetlist → (before now : ShelfState) → Outcome → Type 0
LeavesFound job placed before now outcome =
    ((EndsUnfound (is_some job.seconds) job.width job.rounds outcome ⊎ (outcome ≡ OutOfMemory))
    × (now ≡ before))
    ⊎ ((found : RouteText) × IsFoundRoute job placed found
    × WritesFiles (Routed job.width) (found_file job found ∷ []) before now outcome)

-- memory ran out, and nothing was said or written; or no wires reach a sink of some ordinary net,
-- and the first such net is said; or wires reach each, and this is what the search leaves
abbrev pub LeavesSought : GlobalAsked → PlacedNetlist → (before now : ShelfState) → Outcome → Type 0
LeavesSought job placed before now outcome =
    IsShort before now outcome
    ⊎ ((first : Unreached) × IsFirstNet placed job.width first
    × SaysNet placed.netlist first.net job.width before now outcome)
    ⊎ (AreNetsReached placed job.width × LeavesFound job placed before now outcome)

-- ---- what the answers mean

-- the words ask for a route of a placement, and the files read; one was found, and one file alone
-- was written: it is the printed form of a route that is judged legal at this width and says a
-- routing of the placement, and it reads back
pub record IsNegotiated (words : List Word) (desk before now : Option FileMap) (width : ℕ)
    : Type 0 where
  pub job : GlobalAsked
  pub asked : job_of words ≡ Ok (Negotiates job)
  pub width_is : width ≡ job.width
  pub placed : PlacedNetlist
  pub files : HasFiles desk job placed
  pub found : RouteText
  pub route : IsFoundRoute job placed found
  pub says : (has : ℕ → NetWires) × SaysRouting placed job.width found has
  pub written : AreWritten (found_file job found ∷ []) before now

-- the words ask for one, and the files read; wires reach each sink of each ordinary net, but none
-- was found in so many rounds, which are at most as many as were asked for, and which the clock may
-- have ended where the words set a limit of time; no file has changed
pub record IsUnfound
    (words : List Word) (desk before now : Option FileMap) (width rounds : ℕ) (stopped : Bool)
    : Type 0 where
  pub job : GlobalAsked
  pub asked : job_of words ≡ Ok (Negotiates job)
  pub width_is : width ≡ job.width
  pub rounds_most : rounds ≤ job.rounds
  pub timed : stopped ≡ true → is_some job.seconds ≡ true
  pub placed : PlacedNetlist
  pub files : HasFiles desk job placed
  pub reached : AreNetsReached placed width
  pub same : now ≡ before

-- the words ask for one, and the files read; no wires reach a sink of this ordinary net, which is
-- the first such net, so that there is no placed routing at this width, and no file has changed
pub record IsWithoutWay (words : List Word) (desk before now : Option FileMap) (width : ℕ)
    : Type 0 where
  pub job : GlobalAsked
  pub asked : job_of words ≡ Ok (Negotiates job)
  pub width_is : width ≡ job.width
  pub placed : PlacedNetlist
  pub files : HasFiles desk job placed
  pub unreached : Unreached
  pub first : IsFirstNet placed width unreached
  pub none : (has : ℕ → NetWires) → ¬ IsPlacedRouting placed width has
  pub same : now ≡ before

-- ---- what is said first

-- the outcome is that there is no way, and the line names the net that no wires reach
pub record IsWaylessLine
    (words : List Word) (desk before now : Option FileMap) (outcome : Outcome) (lead : Bytes)
    : Type 0 where
  pub width : ℕ
  pub no_way : outcome ≡ NoWay width
  pub without : IsWithoutWay words desk before now width
  pub is : lead ≡ net_line without.placed.netlist without.unreached.net

-- there is no way
abbrev pub IsNoWay : Outcome → Type 0
IsNoWay (NoWay width) = Unit {0}
IsNoWay outcome = ⊥

-- ---- what is true

-- some route is judged legal and reads back, and the outcome is that one was found; or it is that
-- none was, which is true of any placed netlist
abbrev pub IsTrueOfFound : GlobalAsked → PlacedNetlist → Outcome → Type 0
IsTrueOfFound job placed outcome =
    ((found : RouteText) × IsFoundRoute job placed found × (outcome ≡ Routed job.width))
    ⊎ EndsUnfound (is_some job.seconds) job.width job.rounds outcome

-- no wires reach a sink of some ordinary net, and the outcome is that there is no way; or they
-- reach each, and this is true
abbrev pub IsTrueOfSought : GlobalAsked → PlacedNetlist → Outcome → Type 0
IsTrueOfSought job placed outcome =
    ((first : Unreached) × IsFirstNet placed job.width first × (outcome ≡ NoWay job.width))
    ⊎ (AreNetsReached placed job.width × IsTrueOfFound job placed outcome)

-- nothing was written, since a file of the job gives nothing; or they pose a placed netlist, and
-- this is what the search for a route of it leaves
abbrev pub LeavesGlobal : GlobalAsked → Scene → Outcome → Type 0
LeavesGlobal job at outcome =
    (LacksFiles (IsStopped at.desk at.desk_now) at.desk.files job outcome
    × (at.shelf_now ≡ at.shelf))
    ⊎ ((placed : PlacedNetlist) × HasFiles at.desk.files job placed
    × LeavesSought job placed at.shelf at.shelf_now outcome)

-- a file of the job gives nothing, and the outcome says why; or they pose a placed netlist, of
-- which the outcome is true
abbrev pub IsTrueOfGlobal : GlobalAsked → Option FileMap → Outcome → Type 0
IsTrueOfGlobal job files outcome =
    LacksFiles (IsHalted files) files job outcome
    ⊎ ((placed : PlacedNetlist) × HasFiles files job placed × IsTrueOfSought job placed outcome)
