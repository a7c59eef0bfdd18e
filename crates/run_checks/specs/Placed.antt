-- Jobs over the three files of a placed netlist, and how a routed file is judged as a routing of
-- the placement.
use Rattle.std.specs.Prelude.{◌≡◌, ℕ, Option}
use Rattle.fpga_route.specs.Value.{route_value}
use Rattle.fpga_types.specs.Placed.{NetWires}
use Rattle.fpga_types.specs.Problem.{PlacedNetlist}
use Rattle.route_judge.specs.Judged.{placed_judged}
use Rattle.route_judge.specs.Says.{SaysRouting}
use Rattle.route_verify.specs.declared.judgement.Judgement.TheVariants.{Legal as IsLegal}
use Rattle.run_checks.specs.Check.{judged_outcome}
use Rattle.run_outcome.specs.Report.{unread_outcome}
use Rattle.run_outcome.specs.Subject.{FileMap, ReadsThen, Source, route_source, FileFault, JudgeAsked, RouteText}
use Rattle.run_outcome.specs.declared.outcome.Outcome.{Outcome}
use Rattle.run_outcome.specs.declared.text_file.TextFile.TheVariants.{Routed}
use Rattle.run_outcome.specs.Scene.{WorksOnPlaced}

-- the work stops at the routed file; or that reads, and the work on it and the placed netlist comes
-- to this
abbrev pub ReadsRouted : (Source → FileFault → Type 0) → Option FileMap → JudgeAsked
    → (PlacedNetlist → RouteText → Outcome → Type 0) → PlacedNetlist → Outcome → Type 0
ReadsRouted stops files job works placed =
    ReadsThen stops files (route_source job.routed) (unread_outcome Routed) route_value
    (works placed)

-- so behind the three files, which pose that placed netlist; or the work stops at one of them
abbrev pub JudgesPlaced : (Source → FileFault → Type 0) → Option FileMap → JudgeAsked
    → (PlacedNetlist → RouteText → Outcome → Type 0) → Outcome → Type 0
JudgesPlaced stops files job works =
    WorksOnPlaced stops files job.files (ReadsRouted stops files job works)

-- the outcome is how the file is judged
abbrev pub IsJudgement : JudgeAsked → PlacedNetlist → RouteText → Outcome → Type 0
IsJudgement job placed found outcome =
    outcome ≡ judged_outcome (placed_judged job.strict job.width placed found)

-- a file that is judged legal says a routing of the placement
abbrev pub SaysIfLegal : JudgeAsked → PlacedNetlist → RouteText → Type 0
SaysIfLegal job placed found = placed_judged job.strict job.width placed found ≡ IsLegal
    → (has : ℕ → NetWires) × SaysRouting placed job.width found has

-- both
abbrev pub IsTrueJudgement : JudgeAsked → PlacedNetlist → RouteText → Outcome → Type 0
IsTrueJudgement job placed found outcome =
    IsJudgement job placed found outcome × SaysIfLegal job placed found
