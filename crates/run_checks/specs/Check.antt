-- What the check of a refutation comes to, by its two files, and how a routed file is judged, by
-- the four files of a problem and its own.
use Rattle.std.specs.Prelude.{◌≡◌, ℕ, List, length, Option, ◌⊎◌}
use Rattle.fpga_route.specs.Value.{route_value}
use Rattle.route_verify.specs.Reach.{judged_by}
use Rattle.route_verify.specs.declared.judgement.Judgement.{Judgement as RouteJudgement}
use Rattle.route_verify.specs.declared.judgement.Judgement.TheVariants.{Legal as IsLegal, NotLegal as IsNotLegal}
use Rattle.sat_clause.specs.Cause.{cause_number}
use Rattle.sat_clause.specs.Judge.{Judgement, Accepted as IsAccepted, Refused as IsRefused}
use Rattle.sat_rat.specs.FullJudge.{full_judge}
use Rattle.sat_text.specs.CnfText.{cnf_faults, cnf_said}
use Rattle.sat_text.specs.LratText.{full_lrat_faults, lrat_said}
use Rattle.run_outcome.specs.Report.{unread_outcome, GivesNone}
use Rattle.run_outcome.specs.Subject.{Bytes, FileMap, ReadsThen, Says, Source, FileFault, Cnf, Step, CheckAsked, Poses, route_source, RoutingProblem, VerifyAsked}
use Rattle.run_outcome.specs.declared.outcome.Outcome.{Outcome}
use Rattle.run_outcome.specs.declared.outcome.Outcome.TheVariants.{Accepted, NotAccepted, LegalRoute, NotLegal}
use Rattle.run_outcome.specs.declared.text_file.TheConstants.{PROOF_BYTES}
use Rattle.run_outcome.specs.declared.text_file.TextFile.TheVariants.{Cnf as CnfFile, Lrat, Routed}

-- the clauses
abbrev pub cnf_source : Bytes → Source
cnf_source name = record { name = name; limit = PROOF_BYTES; faults = cnf_faults }

-- the log, whose steps may resolve on a first literal, behind so many input clauses
abbrev pub lrat_source : Bytes → (inputs : ℕ) → Source
lrat_source name inputs =
    record { name = name; limit = PROOF_BYTES; faults = full_lrat_faults inputs }

-- the LRAT file says a log, and this is what the log says of the formula
pub record SaysOf (files : Option FileMap) (name : Bytes) (formula : Cnf) (judgement : Judgement)
    : Type 0 where
  pub log : List Step
  pub says : Says files (lrat_source name (length formula.clauses)) lrat_said log
  pub judged : judgement ≡ full_judge formula log

-- what a run comes to by the judgement of a log
abbrev pub judgement_outcome : Judgement → Outcome
judgement_outcome IsAccepted = Accepted
judgement_outcome (IsRefused step cause) = NotAccepted step (cause_number cause)

-- the check stops at a file, those before it read; or the outcome is the judgement
abbrev pub ChecksTo : (Source → FileFault → Type 0) → Option FileMap → CheckAsked → Outcome
    → Type 0
ChecksTo stops files job =
    ReadsThen stops files (cnf_source job.cnf) (unread_outcome CnfFile) cnf_said
    (λ cnf. ReadsThen stops files (lrat_source job.lrat (length cnf.clauses))
    (unread_outcome Lrat) lrat_said
    (λ log outcome. outcome ≡ judgement_outcome (full_judge cnf log)))

-- what a run comes to by how the routed file is judged
abbrev pub judged_outcome : RouteJudgement → Outcome
judged_outcome IsLegal = LegalRoute
judged_outcome (IsNotLegal line cause) = NotLegal line cause

-- the work stops at the routed file; or the outcome is how it is judged against the problem, within
-- the reach that was given or without one
abbrev pub JudgesTo : (Source → FileFault → Type 0) → Option FileMap → VerifyAsked → RoutingProblem
    → Outcome → Type 0
JudgesTo stops files job p =
    ReadsThen stops files (route_source job.routed) (unread_outcome Routed) route_value
    (λ found outcome. outcome ≡ judged_outcome (judged_by job.reach job.width p found))

-- the four files give no problem, and the outcome says why; or they pose one, and the routed file
-- is judged against it
abbrev pub VerifiesTo : (Source → FileFault → Type 0) → Option FileMap → VerifyAsked → Outcome
    → Type 0
VerifiesTo stops files job outcome =
    GivesNone stops files job.files outcome
    ⊎ ((p : RoutingProblem) × Poses files job.files p × JudgesTo stops files job p outcome)
