-- What each answer means.
use Rattle.std.specs.Prelude.{◌≡◌, ◌⊎◌, List, [], ◌∷◌, ⊤, length, Ok, Option, ℕ, false}
use Rattle.fpga_problem.specs.Files.{PosesPlaced}
use Rattle.fpga_route.specs.Value.{route_value}
use Rattle.fpga_types.specs.Problem.{PlacedNetlist}
use Rattle.route_judge.specs.Judged.{placed_judged}
use Rattle.route_verify.specs.Reach.{judged_by}
use Rattle.route_verify.specs.declared.judgement.Judgement.{Judgement}
use Rattle.route_verify.specs.declared.judgement.Judgement.TheVariants.{Legal as IsLegal, NotLegal as IsNotLegal}
use Rattle.sat_clause.specs.Formula.{IsUnsat}
use Rattle.sat_rat.specs.FullJudge.{FullAccepts}
use Rattle.sat_text.specs.CnfText.{ReadsCnf, cnf_said}
use Rattle.sat_text.specs.LratText.{lrat_said}
use Rattle.run_placed.specs.Bound.{IsBounded}
use Rattle.run_checks.specs.Check.{cnf_source, lrat_source}
use Rattle.run_clauses.specs.Decode.{IsDecoded, IsNoModel}
use Rattle.run_made.specs.Generated.{HasRoom, generated_files}
use Rattle.run_placed.specs.Global.{IsNegotiated, IsUnfound, IsWithoutWay}
use Rattle.router_top.specs.Headline.{IsLeftOpen, IsRefuted, IsRouted}
use Rattle.run_placed.specs.Least.{IsBeyond, IsNarrowed, IsUnnarrowed}
use Rattle.run_clauses.specs.Method.{clauses_by, IsCrowdFor}
use Rattle.run_checks.specs.Placed.{SaysIfLegal}
use Rattle.run_clauses.specs.Encode.{clauses_file}
use Rattle.run_outcome.specs.Written.{AreWritten}
use Rattle.run_outcome.specs.Subject.{FileMap, Poses, Says, route_source, RoutingProblem, RouteText, HasFew, Cnf, Step, job_of, CheckAsked, Checks, EncodeAsked, Encodes, GenAsked, Generates, JudgeAsked, Judges, VerifyAsked, Verifies, Word}
use Rattle.run_outcome.specs.declared.outcome.Outcome.{Outcome}
use Rattle.run_outcome.specs.declared.outcome.Outcome.TheVariants.{Accepted, Bound, Done, LegalRoute, NotLegal, NotModel, Routed, Undecided, Unroutable, Unfound, NoWay, Narrowed, Beyond}

-- the words ask for the clauses, and one file alone was written: those of the problem, by a crowd
-- of it if they go by one
pub record IsEncoded (words : List Word) (desk before now : Option FileMap) : Type 0 where
  pub job : EncodeAsked
  pub p : RoutingProblem
  pub asked : job_of words ≡ Ok (Encodes job)
  pub poses : Poses desk job.files p
  pub crowd : List ℕ
  pub known : IsCrowdFor job.method false crowd p
  pub few : HasFew (clauses_by job.method crowd job.width p)
  pub reads_back : ReadsCnf (clauses_file job crowd p).text
      (clauses_by job.method crowd job.width p)
  pub written : AreWritten (clauses_file job crowd p ∷ []) before now

-- the words ask for a generated problem, there are blocks for its nets, and its four files alone
-- were written
pub record IsGenerated (words : List Word) (before now : Option FileMap) : Type 0 where
  pub job : GenAsked
  pub asked : job_of words ≡ Ok (Generates job)
  pub room : HasRoom job.recipe
  pub written : AreWritten (generated_files job.recipe job.prefix) before now

-- the words ask for a check, both files read, and the log refutes the formula; so no truth values
-- satisfy it
pub record IsProved (words : List Word) (desk : Option FileMap) : Type 0 where
  pub job : CheckAsked
  pub cnf : Cnf
  pub log : List Step
  pub asked : job_of words ≡ Ok (Checks job)
  pub reads_cnf : Says desk (cnf_source job.cnf) cnf_said cnf
  pub reads_lrat : Says desk (lrat_source job.lrat (length cnf.clauses)) lrat_said log
  pub accepts : FullAccepts cnf log
  pub unsat : IsUnsat cnf

-- the words ask for the judging of a routed file, the four files of the problem read and fit, the
-- routed file reads, and it is judged so against the problem, within the reach that was given or
-- without one
pub record IsJudged (words : List Word) (desk : Option FileMap) (judgement : Judgement)
    : Type 0 where
  pub job : VerifyAsked
  pub p : RoutingProblem
  pub found : RouteText
  pub asked : job_of words ≡ Ok (Verifies job)
  pub poses : Poses desk job.files p
  pub reads : Says desk (route_source job.routed) route_value found
  pub is : judged_by job.reach job.width p found ≡ judgement

-- the words ask whether a routed file is a routing of a placement, the three files of that read,
-- the routed file reads, and it is judged so, strictly or not; where that is legal, it says a
-- routing
pub record IsJudgedPlaced (words : List Word) (desk : Option FileMap) (judgement : Judgement)
    : Type 0 where
  pub job : JudgeAsked
  pub placed : PlacedNetlist
  pub found : RouteText
  pub asked : job_of words ≡ Ok (Judges job)
  pub poses : PosesPlaced desk job.files placed
  pub reads : Says desk (route_source job.routed) route_value found
  pub is : placed_judged job.strict job.width placed found ≡ judgement
  pub says : SaysIfLegal job placed found

-- a routed file was judged so, with a global route or without one
abbrev pub IsJudgedSo : List Word → (desk : Option FileMap) → Judgement → Type 0
IsJudgedSo words desk judgement =
    IsJudged words desk judgement ⊎ IsJudgedPlaced words desk judgement

-- what an answer means, by the files of the desk and those of the shelf before the run and after
-- it; of the answers that something keeps the run from its work, *Runs* speaks
abbrev pub Means : List Word → (desk before now : Option FileMap) → Outcome → Type 0
Means words desk before now (Routed width) =
    IsRouted words desk before now width ⊎ IsNegotiated words desk before now width
    ⊎ IsDecoded words desk before now width
Means words desk before now (Unroutable width) = IsRefuted words desk before now width
Means words desk before now (Undecided width learned) =
    IsLeftOpen words desk before now width learned
Means words desk before now (Bound tracks cells nets) = IsBounded words desk tracks cells nets
Means words desk before now (Unfound width rounds stopped) =
    IsUnfound words desk before now width rounds stopped
    ⊎ IsUnnarrowed words desk before now width rounds stopped
Means words desk before now (NoWay width) = IsWithoutWay words desk before now width
Means words desk before now (Narrowed tracks width cut) =
    IsNarrowed words desk before now tracks width cut
Means words desk before now (Beyond tracks cells nets) =
    IsBeyond words desk before now tracks cells nets
Means words desk before now Done =
    IsEncoded words desk before now ⊎ IsGenerated words before now
Means words desk before now (NotModel clause) = IsNoModel words desk before now clause
Means words desk before now Accepted = IsProved words desk
Means words desk before now LegalRoute = IsJudgedSo words desk IsLegal
Means words desk before now (NotLegal line cause) = IsJudgedSo words desk (IsNotLegal line cause)
Means words desk before now outcome = ⊤
