-- What a run says, whatever fails: the lead, and then the report line.
use Rattle.std.specs.Prelude.{◌≡◌, ◌⊎◌, ℕ, ◌≤◌, ◌++◌, List, [], ◌∷◌, length, take, true, Ok, Option, option_map}
use Rattle.route_core.specs.Blamed.{blamed}
use Rattle.route_ways.specs.Trimming.{net_lines}
use Rattle.run_placed.specs.Bound.{IsBounded, cut_lines}
use Rattle.run_checks.specs.Causes.{AreCausesOf, IsIllegal, cause_lines}
use Rattle.run_made.specs.Generated.{Makes, PosesNone}
use Rattle.run_placed.specs.Global.{IsNoWay, IsWaylessLine}
use Rattle.router_top.specs.Headline.{IsRefuted}
use Rattle.run_placed.specs.Least.{AreLeastLines, IsNarrowing}
use Rattle.run_outcome.specs.Report.{line_of}
use Rattle.router_top.specs.Search.{clauses_at}
use Rattle.router_top.specs.Work.{trial_line}
use Rattle.run_outcome.specs.Subject.{Bytes, FileMap, ShelfState, RoutingProblem, job_of, Blames, BoundAsked, Bounds, CoreAsked, GlobalAsked, LeastAsked, Narrows, Negotiates, TrialAsked, Tries, VerifyAsked, Verifies, Word}
use Rattle.run_outcome.specs.declared.outcome.Outcome.{Outcome}
use Rattle.run_outcome.specs.declared.outcome.Outcome.TheVariants.{Bound, NotLegal, Unroutable, WriteFault}
use Rattle.run_outcome.specs.declared.slot.Slot.TheVariants.{Said}

-- the bytes said, and a text behind them
abbrev pub more_said : Option Bytes → Bytes → Option Bytes
more_said said text = option_map (λ bytes. bytes ++ text) said

-- the words ask for a trial, its problem was made and is not too large, and this is its trial line
pub record IsTrialLine (words : List Word) (lead : Bytes) : Type 0 where
  pub job : TrialAsked
  pub asked : job_of words ≡ Ok (Tries job)
  pub p : RoutingProblem
  pub makes : Makes job.recipe p
  pub is : lead ≡ trial_line p

-- the words ask for the nets to blame, and the outcome is that the width is unroutable: the clauses
-- and a log that refutes them were written, both whole, and these lines name the nets that this log
-- blames, in order
pub record AreNetLines
    (words : List Word) (desk before now : Option FileMap) (outcome : Outcome) (lead : Bytes)
    : Type 0 where
  pub job : CoreAsked
  pub asked : job_of words ≡ Ok (Blames job)
  pub width : ℕ
  pub unroutable : outcome ≡ Unroutable width
  pub refuted : IsRefuted words desk before now width
  pub is : lead ≡ net_lines refuted.comes.p.route
      (blamed width refuted.comes.p (clauses_at refuted.comes.search width refuted.comes.p)
      refuted.log)

-- the words ask for a bound, and the outcome is one: these lines name the cut that it is of, and
-- exactly the nets that cross it, in order
pub record AreCutLines
    (words : List Word) (desk : Option FileMap) (outcome : Outcome) (lead : Bytes) : Type 0 where
  pub tracks : ℕ
  pub cells : ℕ
  pub nets : ℕ
  pub bound : outcome ≡ Bound tracks cells nets
  pub bounded : IsBounded words desk tracks cells nets
  pub is : lead ≡ cut_lines bounded.placed.netlist bounded.cut

-- the words ask for all causes against a routed file, the files of the problem and the routed file
-- read, and the outcome is the first of the causes: these lines tell all of them, in order
pub record AreCauseLines
    (words : List Word) (desk : Option FileMap) (outcome : Outcome) (lead : Bytes) : Type 0 where
  pub job : VerifyAsked
  pub asked : job_of words ≡ Ok (Verifies job)
  pub told : AreCausesOf desk job
  pub first : outcome ≡ NotLegal told.first.line told.first.cause
  pub is : lead ≡ cause_lines told.found.nets (told.first ∷ told.more)

-- what is said before the report line of this outcome: the trial line, the nets to blame, a cut and
-- the nets that cross it, where a bound alone is asked for or what a placement needs, a net that no
-- wires reach, or the causes against a routed file
abbrev pub IsLead : List Word → (desk before now : Option FileMap) → Outcome → Bytes → Type 0
IsLead words desk before now outcome lead =
    IsTrialLine words lead ⊎ AreNetLines words desk before now outcome lead
    ⊎ AreCutLines words desk outcome lead ⊎ AreLeastLines words desk outcome lead
    ⊎ IsWaylessLine words desk before now outcome lead ⊎ AreCauseLines words desk outcome lead

-- the width of the job is unroutable
abbrev pub IsUnroutable : Outcome → Type 0
IsUnroutable (Unroutable width) = Unit {0}
IsUnroutable outcome = ⊥

-- no placed routing has fewer tracks than so many
abbrev pub IsOfBound : Outcome → Type 0
IsOfBound (Bound tracks cells nets) = Unit {0}
IsOfBound outcome = ⊥

-- nothing is said before it: the words ask for no trial, or for one of a problem that was not made
-- or is too large; for no nets to blame, or no width was refuted; for no bound, or none was found;
-- not for what a placement needs, or no cut was found; for no route of a placement, or there may be
-- a way; and not for all causes against a routed file, or it was not judged to be illegal
pub record HasNoLead (words : List Word) (outcome : Outcome) : Type 0 where
  pub no_trial : (job : TrialAsked) → job_of words ≡ Ok (Tries job) → PosesNone job.recipe outcome
  pub no_nets : (job : CoreAsked) → job_of words ≡ Ok (Blames job) → ¬ IsUnroutable outcome
  pub no_cut : (job : BoundAsked) → job_of words ≡ Ok (Bounds job) → ¬ IsOfBound outcome
  pub no_span : (job : LeastAsked) → job_of words ≡ Ok (Narrows job) → ¬ IsNarrowing outcome
  pub no_net : (job : GlobalAsked) → job_of words ≡ Ok (Negotiates job) → ¬ IsNoWay outcome
  pub no_cause : (job : VerifyAsked) → job_of words ≡ Ok (Verifies job) → job.all ≡ true
      → ¬ IsIllegal outcome

-- what is said before it, which may be nothing
abbrev pub Leads : List Word → (desk before now : Option FileMap) → Outcome → Bytes → Type 0
Leads words desk before now outcome lead =
    IsLead words desk before now outcome lead ⊎ ((lead ≡ []) × HasNoLead words outcome)

-- the lead and the report line of this outcome were said
pub record SaysAll
    (words : List Word) (desk : Option FileMap) (before now : ShelfState) (outcome : Outcome)
    : Type 0 where
  pub lead : Bytes
  pub leads : Leads words desk before.files now.files outcome lead
  pub said : now.said ≡ more_said before.said (lead ++ line_of outcome)

-- the lead was said, and so many bytes at the front of the report line of this outcome
pub record SaysPart
    (words : List Word) (desk : Option FileMap) (before now : ShelfState) (outcome : Outcome)
    : Type 0 where
  pub lead : Bytes
  pub leads : Leads words desk before.files now.files outcome lead
  pub count : ℕ
  pub within : count ≤ length (line_of outcome)
  pub said : now.said ≡ more_said before.said (lead ++ take count (line_of outcome))

-- so many bytes at the front of the lead of some outcome were said, and then as many at the front
-- of the report line of a fault of what is said
pub record CutsLead
    (words : List Word) (desk : Option FileMap) (before now : ShelfState) : Type 0 where
  pub outcome : Outcome
  pub lead : Bytes
  pub leads : IsLead words desk before.files now.files outcome lead
  pub count : ℕ
  pub within : count ≤ length lead
  pub line_count : ℕ
  pub line_within : line_count ≤ length (line_of (WriteFault Said))
  pub said : now.said ≡ more_said before.said
      (take count lead ++ take line_count (line_of (WriteFault Said)))

-- the run has failed to write
abbrev pub IsWriteFault : Outcome → Type 0
IsWriteFault (WriteFault slot) = Unit {0}
IsWriteFault outcome = ⊥

-- the bytes said, by the answer: after a fault of a file a front part of the report line may be all
-- that came; after a fault of what is said the lead was cut, or else the report line of what the
-- work has come to
abbrev pub Speaks : List Word → (desk : Option FileMap) → (before now : ShelfState) → Outcome
    → Type 0
Speaks words desk before now (WriteFault Said) =
    CutsLead words desk before now
    ⊎ ((outcome : Outcome) × ¬ IsWriteFault outcome × SaysPart words desk before now outcome)
Speaks words desk before now (WriteFault slot) =
    SaysPart words desk before now (WriteFault slot)
Speaks words desk before now outcome = SaysAll words desk before now outcome
