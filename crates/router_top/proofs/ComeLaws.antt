-- What each job has come to, by what it leaves.
use Rattle.std.specs.Prelude.{◌<◌, Bool, IsSome, MatchResult, None, Some, Vec, flat_map}
use Rattle.std.specs.Global.{Global}
use Rattle.std.specs.List.{range_with_len}
use Rattle.std.proofs.Common.{◌≡◌, ◌∙◌, ◌⊎◌, ℕ, ◌+◌, ◌-◌, ◌≤◌, true, false, List, [], ◌∷◌, ◌++◌, length, Option, Ok, Err, Result, refl, sym, ap, subst, inl, inr, arith, take}
use Rattle.desk_io.specs.Files.{HasRisen}
use Rattle.desk_io.specs.WholeFile.{after_writing}
use Rattle.desk_io.proofs.FileLemmas.{has_risen}
use Rattle.cell_bound.specs.declared.refuting.CellRefutation.{CellRefutation}
use Rattle.fpga_problem.proofs.SourceLemmas.{calm-reads}
use Rattle.fpga_problem.specs.Sources.{Reads, Stops, StopsAt}
use Rattle.fpga_problem.specs.Files.{PosesPlaced}
use Rattle.fpga_types.specs.Given.{IsGiven}
use Rattle.fpga_types.specs.Problem.{PlacedNetlist}
use Rattle.fpga_types.specs.declared.limits.TheConstants.{WIDTH_LIMIT}
use Rattle.fpga_route.proofs.PrintableLemmas.{can_print}
use Rattle.fpga_route.proofs.ReadBackLemmas.{reads_back}
use Rattle.route_bound.specs.Crossing.{IsBound}
use Rattle.route_bound.specs.Cuts.{IsBestCut}
use Rattle.route_bound.specs.declared.cut.Cut.{Cut as BestCut}
use Rattle.route_parts.proofs.ReachLemmas.{no-routing}
use Rattle.route_parts.specs.Unreached.{AreNetsReached, IsFirstNet}
use Rattle.route_parts.specs.declared.unreached.Unreached.{Unreached}
use Rattle.route_sweep.specs.Climb.{EndsAt}
use Rattle.route_sweep.specs.declared.found.FileSlot.{FileSlot}
use Rattle.route_sweep.specs.declared.found.FileSlot.TheVariants.{Clauses}
use Rattle.route_sweep.specs.declared.found.Found.{Found}
use Rattle.route_sweep.specs.declared.found.Stop.{Stop}
use Rattle.route_sweep.specs.declared.found.Stop.TheVariants.{Fault, TooManyClauses, TooManyHeld, Memory}
use Rattle.route_sweep.specs.declared.found.Found.TheVariants.{Routed as IsRouted, Refuted, Spent}
use Rattle.route_ways.specs.Way.{copies_by, opens_by, refutes_by}
use Rattle.route_judge.specs.Judged.{placed_judged}
use Rattle.route_verify.specs.Reach.{judged_by}
use Rattle.route_verify.specs.declared.judgement.Judgement.{Judgement as Judged}
use Rattle.route_verify.specs.declared.judgement.Judgement.TheVariants.{Legal as IsLegal, NotLegal as IsNotLegal}
use Rattle.model_text.specs.ModelText.{model_said}
use Rattle.model_text.specs.Models.{first_unmet}
use Rattle.sat_clause.specs.declared.literal.Lit.{Lit}
use Rattle.sat_clause.specs.Judge.{Judgement, Accepted as IsAccepted, Refused as IsRefused}
use Rattle.sat_clause.specs.Step.{HaveLiterals}
use Rattle.sat_clause.specs.declared.limits.TheConstants.{CLAUSE_LIMIT}
use Rattle.sat_rat.specs.FullJudge.{full_judge}
use Rattle.sat_rat.proofs.FullSound.{full_refutes}
use Rattle.sat_text.specs.CnfText.{cnf_said}
use Rattle.sat_text.specs.LratText.{lrat_said}
use Rattle.router_words.specs.Refusal.{code_of}
use Rattle.router_words.specs.declared.fault.Refusal.{Refusal}
use Rattle.run_outcome.specs.SizeCauses.{size_code}
use Rattle.run_outcome.specs.declared.size_cause.SizeCause.TheVariants.{FormulaClauses}
use Rattle.run_placed.specs.Bound.{BoundsTo, IsBounded, IsTrueOfCut, SaysCut, bound_outcome, cut_lines, net_line}
use Rattle.run_checks.specs.Causes.{AreCausesOf, IsIllegal, LeavesVerified, SaysCauses, cause_lines}
use Rattle.run_checks.specs.Check.{JudgesTo, ChecksTo, cnf_source, judgement_outcome, lrat_source, VerifiesTo, judged_outcome}
use Rattle.router_top.specs.Comes.{ComesTo, lower_files}
use Rattle.run_clauses.specs.Decode.{DecodeLeaves, DecodesProblem, IsTrueOfModel, LeavesClauses, LeavesJudged, LeavesModel, LeavesRouting, ReadsModel, decoded_file, decoded_outcome, model_source}
use Rattle.run_made.specs.Generated.{PosesNone, generated_files, texts_of, WritesGenerated}
use Rattle.run_placed.specs.Global.{HasFiles, IsNoWay, IsTrueOfSought, IsWaylessLine, IsWithoutWay, LeavesFound, LeavesSought, SaysNet, found_file, LeavesGlobal}
use Rattle.run_placed.specs.Least.{AreLeastLines, IsCutOfLeast, IsNarrowing, IsOfCut, IsTrueOfLeast, LeavesCut, LeavesWidths, beyond_outcome, last_asked, LeavesLeast}
use Rattle.router_top.specs.JobFiles.{IsClimb, LeavesWhole, TakesTurns}
use Rattle.router_top.specs.Means.{IsJudgedSo, Means}
use Rattle.run_clauses.specs.Method.{IsRoutingBy, clauses_by, IsCrowdFor}
use Rattle.run_checks.specs.Placed.{IsJudgement, IsTrueJudgement, JudgesPlaced, ReadsRouted}
use Rattle.run_placed.specs.Raised.{LeastNames, least_names, narrowed_files}
use Rattle.run_outcome.specs.Report.{climbed_outcome, found_outcome, unread_outcome, written_outcome}
use Rattle.router_top.specs.Core.{CoreLeaves, LeavesCore, SaysBlamed, SaysLead}
use Rattle.run_clauses.specs.Suited.{LeavesPrepared, IsUnsuited, LeavesSuited, Suits}
use Rattle.run_clauses.specs.Encode.{EncodeLeaves, Encodes, WritesClauses, clauses_file}
use Rattle.router_top.specs.Work.{RouteLeaves, SweepLeaves, trial_line, LeavesRoute, Sweeps, Finds}
use Rattle.router_top.specs.Run.{Leaves, LeavesJob, TriesGenerated}
use Rattle.run_outcome.specs.Scene.{LeavesPlaced, LeavesWork, Scene}
use Rattle.router_top.specs.Saying.{more_said, AreCauseLines, AreCutLines, AreNetLines, HasNoLead, IsLead, IsOfBound, IsUnroutable, Leads}
use Rattle.router_top.specs.Search.{files_of, route_search, search_asked, sweep_of, sweep_search, Search, core_search, lower_widths, proof_files, route_file, HasCrowd, clauses_at}
use Rattle.router_top.specs.Truth.{IsTrueOf, IsTrueOfCount, IsTrueOfDecoding, IsTrueOfEncoding, IsTrueOfJob, IsTrueOfSearch, IsTrueOfSuitedSearch, IsTrueOfWork}
use Rattle.run_outcome.specs.Written.{FailsAmong, JobFile, WritesFiles, with_files, AreWritten}
use Rattle.router_top.specs.Headline.{IsRefuted}
use Rattle.run_outcome.specs.Subject.{Bytes, FileMap, FailsToSay, ShelfState, after_say, FileNames, Poses, IsHalted, IsStopped, Says, RoutingProblem, RouteText, HasFew, Cnf, Step, job_of, BoundAsked, Bounds, CheckAsked, Checks, DecodeAsked, Decodes as DecodesJob, EncodeAsked, Encodes as EncodesJob, GenAsked, Generates, JobAsked, JudgeAsked, Judges, Negotiates, RouteAsked, Routes, SweepAsked, Sweeps as SweepsJob, TrialAsked, Tries as TriesJob, Verifies, VerifyAsked, Blames, CoreAsked, Word, Method, GlobalAsked, LeastAsked, Narrows}
use Rattle.run_outcome.specs.declared.outcome.Outcome.{Outcome}
use Rattle.run_outcome.specs.declared.outcome.Outcome.TheVariants.{Bound, Done, NotLegal, ReadFault, InputFault, Usage, WriteFault, OutOfMemory, Unroutable, Limit, Narrowed, Beyond, Unfound, NoWay, Routed as IsRoutedAt}
use Rattle.run_outcome.specs.declared.slot.Slot.{Slot}
use Rattle.run_outcome.specs.declared.slot.Slot.TheVariants.{File, Said}
use Rattle.run_outcome.specs.declared.text_file.TextFile.TheVariants.{Cnf as CnfFile, Lrat, Model as ModelFile, Routed}
use Rattle.router_top.proofs.Came.{Came, Cut, HasCome, Idle, IsSpared, NeedsNoFile, Searched, Told, Wrote, ended_with}
use Rattle.router_top.proofs.ClimbLaws.{climbed-calm, climbed-logs, climbed-outcome, climbed-said}
use Rattle.run_made.proofs.GeneratedLaws.{made-poses, problem-apart}
use Rattle.run_placed.proofs.GlobalLaws.{calm-lacking, lacking-holds, routing-said}
use Rattle.run_placed.proofs.LeastLaws.{raised-bound, says-at}
use Rattle.router_top.proofs.LeftLaws.{none-left, log-left}
use Rattle.run_checks.proofs.LiteralLaws.{log_literals}
use Rattle.router_top.proofs.NameLaws.{proof-apart, proofs-then-proof, proofs-then-route, route-apart}
use Rattle.run_outcome.proofs.PlacedLaws.{calm-placed, placed-lacks-hold}
use Rattle.run_placed.proofs.RaisedLaws.{narrowed-apart, narrowed-heard, reason-from}
use Rattle.router_top.proofs.SaidLaws.{finds-silent, more-none}
use Rattle.run_outcome.proofs.StopLaws.{HoldsOfStops, IsSpent, calm-lack, lacks-hold, reads-hold, unread-holds}
use Rattle.run_clauses.proofs.SuitedLaws.{unsuited-holds}
use Rattle.router_top.proofs.ServeLaws.{crowd-said, one-copy}
use Rattle.run_outcome.proofs.WrittenLaws.{AreApart}
use Rattle.router_top.proofs.MeansLaws.{refuted-there}
use Rattle.run_clauses.proofs.MethodLaws.{routing-printable}

less-itself : (n : ℕ) → n - n ≡ 0
less-itself n = omega arith

-- what keeps a run from its work tells of no refutation
spared-routable : (o : Outcome) → IsSpared o → ¬ IsUnroutable o
spared-routable (Unroutable width) spared = absurd spared
spared-routable o spared = λ bad. bad

-- nor of a bound
spared-boundless : (o : Outcome) → IsSpared o → ¬ IsOfBound o
spared-boundless (Bound tracks cells nets) spared = absurd spared
spared-boundless o spared = λ bad. bad

-- nor of what a placement needs
spared-spanless : (o : Outcome) → IsSpared o → ¬ IsNarrowing o
spared-spanless (Narrowed tracks width by_cut) spared = absurd spared
spared-spanless (Beyond tracks cells nets) spared = absurd spared
spared-spanless (Unfound width rounds stopped) spared = absurd spared
spared-spanless o spared = λ bad. bad

-- nor of a net that no wires reach
spared-wayless : (o : Outcome) → IsSpared o → ¬ IsNoWay o
spared-wayless (NoWay width) spared = absurd spared
spared-wayless o spared = λ bad. bad

-- nor of a routed file that is not legal
spared-lawful : (o : Outcome) → IsSpared o → ¬ IsIllegal o
spared-lawful (NotLegal line cause) spared = absurd spared
spared-lawful o spared = λ bad. bad

-- what comes of the file of a route tells of no such net
written-wayless : (width : ℕ) (files : List JobFile) (before now : ShelfState) (o : Outcome)
    → WritesFiles (IsRoutedAt width) files before now o → ¬ IsNoWay o
written-wayless width files before now o (inl (is, written)) =
    subst (λ (o : Outcome). ¬ IsNoWay o) (sym is) (λ bad. bad)
written-wayless width files before now o (inr (slot, fails, is)) =
    subst (λ (o : Outcome). ¬ IsNoWay o) (sym is) (λ bad. bad)

-- a fault of each of these files tells of the cut that was said before them
abbrev AreOfCut : BestCut → List JobFile → Type 0
AreOfCut cut [] = Unit {0}
AreOfCut cut (file ∷ files) = IsOfCut cut (WriteFault file.slot) × AreOfCut cut files

narrowed-of-cut : (cut : BestCut) (names : LeastNames) (found : RouteText) (tracks : ℕ)
    (why : Option CellRefutation) → AreOfCut cut (narrowed_files names found tracks why)
narrowed-of-cut cut names found tracks None = (tt, tt)
narrowed-of-cut cut names found tracks (Some refutation) = (tt, (tt, (tt, tt)))

fault-of-cut : (cut : BestCut) (files : List JobFile) (before now : ShelfState) (slot : Slot)
    → AreOfCut cut files → FailsAmong files before now slot → IsOfCut cut (WriteFault slot)
fault-of-cut cut [] before now slot are fails = absurd fails
fault-of-cut cut (file ∷ files) before now slot are (inl fails) =
    subst (λ (s : Slot). IsOfCut cut (WriteFault s)) (sym fails.0) are.0
fault-of-cut cut (file ∷ files) before now slot are (inr fails) =
    fault-of-cut cut files (after_writing before file.name file.text) now slot are.1 fails

-- so does what else comes of them
tells-of-cut : (cut : BestCut) (files : List JobFile) (tracks width : ℕ) (before now : ShelfState)
    (o : Outcome) → cut.tracks ≤ tracks → AreOfCut cut files
    → WritesFiles (Narrowed tracks width cut.tracks) files before now o → IsOfCut cut o
tells-of-cut cut files tracks width before now o from are (inl (is, written)) =
    subst (IsOfCut cut) (sym is) (refl, from)
tells-of-cut cut files tracks width before now o from are (inr (slot, fails, is)) =
    subst (IsOfCut cut) (sym is) (fault-of-cut cut files before now slot are fails)

module _ (words : List Word) (at : Scene) where
  abbrev MeansHere : Outcome → Type 0
  MeansHere = Means words at.desk.files at.shelf.files at.shelf_now.files

  -- if no fault of the desk has risen, the outcome is true, or memory ran out
  abbrev IsTold : Outcome → Type 0
  IsTold o = ¬ HasRisen at.desk.faults at.desk_now.faults
      → IsTrueOf words at.desk.files o ⊎ (o ≡ OutOfMemory)

  -- the words ask for no trial, or its problem was not made or is too large, and the outcome
  -- says so
  abbrev NoTrial : Outcome → Type 0
  NoTrial o = (job : TrialAsked) → job_of words ≡ Ok (TriesJob job) → PosesNone job.recipe o

  -- no fault of the shelf, no unroutable width, and nothing that means more
  abbrev Spares : Outcome → Type 0
  Spares o = IsSpared o × MeansHere o

  stops-spare : HoldsOfStops Spares
  stops-spare = record {
    memory = (tt, tt);
    read = λ file. (tt, tt);
    input = λ file line code. (tt, tt);
    limit = λ file code count. (tt, tt);
  }

  -- nothing was written
  idle : (o : Outcome) → at.shelf_now ≡ at.shelf → NoTrial o → Spares o → IsTold o
      → Came words at o
  idle o same none spares told = Idle (record {
    same = same;
    spared = spares.0;
    leads = record {
      no_trial = none;
      no_nets = λ job is. spared-routable o spares.0;
      no_cut = λ job is. spared-boundless o spares.0;
      no_span = λ job is. spared-spanless o spares.0;
      no_net = λ job is. spared-wayless o spares.0;
      no_cause = λ job is all. spared-lawful o spares.0;
    };
    means = spares.1;
    told = told;
  })

  -- of what a job may say before its report, this outcome has nothing
  abbrev Untold : JobAsked → Outcome → Type 0
  Untold (Blames job) o = ¬ IsUnroutable o
  Untold (Bounds job) o = ¬ IsOfBound o
  Untold (Narrows job) o = ¬ IsNarrowing o
  Untold (Negotiates job) o = ¬ IsNoWay o
  Untold (Verifies job) o = job.all ≡ true → ¬ IsIllegal o
  Untold (TriesJob job) o = PosesNone job.recipe o
  Untold job o = Unit {0}

  no-lead : (job : JobAsked) → job_of words ≡ Ok job → (o : Outcome) → Untold job o
      → HasNoLead words o
  no-lead job asked o untold = record {
    no_trial = λ other is. told-by (TriesJob other) is;
    no_nets = λ other is. told-by (Blames other) is;
    no_cut = λ other is. told-by (Bounds other) is;
    no_span = λ other is. told-by (Narrows other) is;
    no_net = λ other is. told-by (Negotiates other) is;
    no_cause = λ other is. told-by (Verifies other) is;
  }
    where
      told-by : (other : JobAsked) → job_of words ≡ Ok other → Untold other o
      told-by other is =
          let same : job ≡ other = cc in subst (λ (j : JobAsked). Untold j o) same untold

  unled : (job : JobAsked) → job_of words ≡ Ok job → (o : Outcome) → Untold job o
      → Leads words at.desk.files at.shelf.files at.shelf_now.files o []
  unled job asked o untold = inr (refl, no-lead job asked o untold)

  abbrev Led : Outcome → Bytes → Type 0
  Led = IsLead words at.desk.files at.shelf.files at.shelf_now.files

  -- this was said before the report, and no file was written
  led : (o : Outcome) (lead : Bytes) → at.shelf_now ≡ after_say at.shelf lead → NeedsNoFile o
      → Led o lead → MeansHere o → IsTrueOf words at.desk.files o ⊎ (o ≡ OutOfMemory)
      → Came words at o
  led o lead now fileless leads means told = Told (record {
    fileless = fileless;
    files = ap (λ (s : ShelfState). s.files) now;
    faults = ap (λ (s : ShelfState). s.faults) now;
    lead = lead;
    leads = inl leads;
    said = ap (λ (s : ShelfState). s.said) now;
    means = means;
    told = told;
  })

  -- a front part of it was, where this outcome was to be reported
  cut-short : (outcome : Outcome) (lead : Bytes) → Led outcome lead
      → FailsToSay at.shelf lead at.shelf_now → (o : Outcome) → o ≡ WriteFault Said
      → Came words at o
  cut-short outcome lead leads fails o is = Cut (record {
    is = is;
    whole = none-left words at.desk.files at.shelf.files at.shelf_now.files fails.failed.files;
    risen = has_risen _ _ fails.failed.risen;
    outcome = outcome;
    lead = lead;
    leads = leads;
    count = fails.count;
    within = fails.within;
    said = fails.failed.said;
  })

  -- nothing was said, and it is told why
  abbrev IsTelling : Outcome → Type 0
  IsTelling o = IsTold o → Came words at o

  stops-come : at.shelf_now ≡ at.shelf → ((o : Outcome) → NoTrial o) → HoldsOfStops IsTelling
  stops-come same none = record {
    memory = idle OutOfMemory same (none OutOfMemory) (tt, tt);
    read = λ file. idle (ReadFault file) same (none (ReadFault file)) (tt, tt);
    input = λ file line code. idle (InputFault file line code) same
        (none (InputFault file line code)) (tt, tt);
    limit = λ file code count. idle (Limit file code count) same (none (Limit file code count))
        (tt, tt);
  }

  -- a routed file was judged so, and nothing was said before that
  verdict-came : (judgement : Judged) (o : Outcome) → o ≡ judged_outcome judgement
      → IsJudgedSo words at.desk.files judgement → at.shelf_now ≡ at.shelf → (job : JobAsked)
      → job_of words ≡ Ok job → Untold job o → IsTrueOf words at.desk.files o → Came words at o
  verdict-came IsLegal o is means same job asked untold truth =
      idle o same (no-lead job asked o untold).no_trial (subst Spares (sym is) (tt, means))
      (λ calm. inl truth)
  verdict-came (IsNotLegal line cause) o is means same job asked untold truth = Told (record {
    fileless = subst NeedsNoFile (sym is) tt;
    files = ap (λ (s : ShelfState). s.files) same;
    faults = ap (λ (s : ShelfState). s.faults) same;
    lead = [];
    leads = unled job asked o untold;
    said = ap (λ (s : ShelfState). s.said) same ∙ sym (more-none at.shelf.said);
    means = subst MeansHere (sym is) means;
    told = inl truth;
  })

  -- since memory ran out
  spent : (o : Outcome) → at.shelf_now ≡ at.shelf → NoTrial o → o ≡ OutOfMemory → Came words at o
  spent o same none is = idle o same none (subst Spares (sym is) (tt, tt)) (λ calm. inr is)

  module _ (job : JobAsked) (asked : job_of words ≡ Ok job) where
    -- what is true of the job by a crowd
    true-by : (crowd : List ℕ) (o : Outcome) → IsTrueOfJob crowd job at.desk.files o
        → IsTrueOf words at.desk.files o
    true-by crowd o h = (
      crowd,
      subst (λ (r : Result JobAsked Refusal). MatchResult r
          (λ job. IsTrueOfJob crowd job at.desk.files o) (λ cause. o ≡ Usage (code_of cause)))
          (sym asked) h,
    )

    -- what is true of it whichever crowd is gone by
    true-of : (o : Outcome) → IsTrueOfJob [] job at.desk.files o → IsTrueOf words at.desk.files o
    true-of = true-by []

    -- the work on the problem of four files
    work-came : (names : FileNames) (says : RoutingProblem → Outcome → Type 0)
        (works : RoutingProblem → ShelfState → ShelfState → Outcome → Type 0) (o : Outcome)
        → (IsTrueOfWork names says at.desk.files o → IsTrueOfJob [] job at.desk.files o)
        → NoTrial o
        → ((p : RoutingProblem) → Poses at.desk.files names p → works p at.shelf at.shelf_now o
        → Came words at o)
        → LeavesWork names works at o → Came words at o
    work-came names says works o told none came (inl h) =
        idle o h.1 none
        (lacks-hold Spares stops-spare (IsStopped at.desk at.desk_now) at.desk.files names o h.0)
        (λ calm. elim (calm-lack at.desk at.desk_now names o calm h.0) [
          | inl lack ↦ inl (true-of o (told (inl lack)))
          | inr short ↦ inr short
        ])
    work-came names says works o told none came (inr h) = came h.0 h.1 h.2

    -- where the method suits it
    suited-came : (method : Method) (first last : ℕ)
        (works : RoutingProblem → ShelfState → ShelfState → Outcome → Type 0) (p : RoutingProblem)
        (o : Outcome) → (IsUnsuited method first last p o → IsTrueOfJob [] job at.desk.files o)
        → NoTrial o
        → (Suits method first last p → works p at.shelf at.shelf_now o → Came words at o)
        → LeavesSuited method first last works p at.shelf at.shelf_now o → Came words at o
    suited-came method first last works p o told none came (inl h) = idle o h.1 none
        (unsuited-holds Spares (λ width why. (tt, tt)) method first last p o h.0)
        (λ calm. inl (true-of o (told h.0)))
    suited-came method first last works p o told none came (inr h) = came h.0 h.1

  -- where memory sufficed for the crowd that is to be gone by
  prepared-came : (method : Method) (count : Bool)
      (works : RoutingProblem → ShelfState → ShelfState → Outcome → Type 0) (p : RoutingProblem)
      (o : Outcome) → NoTrial o → (works p at.shelf at.shelf_now o → Came words at o)
      → LeavesPrepared method count works p at.shelf at.shelf_now o → Came words at o
  prepared-came method count works p o none came (inl h) = spent o h.1 none h.0.1
  prepared-came method count works p o none came (inr h) = came h

  -- ---- a search at one width

  module _ (which : JobAsked) (asked : job_of words ≡ Ok which) (search : Search)
      (searches : search_asked which search.crowd ≡ Some search)
      (one : search.first ≡ search.last) (p : RoutingProblem)
      (poses : Poses (files_of which at.desk.files) search.files p) (crowd : HasCrowd search p)
      (told : (o : Outcome) → IsTrueOfSearch search p o → IsTrueOf words at.desk.files o) where
    none-lower : flat_map (λ k. proof_files search p k []) (lower_widths search search.first) ≡ []
    none-lower = ap (λ (count : ℕ). flat_map (λ k. proof_files search p k [])
        (range_with_len search.first count)) (less-itself search.first)

    abbrev comes-alone : ComesTo words at.desk.files search.first
    comes-alone = record {
      job = which;
      asked = asked;
      search = search;
      searches = searches;
      p = p;
      poses = poses;
      crowd = crowd;
      from = omega arith;
      to = omega (arith, one);
      logs = λ k. [];
      lower = λ k low high. absurd (omega (arith, low, high));
    }

    alone : (more : List JobFile) → AreApart more → AreApart (lower_files comes-alone ++ more)
    alone more = subst (λ (fs : List JobFile). AreApart (fs ++ more)) (sym none-lower)

    abbrev come-alone : IsGiven p → search.first ≤ WIDTH_LIMIT
        → (wrote : ShelfState) (came : Result Found Stop)
        → Finds search p search.first at.shelf wrote came → (o : Outcome)
        → o ≡ found_outcome search.first came → HasCome words (ended_with wrote at) o
    come-alone given narrow wrote came finds o is = record {
      width = search.first;
      comes = comes-alone;
      given = given;
      narrow = narrow;
      between = at.shelf;
      lower = sym (ap (λ (fs : List JobFile). with_files fs at.shelf.files) none-lower);
      calm = refl;
      climbs = inl refl;
      route_apart = λ found. alone (route_file search found ∷ []) (route-apart search p found);
      proof_apart = λ log. alone (proof_files search p search.first log)
          (proof-apart search p search.first log);
      came = came;
      finds = finds;
      last = λ same. one;
      is = is;
      told = told;
    }

  module _ (job : RouteAsked) (asked : job_of words ≡ Ok (Routes job)) (p : RoutingProblem)
      (poses : Poses at.desk.files job.files p)
      (told : (crowd : List ℕ) (o : Outcome) → IsTrueOfSearch (route_search job crowd) p o
      → IsTrueOf words at.desk.files o) where
    route-came : (o : Outcome) → LeavesRoute job p at.shelf at.shelf_now o → Came words at o
    route-came o h = Searched (record {
      wrote = at.shelf_now;
      come = come-alone (Routes job) asked (route_search job h.crowd) refl refl p poses
          (crowd-said job.search job.members h.crowd p h.known) (told h.crowd) h.given h.narrow at.shelf_now h.came h.finds o h.is;
      files = refl;
      faults = refl;
      lead = [];
      leads = unled (Routes job) asked o tt;
      said = finds-silent (route_search job h.crowd) p job.search.width at.shelf at.shelf_now h.came
          h.finds ∙ sym (more-none at.shelf.said);
    })

  -- ---- a search that names the nets to blame

  module _ (job : CoreAsked) (asked : job_of words ≡ Ok (Blames job)) (p : RoutingProblem)
      (poses : Poses at.desk.files job.files p) (crowd : List ℕ)
      (known : IsCrowdFor job.method false crowd p)
      (told : (o : Outcome) → IsTrueOfSearch (core_search job crowd) p o
      → IsTrueOf words at.desk.files o)
      (given : IsGiven p) (narrow : job.width ≤ WIDTH_LIMIT) (wrote : ShelfState) where
    abbrev come-core : (came : Result Found Stop)
        → Finds (core_search job crowd) p job.width at.shelf wrote came → (o : Outcome)
        → o ≡ found_outcome job.width came → HasCome words (ended_with wrote at) o
    come-core = come-alone (Blames job) asked (core_search job crowd) refl refl p poses known told
        given narrow wrote

    -- a width that was not refuted
    quiet-core : (came : Result Found Stop)
        → Finds (core_search job crowd) p job.width at.shelf wrote came → (o : Outcome)
        → ¬ IsUnroutable (found_outcome job.width came)
        → (at.shelf_now ≡ wrote) × (o ≡ found_outcome job.width came) → Came words at o
    quiet-core came finds o routable (same, is) = Searched (record {
      wrote = wrote;
      come = come-core came finds o is;
      files = ap (λ (s : ShelfState). s.files) same;
      faults = ap (λ (s : ShelfState). s.faults) same;
      lead = [];
      leads = unled (Blames job) asked o
          (λ unroutable. routable (subst IsUnroutable is unroutable));
      said = ap (λ (s : ShelfState). s.said) same
          ∙ finds-silent (core_search job crowd) p job.width at.shelf wrote came finds
          ∙ sym (more-none at.shelf.said);
    })

    -- the nets that the log of a refuted width blames
    module _ (lead : Vec ℕ Global)
        (finds : Finds (core_search job crowd) p job.width at.shelf wrote (Ok (Refuted lead)))
        (same : at.shelf_now.files ≡ wrote.files) where
      abbrev come-refuted : HasCome words (ended_with wrote at) (Unroutable job.width)
      come-refuted = come-core (Ok (Refuted lead)) finds (Unroutable job.width) refl

      abbrev refuted-here : IsRefuted words at.desk.files at.shelf.files at.shelf_now.files
          job.width
      refuted-here =
          let there = refuted-there words (ended_with wrote at) (Unroutable job.width) come-refuted
          lead finds refl in
          record {
            comes = there.comes;
            last = there.last;
            log = there.log;
            refuted = there.refuted;
            written = subst (λ (fs : Option FileMap). AreWritten (lower_files there.comes
                ++ proof_files (core_search job crowd) p job.width finds.1.log) at.shelf.files fs)
                (sym same) there.written;
          }

      net-lines : AreNetLines words at.desk.files at.shelf.files at.shelf_now.files
          (Unroutable job.width) lead.items
      net-lines = record {
        job = job;
        asked = asked;
        width = job.width;
        unroutable = refl;
        refuted = refuted-here;
        is = finds.1.ends.refutes.names;
      }

      silent : wrote.said ≡ at.shelf.said
      silent = finds-silent (core_search job crowd) p job.width at.shelf wrote
          (Ok (Refuted lead)) finds

    named-core : (lead : Vec ℕ Global)
        (finds : Finds (core_search job crowd) p job.width at.shelf wrote (Ok (Refuted lead)))
        (o : Outcome) → SaysLead lead.items job.width wrote at.shelf_now o → Came words at o
    named-core lead finds o (inl (now, is)) =
        let same = ap (λ (s : ShelfState). s.files) now in
        Searched (record {
          wrote = wrote;
          come = come-core (Ok (Refuted lead)) finds o is;
          files = same;
          faults = ap (λ (s : ShelfState). s.faults) now;
          lead = lead.items;
          leads = subst (λ (a : Outcome). Leads words at.desk.files at.shelf.files
              at.shelf_now.files a lead.items) (sym is) (inl (inr (inl (net-lines lead finds same))));
          said = ap (λ (s : ShelfState). s.said) now
              ∙ ap (λ (s : Option Bytes). more_said s lead.items) (silent lead finds same);
        })
    named-core lead finds o (inr (fails, is)) =
        let same = fails.failed.files in
        Cut (record {
          is = is;
          whole = subst (λ (fs : Option FileMap).
              LeavesWhole words at.desk.files at.shelf.files fs) (sym same)
              (log-left words (ended_with wrote at) (Unroutable job.width)
              (come-refuted lead finds same) finds.0.few finds.1.log
              (inl (lead.items, finds.1.ends))
              (ap (λ (s : ShelfState). s.files) finds.1.written));
          risen = subst (λ (n : ℕ). HasRisen n at.shelf_now.faults)
              (ap (λ (s : ShelfState). s.faults) finds.1.written)
              (has_risen _ _ fails.failed.risen);
          outcome = Unroutable job.width;
          lead = lead.items;
          leads = inr (inl (net-lines lead finds same));
          count = fails.count;
          within = fails.within;
          said = fails.failed.said
              ∙ ap (λ (s : Option Bytes). more_said s (take fails.count lead.items))
              (silent lead finds same);
        })

  module _ (job : CoreAsked) (asked : job_of words ≡ Ok (Blames job)) (p : RoutingProblem)
      (poses : Poses at.desk.files job.files p)
      (told : (crowd : List ℕ) (o : Outcome) → IsTrueOfSearch (core_search job crowd) p o
      → IsTrueOf words at.desk.files o) where
    stops-routable : (stop : Stop) → ¬ IsUnroutable (found_outcome job.width (Err stop))
    stops-routable (Fault slot) = λ bad. bad
    stops-routable (TooManyClauses count) = λ bad. bad
    stops-routable (TooManyHeld count) = λ bad. bad
    stops-routable Memory = λ bad. bad

    core-came : (o : Outcome) → LeavesCore job p at.shelf at.shelf_now o → Came words at o
    core-came o did = go did.came did.finds did.says
      where
        go : (came : Result Found Stop)
            (finds : Finds (core_search job did.crowd) p job.width at.shelf did.wrote came)
            → SaysBlamed job.width did.wrote at.shelf_now came o → Came words at o
        go (Ok (Refuted lead)) finds says = named-core job asked p poses did.crowd did.known
            (told did.crowd) did.given did.narrow did.wrote lead finds o says
        go (Ok IsRouted) finds says = quiet-core job asked p poses did.crowd did.known
            (told did.crowd) did.given did.narrow did.wrote (Ok IsRouted) finds o (λ bad. bad) says
        go (Ok (Spent learned)) finds says = quiet-core job asked p poses did.crowd did.known
            (told did.crowd) did.given did.narrow did.wrote (Ok (Spent learned)) finds o
            (λ bad. bad) says
        go (Err stop) finds says = quiet-core job asked p poses did.crowd did.known
            (told did.crowd) did.given did.narrow did.wrote (Err stop) finds o
            (stops-routable stop) says

  -- ---- a climb through the widths, which a sweep or a trial asks for

  module _ (which : JobAsked) (job : SweepAsked) (p : RoutingProblem)
      (asked : job_of words ≡ Ok which)
      (searches : (crowd : List ℕ) → search_asked which crowd ≡ Some (sweep_search job crowd))
      (climb : IsClimb words) (turns : IsSome job.members → TakesTurns words)
      (poses : Poses (files_of which at.desk.files) job.files p)
      (told : (crowd : List ℕ) (o : Outcome) → IsTrueOfSearch (sweep_search job crowd) p o
      → IsTrueOf words at.desk.files o)
      (first : ShelfState) (files : first.files ≡ at.shelf.files)
      (faults : first.faults ≡ at.shelf.faults) (lead : Bytes)
      (led : first.said ≡ more_said at.shelf.said lead) where
    climbed : (crowd : List ℕ) → HasCrowd (sweep_search job crowd) p → IsGiven p
        → job.search.width ≤ WIDTH_LIMIT → (width : ℕ) (found : Result Found Stop) (o : Outcome) → o ≡ found_outcome width found
        → EndsAt (copies_by (sweep_search job crowd).way)
        (λ width. refutes_by (sweep_search job crowd).way p width
        (clauses_at (sweep_search job crowd) width p))
        (λ width. opens_by (sweep_search job crowd).way p width
        (clauses_at (sweep_search job crowd) width p))
        (sweep_search job crowd).ask job.search.width
        (λ width. clauses_at (sweep_search job crowd) width p)
        (λ width. IsRoutingBy job.search.method width p) first at.shelf_now width found
        → HasCome words at o
    climbed crowd known given narrow width found o is end =
        let search = sweep_search job crowd in
        let below = end.below in
        let lower = climbed-logs job p given poses.fits crowd known below first end.between
        end.refuted in
        let low : width ≤ 64 = omega (arith, end.next, end.within, narrow) in
        let count : below ≡ width - 1 = omega (arith, end.next) in
        let few : 1 + (width - 1) ≤ width = omega (arith, end.next) in
        record {
          width = width;
          comes = record {
            job = which;
            asked = asked;
            search = search;
            searches = searches crowd;
            p = p;
            poses = poses;
            crowd = known;
            from = omega (arith, end.next);
            to = omega (arith, end.next, end.within);
            logs = lower.logs;
            lower = λ k from high. lower.refuted k from (omega (arith, high, end.next));
          };
          given = given;
          narrow = low;
          between = end.between;
          lower = lower.files ∙ (λ i. with_files
              (flat_map (λ k. proof_files search p k (lower.logs k)) (range_with_len 1 (count i)))
              (files i));
          calm = climbed-calm job p given poses.fits crowd known below first end.between end.refuted
              ∙ faults;
          climbs = inr (
            climb,
            elim (one-copy job.search job.members crowd) [
              | inl one ↦ inl one
              | inr some ↦ inr (turns some)
            ],
          );
          route_apart = λ found. proofs-then-route search p refl lower.logs 1 (width - 1)
              found (omega (arith, few, low));
          proof_apart = λ log. proofs-then-proof search p refl lower.logs 1 (width - 1) width log
              few low;
          came = found;
          finds = end.then;
          last = end.last;
          is = is;
          told = told crowd;
        }

    sweep-came : (o : Outcome)
        → Leads words at.desk.files at.shelf.files at.shelf_now.files o lead
        → Sweeps job p first at.shelf_now o → Came words at o
    sweep-came o leads did =
        let climbs = did.climbs in
        let end = climbs.3 in
        let known = crowd-said job.search job.members did.crowd p did.known in
        Searched (record {
          wrote = at.shelf_now;
          come = climbed did.crowd known did.given did.narrow climbs.0 climbs.1 o
              (did.is ∙ ap climbed_outcome climbs.2 ∙ climbed-outcome climbs.0 climbs.1) end;
          files = refl;
          faults = refl;
          lead = lead;
          leads = leads;
          said = finds-silent (sweep_search job did.crowd) p climbs.0 end.between at.shelf_now
              climbs.1 end.then
              ∙ climbed-said job p did.given poses.fits did.crowd known end.below first
              end.between end.refuted
              ∙ led;
        })

  -- ---- the clauses of a problem

  module _ (job : EncodeAsked) (asked : job_of words ≡ Ok (EncodesJob job)) (p : RoutingProblem)
      (poses : Poses at.desk.files job.files p)
      (suits : Suits job.method job.width job.width p) (crowd : List ℕ)
      (known : IsCrowdFor job.method false crowd p) where
    abbrev formula : Cnf
    formula = clauses_by job.method crowd job.width p

    encode-true : (o : Outcome) → IsTrueOfEncoding job crowd p o → IsTrueOf words at.desk.files o
    encode-true o h = true-by (EncodesJob job) asked crowd o (inr (p, poses, h))

    written-came : (came : Result (Unit {0}) Stop) (o : Outcome) → o ≡ written_outcome came
        → WritesClauses job p formula at.shelf at.shelf_now came → Came words at o
    written-came (Ok written) o is h = Wrote (record {
      done = Done;
      is_done = tt;
      between = at.shelf;
      begun = refl;
      calm = refl;
      lead = [];
      said = sym (more-none at.shelf.said);
      files = clauses_file job crowd p ∷ [];
      of = inr (inl (record {
        job = job;
        asked = asked;
        p = p;
        poses = poses;
        crowd = crowd;
        known = known;
        few = h.0;
        order = refl;
      }));
      apart = (tt, tt);
      heard = (tt, tt);
      writes = inl (is, h.2);
      leads = unled (EncodesJob job) asked o tt;
      means = λ done written. inl (record {
        job = job;
        p = p;
        asked = asked;
        poses = poses;
        crowd = crowd;
        known = known;
        few = h.0;
        reads_back = h.1 (can_print poses.route.text p.route
            (poses.route.faultless, poses.route.says));
        written = written;
      });
      told = encode-true Done (inr (suits, (known, inr (h.0, refl))));
    })
    written-came (Err (Fault slot)) o is h = Wrote (record {
      done = Done;
      is_done = tt;
      between = at.shelf;
      begun = refl;
      calm = refl;
      lead = [];
      said = sym (more-none at.shelf.said);
      files = clauses_file job crowd p ∷ [];
      of = inr (inl (record {
        job = job;
        asked = asked;
        p = p;
        poses = poses;
        crowd = crowd;
        known = known;
        few = h.1;
        order = refl;
      }));
      apart = (tt, tt);
      heard = (tt, tt);
      writes = inr (
        File (Clauses job.width),
        inl (refl, h.2),
        is ∙ ap (λ (s : FileSlot). WriteFault (File s)) h.0,
      );
      leads = unled (EncodesJob job) asked o tt;
      means = λ done written. cc;
      told = encode-true Done (inr (suits, (known, inr (h.1, refl))));
    })
    written-came (Err (TooManyClauses count)) o is h = idle o h.1 (λ other is. cc)
        (subst Spares (sym is) (tt, tt))
        (λ calm. inl (encode-true o (inr (
          suits,
          (
            known,
            inl (
              subst (λ (n : ℕ). CLAUSE_LIMIT < n) h.0.0 h.0.1,
              is ∙ ap (Limit None (size_code FormulaClauses)) h.0.0,
            ),
          ),
        ))))
    written-came (Err (TooManyHeld count)) o is h =
        absurd (omega (arith, h.0.0, h.0.1, h.0.2))
    written-came (Err Memory) o is h = spent o h.1 (λ other is. cc) is

  -- ---- the route of a model

  module _ (job : DecodeAsked) (asked : job_of words ≡ Ok (DecodesJob job)) (p : RoutingProblem)
      (poses : Poses at.desk.files job.files p)
      (suits : Suits job.method job.width job.width p) where
    module _ (given : IsGiven p) (narrow : job.width ≤ WIDTH_LIMIT) (crowd : List ℕ)
        (known : IsCrowdFor job.method false crowd p) where
      abbrev asked-clauses : Cnf
      asked-clauses = clauses_by job.method crowd job.width p

      decode-true : (o : Outcome)
          → IsTrueOfCount FormulaClauses (length asked-clauses.clauses)
          (IsTrueOfModel (IsHalted at.desk.files) at.desk.files job asked-clauses o) o
          → IsTrueOf words at.desk.files o
      decode-true o h = true-by (DecodesJob job) asked crowd o
          (inr (p, poses, inr (suits, (known, h))))

      module _ (few : HasFew asked-clauses) (literals : List Lit)
          (says : Says at.desk.files (model_source job.model asked-clauses.vars) model_said literals)
        where
          abbrev model-read : ReadsModel words at.desk.files
          model-read = record {
            job = job;
            asked = asked;
            p = p;
            poses = poses;
            crowd = crowd;
            known = known;
            few = few;
            literals = literals;
            says = says;
          }

          routing-came : first_unmet literals asked-clauses.clauses ≡ None → (o : Outcome)
              → LeavesRouting job (IsRoutingBy job.method job.width p) at.shelf at.shelf_now o
              → Came words at o
          routing-came met o (inl (short, same)) = spent o same (λ other is. cc) short
          routing-came met o (inr (found, routing, h)) = Wrote (record {
            done = IsRoutedAt job.width;
            is_done = tt;
            between = at.shelf;
            begun = refl;
            calm = refl;
            lead = [];
            said = sym (more-none at.shelf.said);
            files = decoded_file job found ∷ [];
            of = inr (inr (inr (inr (inr (inl (record {
              job = job;
              asked = asked;
              p = p;
              poses = poses;
              found = found;
              routing = routing;
              order = refl;
            }))))));
            apart = (tt, tt);
            heard = (tt, tt);
            writes = h;
            leads = unled (DecodesJob job) asked o tt;
            means = λ done written. inr (inr (record {
              model = model-read;
              width_is = refl;
              met = met;
              found = found;
              routing = routing;
              reads_back = reads_back found (routing-printable job.method job.width p found
                  poses.route.text given poses.fits narrow
                  (poses.route.faultless, poses.route.says) routing);
              written = written;
            }));
            told = decode-true (IsRoutedAt job.width)
                (inr (few, Reads literals says (sym (ap (decoded_outcome job.width) met))));
          })

          judged-came : (o : Outcome)
              → LeavesJudged job asked-clauses (IsRoutingBy job.method job.width p) literals at.shelf
              at.shelf_now o
              → Came words at o
          judged-came o (inl (clause, first, is, same)) = idle o same (λ other is_trial. cc)
              (subst Spares (sym is) (
                tt,
                record {
                  model = model-read;
                  first = first;
                  same = ap (λ (s : ShelfState). s.files) same;
                },
              ))
              (λ calm. inl (decode-true o (inr (
                few,
                Reads literals says (is ∙ sym (ap (decoded_outcome job.width) first)),
              ))))
          judged-came o (inr (met, h)) = routing-came met o h

      -- a model that was not read is kept from it by what its file holds, or memory ran out
      calm-model : (o : Outcome) → ¬ HasRisen at.desk.faults at.desk_now.faults
          → StopsAt (IsStopped at.desk at.desk_now) (model_source job.model asked-clauses.vars)
          (unread_outcome ModelFile) o
          → IsTrueOfModel (IsHalted at.desk.files) at.desk.files job asked-clauses o ⊎ IsSpent o
      calm-model o calm stop =
          let not_read : IsTrueOfModel (IsStopped at.desk at.desk_now) at.desk.files job
          asked-clauses o = Stops stop in
          calm-reads at.desk at.desk_now IsSpent calm refl (λ literals. inl) not_read

      model-came : HasFew asked-clauses → (o : Outcome)
          → LeavesModel (IsStopped at.desk at.desk_now) at.desk.files job asked-clauses
          (IsRoutingBy job.method job.width p) at.shelf at.shelf_now o
          → Came words at o
      model-came few o (inl (stop, same)) = idle o same (λ other is. cc)
          (subst Spares (sym stop.tells) (unread-holds Spares stops-spare ModelFile stop.fault))
          (λ calm. elim (calm-model o calm stop) [
            | inl told ↦ inl (decode-true o (inr (few, told)))
            | inr short ↦ inr short
          ])
      model-came few o (inr (literals, says, h)) = judged-came few literals says o h

      clauses-came : (o : Outcome)
          → LeavesClauses (IsStopped at.desk at.desk_now) at.desk.files job asked-clauses
          (IsRoutingBy job.method job.width p) at.shelf at.shelf_now o
          → Came words at o
      clauses-came o (inl (TooManyClauses count, unbuilt, is, same)) =
          idle o same (λ other is_trial. cc) (subst Spares (sym is) (tt, tt))
          (λ calm. inl (decode-true o (inl (
            subst (λ (n : ℕ). CLAUSE_LIMIT < n) unbuilt.0 unbuilt.1,
            is ∙ ap (Limit None (size_code FormulaClauses)) unbuilt.0,
          ))))
      clauses-came o (inl (TooManyHeld count, unbuilt, is, same)) =
          absurd (omega (arith, unbuilt.0, unbuilt.1, unbuilt.2))
      clauses-came o (inl (Memory, unbuilt, is, same)) = spent o same (λ other is_trial. cc) is
      clauses-came o (inl (Fault slot, unbuilt, is, same)) = absurd unbuilt
      clauses-came o (inr (few, h)) = model-came few o h

    decoded-came : (o : Outcome)
        → DecodesProblem (IsStopped at.desk at.desk_now) at.desk.files job p at.shelf at.shelf_now o
        → Came words at o
    decoded-came o did = clauses-came did.given did.narrow did.crowd did.known o did.left

  -- ---- the check of a log

  module _ (job : CheckAsked) (asked : job_of words ≡ Ok (Checks job)) where
    verdict-spares : (cnf : Cnf) (log : List Step)
        → Says at.desk.files (cnf_source job.cnf) cnf_said cnf
        → Says at.desk.files (lrat_source job.lrat (length cnf.clauses)) lrat_said log
        → (judgement : Judgement) → full_judge cnf log ≡ judgement
        → Spares (judgement_outcome judgement)
    verdict-spares cnf log reads_cnf reads_lrat IsAccepted accepts = (
      tt,
      record {
        job = job;
        cnf = cnf;
        log = log;
        asked = asked;
        reads_cnf = reads_cnf;
        reads_lrat = reads_lrat;
        accepts = accepts;
        unsat = full_refutes cnf log
            (subst HaveLiterals (sym reads_lrat.says)
            (log_literals (length cnf.clauses) reads_lrat.text reads_lrat.faultless)) accepts;
      },
    )
    verdict-spares cnf log reads_cnf reads_lrat (IsRefused step cause) refused = (tt, tt)

    calm-check : (o : Outcome) → ¬ HasRisen at.desk.faults at.desk_now.faults
        → ChecksTo (IsStopped at.desk at.desk_now) at.desk.files job o
        → ChecksTo (IsHalted at.desk.files) at.desk.files job o ⊎ IsSpent o
    calm-check o calm = calm-reads at.desk at.desk_now IsSpent calm refl
        (λ cnf. calm-reads at.desk at.desk_now IsSpent calm refl (λ log. inl))

    check-came : (o : Outcome)
        → ChecksTo (IsStopped at.desk at.desk_now) at.desk.files job o
        → at.shelf_now ≡ at.shelf → Came words at o
    check-came o h same =
        idle o same (λ other is. cc)
        (reads-hold Spares stops-spare (IsStopped at.desk at.desk_now) at.desk.files CnfFile h
        (λ cnf reads_cnf more. reads-hold Spares stops-spare (IsStopped at.desk at.desk_now)
        at.desk.files Lrat more (λ log reads_lrat is. subst Spares (sym is)
        (verdict-spares cnf log reads_cnf reads_lrat (full_judge cnf log) refl))))
        (λ calm. elim (calm-check o calm h) [
          | inl told ↦ inl (true-of (Checks job) asked o told)
          | inr short ↦ inr short
        ])

  -- ---- the judging of a routed file

  module _ (job : VerifyAsked) (asked : job_of words ≡ Ok (Verifies job)) where
    calm-verify : (o : Outcome) → ¬ HasRisen at.desk.faults at.desk_now.faults
        → VerifiesTo (IsStopped at.desk at.desk_now) at.desk.files job o
        → VerifiesTo (IsHalted at.desk.files) at.desk.files job o ⊎ (o ≡ OutOfMemory)
    calm-verify o calm (inl h) = elim (calm-lack at.desk at.desk_now job.files o calm h) [
      | inl lack ↦ inl (inl lack)
      | inr short ↦ inr short
    ]
    calm-verify o calm (inr (p, poses, h)) =
        let settled : JudgesTo (IsHalted at.desk.files) at.desk.files job p o ⊎ IsSpent o =
        calm-reads at.desk at.desk_now IsSpent calm refl (λ found. inl) h in
        elim settled [
          | inl told ↦ inl (inr (p, poses, told))
          | inr short ↦ inr short
        ]

    -- nothing was said
    silent-came : (o : Outcome) → VerifiesTo (IsStopped at.desk at.desk_now) at.desk.files job o
        → at.shelf_now ≡ at.shelf → (job.all ≡ true → ¬ IsIllegal o) → Came words at o
    silent-came o h same none = go h (λ calm. elim (calm-verify o calm h) [
      | inl told ↦ inl (true-of (Verifies job) asked o told)
      | inr short ↦ inr short
    ])
      where
        go : VerifiesTo (IsStopped at.desk at.desk_now) at.desk.files job o → IsTold o
            → Came words at o
        go (inl lack) = lacks-hold IsTelling (stops-come same (λ o other is. cc))
            (IsStopped at.desk at.desk_now) at.desk.files job.files o lack
        go (inr (p, poses, reads)) = reads-hold IsTelling (stops-come same (λ o other is. cc))
            (IsStopped at.desk at.desk_now) at.desk.files Routed reads
            (λ found says is told. verdict-came (judged_by job.reach job.width p found) o is
            (inl (record {
              job = job;
              p = p;
              found = found;
              asked = asked;
              poses = poses;
              reads = says;
              is = refl;
            }))
            same (Verifies job) asked none
            (true-of (Verifies job) asked o (inr (p, poses, Reads found says is))))

    -- a line was said for each cause
    module _ (told : AreCausesOf at.desk.files job) where
      abbrev first_outcome : Outcome
      first_outcome = NotLegal told.first.line told.first.cause

      abbrev lines : Bytes
      lines = cause_lines told.found.nets (told.first ∷ told.more)

      causes-told : AreCauseLines words at.desk.files first_outcome lines
      causes-told =
          record { job = job; asked = asked; told = told; first = refl; is = refl }

      causes-came : (o : Outcome)
          → SaysCauses told.found.nets told.first told.more at.shelf at.shelf_now o
          → Came words at o
      causes-came o (inl (now, is)) = subst (Came words at) (sym is)
          (led first_outcome lines now tt (inr (inr (inr (inr (inr causes-told)))))
          (inl (record {
            job = job;
            p = told.p;
            found = told.found;
            asked = asked;
            poses = told.poses;
            reads = told.reads;
            is = told.are.first;
          }))
          (inl (true-of (Verifies job) asked first_outcome (inr (
            told.p,
            told.poses,
            Reads told.found told.reads (ap judged_outcome (sym told.are.first)),
          )))))
      causes-came o (inr (fails, is)) = cut-short first_outcome lines
          (inr (inr (inr (inr (inr causes-told))))) fails o is

    verify-came : (o : Outcome)
        → LeavesVerified (IsStopped at.desk at.desk_now) at.desk.files job at.shelf at.shelf_now o
        → Came words at o
    verify-came o (inl (h, same, none)) = silent-came o h same none
    verify-came o (inr (told, says)) = causes-came told o says

  -- ---- the judging of a routed file as a routing of a placement

  module _ (job : JudgeAsked) (asked : job_of words ≡ Ok (Judges job)) where
    calm-judge : (o : Outcome) → ¬ HasRisen at.desk.faults at.desk_now.faults
        → JudgesPlaced (IsStopped at.desk at.desk_now) at.desk.files job (IsTrueJudgement job) o
        → JudgesPlaced (IsHalted at.desk.files) at.desk.files job (IsJudgement job) o ⊎ IsSpent o
    calm-judge o calm h = calm-placed at.desk at.desk_now job.files calm
        {works = ReadsRouted (IsStopped at.desk at.desk_now) at.desk.files job
        (IsTrueJudgement job)}
        {told = ReadsRouted (IsHalted at.desk.files) at.desk.files job (IsJudgement job)}
        (λ placed o h. calm-reads at.desk at.desk_now IsSpent calm refl
        (λ (found : RouteText) (is : IsTrueJudgement job placed found o). inl is.0) h) o h

    judge-came : (o : Outcome)
        → JudgesPlaced (IsStopped at.desk at.desk_now) at.desk.files job (IsTrueJudgement job) o
        → at.shelf_now ≡ at.shelf → Came words at o
    judge-came o h same = go h (λ calm. elim (calm-judge o calm h) [
      | inl told ↦ inl (true-of (Judges job) asked o told)
      | inr short ↦ inr short
    ])
      where
        go : JudgesPlaced (IsStopped at.desk at.desk_now) at.desk.files job (IsTrueJudgement job) o
            → IsTold o → Came words at o
        go (inl lack) = placed-lacks-hold IsTelling (stops-come same (λ o other is. cc))
            (IsStopped at.desk at.desk_now) at.desk.files job.files o lack
        go (inr (placed, poses, reads)) =
            reads-hold IsTelling (stops-come same (λ o other is. cc))
            (IsStopped at.desk at.desk_now) at.desk.files Routed reads
            (λ found says is told. verdict-came (placed_judged job.strict job.width placed found) o
            is.0
            (inr (record {
              job = job;
              placed = placed;
              found = found;
              asked = asked;
              poses = poses;
              reads = says;
              is = refl;
              says = is.1;
            }))
            same (Judges job) asked tt
            (true-of (Judges job) asked o (inr (placed, poses, Reads found says is.0))))

  -- ---- a cut of a placement

  module _ (job : BoundAsked) (asked : job_of words ≡ Ok (Bounds job)) where
    module _ (placed : PlacedNetlist) (poses : PosesPlaced at.desk.files job.files placed)
        (cut : BestCut) (best : IsBestCut placed cut) where
      abbrev bounded : IsBounded words at.desk.files cut.tracks cut.cells (length cut.nets)
      bounded = record {
        job = job;
        asked = asked;
        placed = placed;
        poses = poses;
        cut = cut;
        best = best;
        tracks_of = refl;
        cells_of = refl;
        nets_of = refl;
        bound = best.bound;
      }

      cut-named : AreCutLines words at.desk.files (bound_outcome cut)
          (cut_lines placed.netlist cut)
      cut-named = record {
        tracks = cut.tracks;
        cells = cut.cells;
        nets = length cut.nets;
        bound = refl;
        bounded = bounded;
        is = refl;
      }

      said-came : (o : Outcome) → SaysCut placed.netlist cut at.shelf at.shelf_now o
          → Came words at o
      said-came o (inl (now, is)) = subst (Came words at) (sym is)
          (led (bound_outcome cut) (cut_lines placed.netlist cut) now tt (inr (inr (inl cut-named)))
          bounded (inl (true-of (Bounds job) asked (bound_outcome cut)
          (inr (placed, poses, (cut, best, refl))))))
      said-came o (inr (fails, is)) = cut-short (bound_outcome cut) (cut_lines placed.netlist cut)
          (inr (inr (inl cut-named))) fails o is

    bound-came : (o : Outcome) → LeavesPlaced job.files BoundsTo at o → Came words at o
    bound-came o (inl (none, same)) = idle o same (λ other is. cc)
        (placed-lacks-hold Spares stops-spare (IsStopped at.desk at.desk_now) at.desk.files
        job.files o none)
        (λ calm. elim (calm-placed at.desk at.desk_now job.files calm
        (λ (placed : PlacedNetlist) (o : Outcome) (h : IsTrueOfCut placed o). inl h) o
        (inl none)) [
          | inl told ↦ inl (true-of (Bounds job) asked o told)
          | inr short ↦ inr short
        ])
    bound-came o (inr (placed, poses, inl (short, same))) =
        spent o same (λ other is. cc) short
    bound-came o (inr (placed, poses, inr (cut, best, says))) =
        said-came placed poses cut best o says

  -- ---- a route of a placement

  module _ (job : GlobalAsked) (asked : job_of words ≡ Ok (Negotiates job)) where
    global-true : (placed : PlacedNetlist) → HasFiles at.desk.files job placed → (o : Outcome)
        → IsTrueOfSought job placed o → IsTrueOf words at.desk.files o
    global-true placed has o told = true-of (Negotiates job) asked o (inr (placed, has, told))

    found-came : (placed : PlacedNetlist) → HasFiles at.desk.files job placed
        → AreNetsReached placed job.width → (o : Outcome)
        → LeavesFound job placed at.shelf at.shelf_now o → Came words at o
    found-came placed has reached o (inl (inl (rounds, stopped, most, limit, none), same)) = subst (Came words at) (sym none) (Told (record {
      fileless = tt;
      files = ap (λ (s : ShelfState). s.files) same;
      faults = ap (λ (s : ShelfState). s.faults) same;
      lead = [];
      leads = unled (Negotiates job) asked (Unfound job.width rounds stopped) (λ way. way);
      said = ap (λ (s : ShelfState). s.said) same ∙ sym (more-none at.shelf.said);
      means = inl (record {
        job = job;
        asked = asked;
        width_is = refl;
        rounds_most = most;
        timed = limit;
        placed = placed;
        files = has;
        reached = reached;
        same = ap (λ (s : ShelfState). s.files) same;
      });
      told = inl (global-true placed has (Unfound job.width rounds stopped)
          (inr (reached, inr (rounds, stopped, most, limit, refl))));
    }))
    found-came placed has reached o (inl (inr short, same)) = spent o same (λ other is. cc) short
    found-came placed has reached o (inr (found, route, h)) = Wrote (record {
      done = IsRoutedAt job.width;
      is_done = tt;
      between = at.shelf;
      begun = refl;
      calm = refl;
      lead = [];
      said = sym (more-none at.shelf.said);
      files = found_file job found ∷ [];
      of = inr (inr (inr (inl (record {
        job = job;
        asked = asked;
        placed = placed;
        has = has;
        found = found;
        route = route;
        order = refl;
      }))));
      apart = (tt, tt);
      heard = (tt, tt);
      writes = h;
      leads = unled (Negotiates job) asked o
          (written-wayless job.width (found_file job found ∷ []) at.shelf at.shelf_now o h);
      means = λ done written. inr (inl (record {
        job = job;
        asked = asked;
        width_is = refl;
        placed = placed;
        files = has;
        found = found;
        route = route;
        says = routing-said at.desk.files job placed found has route;
        written = written;
      }));
      told = global-true placed has (IsRoutedAt job.width)
          (inr (reached, inl (found, route, refl)));
    })

    -- a net that no wires reach
    module _ (placed : PlacedNetlist) (has : HasFiles at.desk.files job placed)
        (unreached : Unreached) (first : IsFirstNet placed job.width unreached) where
      abbrev wayless : at.shelf_now.files ≡ at.shelf.files
          → IsWithoutWay words at.desk.files at.shelf.files at.shelf_now.files job.width
      wayless same = record {
        job = job;
        asked = asked;
        width_is = refl;
        placed = placed;
        files = has;
        unreached = unreached;
        first = first;
        none = no-routing placed job.width unreached first.is;
        same = same;
      }

      abbrev wayless-line : at.shelf_now.files ≡ at.shelf.files
          → IsWaylessLine words at.desk.files at.shelf.files at.shelf_now.files
          (NoWay job.width) (net_line placed.netlist unreached.net)
      wayless-line same =
          record { width = job.width; no_way = refl; without = wayless same; is = refl }

      wayless-came : (o : Outcome)
          → SaysNet placed.netlist unreached.net job.width at.shelf at.shelf_now o
          → Came words at o
      wayless-came o (inl (now, is)) =
          let same = ap (λ (s : ShelfState). s.files) now in
          subst (Came words at) (sym is)
          (led (NoWay job.width) (net_line placed.netlist unreached.net) now tt
          (inr (inr (inr (inr (inl (wayless-line same)))))) (wayless same)
          (inl (global-true placed has (NoWay job.width) (inl (unreached, first, refl)))))
      wayless-came o (inr (fails, is)) =
          cut-short (NoWay job.width) (net_line placed.netlist unreached.net)
          (inr (inr (inr (inr (inl (wayless-line fails.failed.files)))))) fails o is

    sought-came : (placed : PlacedNetlist) → HasFiles at.desk.files job placed → (o : Outcome)
        → LeavesSought job placed at.shelf at.shelf_now o → Came words at o
    sought-came placed has o (inl (short, same)) = spent o same (λ other is. cc) short
    sought-came placed has o (inr (inl (unreached, first, says))) =
        wayless-came placed has unreached first o says
    sought-came placed has o (inr (inr (reached, h))) = found-came placed has reached o h

    global-came : (o : Outcome) → LeavesGlobal job at o → Came words at o
    global-came o (inl (h, same)) = idle o same (λ other is. cc)
        (lacking-holds Spares stops-spare (IsStopped at.desk at.desk_now) at.desk.files job o h)
        (λ calm. elim (calm-lacking at.desk at.desk_now calm job o h) [
          | inl told ↦ inl (true-of (Negotiates job) asked o (inl told))
          | inr short ↦ inr short
        ])
    global-came o (inr (placed, has, h)) = sought-came placed has o h

  -- ---- what a placement needs

  module _ (job : LeastAsked) (asked : job_of words ≡ Ok (Narrows job)) where
    least-true : (placed : PlacedNetlist) → HasFiles at.desk.files (last_asked job) placed
        → (o : Outcome) → IsTrueOfLeast job placed o → IsTrueOf words at.desk.files o
    least-true placed has o told = true-of (Narrows job) asked o (inr (placed, has, told))

    module _ (placed : PlacedNetlist) (has : HasFiles at.desk.files (last_asked job) placed)
        (cut : BestCut) (best : IsBestCut placed cut) where
      abbrev cut-of-least : IsCutOfLeast words at.desk.files cut
      cut-of-least = record {
        job = job;
        asked = asked;
        placed = placed;
        files = has;
        best = best;
        bound = best.bound;
      }

      abbrev said-first : Bytes
      said-first = cut_lines placed.netlist cut

      least-lines : (o : Outcome) → IsOfCut cut o
          → AreLeastLines words at.desk.files o said-first
      least-lines o tells =
          record { cut = cut; least = cut-of-least; tells = tells; is = refl }

      -- nothing was written behind the lines
      told-cut : (o : Outcome) → at.shelf_now ≡ after_say at.shelf said-first → NeedsNoFile o
          → IsOfCut cut o → MeansHere o → IsTrueOf words at.desk.files o ⊎ (o ≡ OutOfMemory)
          → Came words at o
      told-cut o now fileless tells =
          led o said-first now fileless (inr (inr (inr (inl (least-lines o tells)))))

      widths-came : (o : Outcome)
          → LeavesWidths job placed cut (after_say at.shelf said-first) at.shelf_now o
          → Came words at o
      widths-came o (inl (inl (inl (above, is)), same)) = subst (Came words at) (sym is)
          (told-cut (beyond_outcome cut) same tt refl (record {
            cut = cut;
            least = cut-of-least;
            tracks_of = refl;
            cells_of = refl;
            nets_of = refl;
            beyond = above;
            none = λ width wires from to routing.
                let most = best.bound width wires from routing in omega (arith, most, to, above);
            same = ap (λ (s : ShelfState). s.files) same;
          })
          (inl (least-true placed has (beyond_outcome cut) (cut, best, inl (inl (above, refl))))))
      widths-came o (inl (inl (inr (within, (rounds, stopped, most, limit, is))), same)) = subst (Came words at)
          (sym is) (told-cut (Unfound job.last rounds stopped) same tt within (inr (record {
            cut = cut;
            least = cut-of-least;
            width_is = refl;
            rounds_most = most;
            timed = limit;
            within = within;
            same = ap (λ (s : ShelfState). s.files) same;
          }))
          (inl (least-true placed has (Unfound job.last rounds stopped)
          (cut, best, inl (inr (within, (rounds, stopped, most, limit, refl)))))))
      widths-came o (inl (inr short, same)) = subst (Came words at) (sym short)
          (told-cut OutOfMemory same tt tt tt (inr refl))
      widths-came o (inr (raised, found, is, h)) = Wrote (record {
        done = Narrowed raised.tracks found.width cut.tracks;
        is_done = tt;
        between = after_say at.shelf said-first;
        begun = refl;
        calm = refl;
        lead = said-first;
        said = refl;
        files = narrowed_files (least_names job.prefix) found.found raised.tracks raised.why;
        of = inr (inr (inr (inr (inl (record {
          cut = cut;
          least = cut-of-least;
          raised = raised;
          at = found;
          found = is;
          order = refl;
        })))));
        apart = narrowed-apart job.prefix found.found raised.tracks raised.why;
        heard = narrowed-heard job.prefix found.found raised.tracks raised.why;
        writes = h;
        leads = inl (inr (inr (inr (inl (least-lines o (tells-of-cut cut
            (narrowed_files (least_names job.prefix) found.found raised.tracks raised.why)
            raised.tracks found.width (after_say at.shelf said-first) at.shelf_now o
            (reason-from placed cut.tracks raised.tracks raised.why is.raised_from)
            (narrowed-of-cut cut (least_names job.prefix) found.found raised.tracks raised.why)
            h))))));
        means = λ done written.
            let bound : IsBound placed raised.tracks = raised-bound placed cut raised best
            is.raised_from in
            record {
              cut = cut;
              least = cut-of-least;
              cut_of = refl;
              raised = raised;
              tracks_of = refl;
              reason = is.raised_from;
              bound = bound;
              from = is.found.from;
              to = is.found.to;
              found = found.found;
              route = is.found.route;
              says = says-at at.desk.files job placed raised.tracks found has is.found;
              written = written;
              is_least = λ alike. subst (IsBound placed) (sym alike) bound;
            };
        told = least-true placed has (Narrowed raised.tracks found.width cut.tracks)
            (cut, best, inr (raised, found, is, refl));
      })

      cut-came : (o : Outcome) → LeavesCut job placed cut at.shelf at.shelf_now o → Came words at o
      cut-came o (inl (fails, is)) = cut-short OutOfMemory said-first
          (inr (inr (inr (inl (least-lines OutOfMemory tt))))) fails o is
      cut-came o (inr h) = widths-came o h

    least-came : (o : Outcome) → LeavesLeast job at o → Came words at o
    least-came o (inl (h, same)) = idle o same (λ other is. cc)
        (lacking-holds Spares stops-spare (IsStopped at.desk at.desk_now) at.desk.files
        (last_asked job) o h)
        (λ calm. elim (calm-lacking at.desk at.desk_now calm (last_asked job) o h) [
          | inl told ↦ inl (true-of (Narrows job) asked o (inl told))
          | inr short ↦ inr short
        ])
    least-came o (inr (placed, has, inl (short, same))) = spent o same (λ other is. cc) short
    least-came o (inr (placed, has, inr (cut, best, h))) = cut-came placed has cut best o h

  -- ---- the files of a generated problem

  module _ (job : GenAsked) (asked : job_of words ≡ Ok (Generates job)) where
    made-came : (o : Outcome) → WritesGenerated job at.shelf at.shelf_now o → Came words at o
    made-came o (inl (inl many, same)) = idle o same (λ other is. cc)
        (subst Spares (sym many.1) (tt, tt))
        (λ calm. inl (true-of (Generates job) asked o (inl many)))
    made-came o (inl (inr short, same)) = spent o same (λ other is. cc) short
    made-came o (inr (room, h)) = Wrote (record {
      done = Done;
      is_done = tt;
      between = at.shelf;
      begun = refl;
      calm = refl;
      lead = [];
      said = sym (more-none at.shelf.said);
      files = generated_files job.recipe job.prefix;
      of = inr (inr (inl (record { job = job; asked = asked; room = room; order = refl })));
      apart = problem-apart job.prefix (texts_of job.recipe);
      heard = (tt, (tt, (tt, (tt, tt))));
      writes = h;
      leads = unled (Generates job) asked o tt;
      means = λ done written.
          inr (record { job = job; asked = asked; room = room; written = written });
      told = true-of (Generates job) asked Done (inr (room, refl));
    })

  -- ---- the trial of a generated problem

  module _ (job : TrialAsked) (asked : job_of words ≡ Ok (TriesJob job)) where
    none-posed : (o : Outcome) → PosesNone job.recipe o → NoTrial o
    none-posed o none = λ other is.
        let same : job ≡ other = cc in
        subst (λ (j : TrialAsked). PosesNone j.recipe o) same none

    trial-came : (o : Outcome) → TriesGenerated job at.shelf at.shelf_now o → Came words at o
    trial-came o (inl (inl (inl many), same)) = idle o same (none-posed o (inl (inl many)))
        (subst Spares (sym many.1) (tt, tt))
        (λ calm. inl (true-of (TriesJob job) asked o (inl many)))
    trial-came o (inl (inl (inr short), same)) =
        spent o same (none-posed o (inl (inr short))) short
    trial-came o (inl (inr large, same)) = idle o same (none-posed o (inr large))
        (subst Spares (sym large.3) (tt, tt))
        (λ calm. inl (true-of (TriesJob job) asked o (inr (inl large))))
    trial-came o (inr (p, makes, inl h)) = sweep-came (TriesJob job) (sweep_of job) p asked
        (λ crowd. refl) (inr (job, asked)) (λ some. cc)
        (made-poses job.recipe job.search.prefix p makes)
        (λ crowd says h. true-by (TriesJob job) asked crowd says (inr (inr (p, makes, h))))
        (after_say at.shelf (trial_line p)) refl refl (trial_line p) refl o
        (inl (inl (record { job = job; asked = asked; p = p; makes = makes; is = refl }))) h
    trial-came o (inr (p, makes, inr (fails, is))) = cut-short o (trial_line p)
        (inl (record { job = job; asked = asked; p = p; makes = makes; is = refl })) fails o is

  -- ---- each job

  job-came : (job : JobAsked) (o : Outcome) → job_of words ≡ Ok job → LeavesJob job at o
      → Came words at o
  job-came (Routes job) o asked h =
      work-came (Routes job) asked job.files (IsTrueOfSuitedSearch (route_search job []))
      (RouteLeaves job) o (λ told. told) (λ other is. cc)
      (λ p poses. suited-came (Routes job) asked job.search.method job.search.width
      job.search.width (LeavesPrepared job.search.method job.search.count (LeavesRoute job)) p o
      (λ unsuited. inr (p, poses, inl unsuited)) (λ other is. cc)
      (λ suits. prepared-came job.search.method job.search.count (LeavesRoute job) p o (λ other is. cc)
      (route-came job asked p poses
      (λ crowd says told. true-by (Routes job) asked crowd says
      (inr (p, poses, inr (suits, told)))) o))) h
  job-came (SweepsJob job) o asked h =
      work-came (SweepsJob job) asked job.files (IsTrueOfSuitedSearch (sweep_search job []))
      (SweepLeaves job) o (λ told. told) (λ other is. cc)
      (λ p poses. suited-came (SweepsJob job) asked job.search.method 1 job.search.width
      (LeavesPrepared job.search.method job.search.count (Sweeps job)) p o
      (λ unsuited. inr (p, poses, inl unsuited)) (λ other is. cc)
      (λ suits. prepared-came job.search.method job.search.count (Sweeps job) p o (λ other is. cc)
      (sweep-came (SweepsJob job) job p asked (λ crowd. refl) (inl (job, asked))
      (λ some. (job, asked, some)) poses
      (λ crowd says told. true-by (SweepsJob job) asked crowd says
      (inr (p, poses, inr (suits, told))))
      at.shelf refl refl [] (sym (more-none at.shelf.said)) o
      (unled (SweepsJob job) asked o tt)))) h
  job-came (EncodesJob job) o asked h =
      work-came (EncodesJob job) asked job.files (IsTrueOfEncoding job []) (EncodeLeaves job) o
      (λ told. told) (λ other is. cc)
      (λ p poses. suited-came (EncodesJob job) asked job.method job.width job.width
      (LeavesPrepared job.method false (Encodes job)) p o (λ unsuited. inr (p, poses, inl unsuited))
      (λ other is. cc)
      (λ suits. prepared-came job.method false (Encodes job) p o (λ other is. cc)
      (λ did. written-came job asked p poses suits did.crowd did.known did.came o did.is
      did.writes))) h
  job-came (DecodesJob job) o asked h =
      work-came (DecodesJob job) asked job.files (IsTrueOfDecoding job [] at.desk.files)
      (DecodeLeaves (IsStopped at.desk at.desk_now) at.desk.files job) o (λ told. told)
      (λ other is. cc)
      (λ p poses. suited-came (DecodesJob job) asked job.method job.width job.width
      (LeavesPrepared job.method false
      (DecodesProblem (IsStopped at.desk at.desk_now) at.desk.files job)) p o
      (λ unsuited. inr (p, poses, inl unsuited)) (λ other is. cc)
      (λ suits. prepared-came job.method false
      (DecodesProblem (IsStopped at.desk at.desk_now) at.desk.files job) p o (λ other is. cc)
      (decoded-came job asked p poses suits o))) h
  job-came (Blames job) o asked h =
      work-came (Blames job) asked job.files (IsTrueOfSuitedSearch (core_search job []))
      (CoreLeaves job) o (λ told. told) (λ other is. cc)
      (λ p poses. suited-came (Blames job) asked job.method job.width job.width
      (LeavesPrepared job.method false (LeavesCore job)) p o
      (λ unsuited. inr (p, poses, inl unsuited)) (λ other is. cc)
      (λ suits. prepared-came job.method false (LeavesCore job) p o (λ other is. cc)
      (core-came job asked p poses
      (λ crowd says told. true-by (Blames job) asked crowd says
      (inr (p, poses, inr (suits, told)))) o))) h
  job-came (Checks job) o asked h = check-came job asked o h.0 h.1
  job-came (Verifies job) o asked h = verify-came job asked o h
  job-came (Judges job) o asked h = judge-came job asked o h.0 h.1
  job-came (Bounds job) o asked h = bound-came job asked o h
  job-came (Negotiates job) o asked h = global-came job asked o h
  job-came (Narrows job) o asked h = least-came job asked o h
  job-came (Generates job) o asked h = made-came job asked o h.0
  job-came (TriesJob job) o asked h = trial-came job asked o h.0

  pub leaves-came : (o : Outcome) → Leaves words at o → Came words at o
  leaves-came o (inl h) = spent o h.1 (λ job is. inl (inr h.0)) h.0
  leaves-came o (inr h) = go (job_of words) refl h
    where
      go : (asked : Result JobAsked Refusal) → job_of words ≡ asked
          → MatchResult asked (λ job. LeavesJob job at o)
          (λ cause. (o ≡ Usage (code_of cause)) × (at.shelf_now ≡ at.shelf)) → Came words at o
      go (Ok job) asked h = job-came job o asked h
      go (Err cause) asked h = idle o h.1 (λ job is. cc)
          (subst Spares (sym h.0) (tt, tt))
          (λ calm. inl (
            [],
            subst (λ (r : Result JobAsked Refusal). MatchResult r
                (λ job. IsTrueOfJob [] job at.desk.files o) (λ cause. o ≡ Usage (code_of cause)))
                (sym asked) h.0,
          ))
