-- Why a bound was raised, as it goes from the searches to the end of a run.
use Rattle.std.proofs.Common.{◌≡◌, ◌∙◌, ℕ, false, Bool, true, List, None, Ok, Option, Some, ap, inl, inr, refl, subst, sym}
use Rattle.std.specs.Prelude.{IfSome, IsNone, option_map}
use Rattle.std.proofs.lemmas.Bool.{false≢true}
use Rattle.cell_bound.specs.declared.refuting.CellRefutation.{CellRefutation}
use Rattle.fpga_problem.specs.Sources.{Source}
use Rattle.fpga_problem.specs.declared.unread.FileFault.{FileFault}
use Rattle.fpga_types.specs.Problem.{PlacedNetlist}
use Rattle.fpga_types.specs.declared.netlist.Netlist.{Netlist}
use Rattle.run_placed.specs.Global.{HasFiles, LacksFiles}
use Rattle.run_placed.specs.Least.{LeavesRaised, last_asked}
use Rattle.run_placed.specs.Raised.{IsRaised, IsReason, least_names, narrowed_files}
use Rattle.run_placed.specs.Reasons.{GivesReason, HasRaised, IsReasonOf, IsUnraised, LacksReason, TellsOf, given_why, reason_by}
use Rattle.run_outcome.specs.Report.{unsaid, Reports}
use Rattle.run_outcome.specs.Written.{AreWritten, after_files}
use Rattle.run_outcome.specs.declared.ran.Reason.{Reason}
use Rattle.run_placed.specs.declared.raising.Raised.{Raised}
use Rattle.run_outcome.specs.Subject.{FileMap, GlobalAsked, JobAsked, LeastAsked, Narrows, RouteText, ShelfState, Word, job_of}
use Rattle.run_outcome.specs.declared.outcome.Outcome.{Outcome}
use Rattle.run_outcome.specs.declared.outcome.Outcome.TheVariants.{Narrowed, WriteFault}
use Rattle.run_outcome.proofs.WrittenLaws.{files-after, are-written}
use Rattle.run_placed.proofs.GlobalLaws.{lacking-holds}
use Rattle.run_placed.proofs.RaisedLaws.{narrowed-apart}

-- ---- where a route was written

module _ (job : LeastAsked) (placed : PlacedNetlist) (cut tracks width : ℕ) (route : RouteText)
    (before now : ShelfState) where
  has-raised : (why : Option CellRefutation) → IsReason placed cut tracks why
      → now ≡ after_files (narrowed_files (least_names job.prefix) route tracks why) before
      → IfSome why (HasRaised job placed before.files now.files (Narrowed tracks width cut))
  has-raised None is written = tt
  has-raised (Some found) (more, refuted) written = record {
    tracks = tracks;
    width = width;
    cut = cut;
    tells = inl refl;
    more = more;
    refuted = refuted;
    route = route;
    written = are-written (narrowed_files (least_names job.prefix) route tracks (Some found))
        before.files now.files
        (ap (λ (s : ShelfState). s.files) written
        ∙ files-after (narrowed_files (least_names job.prefix) route tracks (Some found)) before)
        (narrowed-apart job.prefix route tracks (Some found));
  }

  is-unraised : (why : Option CellRefutation) → IsReason placed cut tracks why → IsNone why
      → tracks ≡ cut
  is-unraised None is none = is
  is-unraised (Some found) is none = absurd (let no : true ≡ false = none in cc)

-- what is left behind a raised bound, and the refutation that is given back
module _ (job : LeastAsked) (placed : PlacedNetlist) (cut : ℕ) (raised : Raised)
    (is : IsRaised placed cut raised) (before now : ShelfState) where
  pub gives-why : (o : Outcome) → LeavesRaised job placed cut raised before now o
      → IfSome (given_why o raised.why) (HasRaised job placed before.files now.files o)
  gives-why o (inl (inl (rounds, stopped, most, limit, ends), same)) = rw ends tt
  gives-why o (inl (inr ends, same)) = rw ends tt
  gives-why o (inr (at, found, inl (ends, written))) =
      rw ends (has-raised job placed cut raised.tracks at.width at.found before now raised.why is
      written)
  gives-why o (inr (at, found, inr (slot, fails, ends))) = rw ends tt

  pub lacks-why : (o : Outcome) → LeavesRaised job placed cut raised before now o
      → IsNone (given_why o raised.why) → IsUnraised o
  lacks-why o (inl (inl (rounds, stopped, most, limit, ends), same)) none = rw ends tt
  lacks-why o (inl (inr ends, same)) none = rw ends tt
  lacks-why o (inr (at, found, inl (ends, written))) none =
      rw ends (is-unraised job placed cut raised.tracks at.width at.found before now raised.why is
      (rw ends at none))
  lacks-why o (inr (at, found, inr (slot, fails, ends))) none = rw ends tt

-- ---- where no search was made

-- a file gives nothing
pub lacking-unraised : (stops : Source → FileFault → Type 0) (files : Option FileMap)
    (job : GlobalAsked) (o : Outcome) → LacksFiles stops files job o → IsUnraised o
lacking-unraised stops files job o h =
    lacking-holds IsUnraised (record {
      memory = tt;
      read = λ file. tt;
      input = λ file line code. tt;
      limit = λ file code count. tt;
    }) stops files job o h

-- the work has said the lines of the cut before
pub raised-behind : (job : LeastAsked) (placed : PlacedNetlist) (o : Outcome)
    (before between now : Option FileMap) (why : Option CellRefutation) → between ≡ before
    → IfSome why (HasRaised job placed between now o)
    → IfSome why (HasRaised job placed before now o)
raised-behind job placed o before between now why same h =
    subst (λ (files : Option FileMap). IfSome why (HasRaised job placed files now o)) same h

-- ---- as a run gives it back

pub given-back : (job : LeastAsked) (placed : PlacedNetlist) (desk before now : Option FileMap)
    (o : Outcome) (why : Option CellRefutation) (reason : Option Reason)
    → HasFiles desk (last_asked job) placed
    → reason ≡ option_map (reason_by placed.netlist) why
    → IfSome why (HasRaised job placed before now o)
    → IfSome reason (IsReasonOf job desk before now o)
given-back job placed desk before now o None reason has is h = rw is tt
given-back job placed desk before now o (Some found) reason has is h =
    rw is (record { placed = placed; files = has; netlist_is = refl; raised = h })

pub not-given : (netlist : Netlist) (o : Outcome) (why : Option CellRefutation)
    (reason : Option Reason) → reason ≡ option_map (reason_by netlist) why
    → (IsNone why → IsUnraised o) → IsNone reason → IsUnraised o
not-given netlist o None reason is h none = h refl
not-given netlist o (Some found) reason is h none =
    absurd (let no : true ≡ false = rw is at none in cc)

-- words that ask for another job have no such reason
abbrev pub is_least : JobAsked → Bool
is_least (Narrows job) = true
is_least asked = false

pub others-lack : (words : List Word) (asked : JobAsked) (o : Outcome) → job_of words ≡ Ok asked
    → is_least asked ≡ false → LacksReason words o
others-lack words asked o is other = λ job said.
    let same : asked ≡ Narrows job = (let e : Ok asked ≡ Ok (Narrows job) = sym is ∙ said in cc) in
    absurd (false≢true (sym other ∙ ap is_least same))

-- ---- the report

tells-still : (tracks width cut : ℕ) (o : Outcome) → TellsOf tracks width cut o
    → TellsOf tracks width cut (unsaid o)
tells-still tracks width cut o (inl is) = inr (rw is refl)
tells-still tracks width cut o (inr is) = inr (rw is refl)

raised-still : (job : LeastAsked) (placed : PlacedNetlist) (before between now : Option FileMap)
    (o answer : Outcome) (found : CellRefutation) → now ≡ between
    → ((tracks width cut : ℕ) → TellsOf tracks width cut o → TellsOf tracks width cut answer)
    → HasRaised job placed before between o found → HasRaised job placed before now answer found
raised-still job placed before between now o answer found same still h = record {
  tracks = h.tracks;
  width = h.width;
  cut = h.cut;
  tells = still h.tracks h.width h.cut h.tells;
  more = h.more;
  refuted = h.refuted;
  route = h.route;
  written = subst (λ (files : Option FileMap).
      AreWritten (narrowed_files (least_names job.prefix) h.route h.tracks (Some found)) before files)
      (sym same) h.written;
}

gives-still : (words : List Word) (desk before between now : Option FileMap) (o answer : Outcome)
    (reason : Reason) → now ≡ between
    → ((tracks width cut : ℕ) → TellsOf tracks width cut o → TellsOf tracks width cut answer)
    → GivesReason words desk before between o reason → GivesReason words desk before now answer reason
gives-still words desk before between now o answer reason same still (job, asked, h) = (
  job,
  asked,
  record {
    placed = h.placed;
    files = h.files;
    netlist_is = h.netlist_is;
    raised = raised-still job h.placed before between now o answer reason.found same still h.raised;
  },
)

-- the report line changes nothing of it
pub reported-gives : (words : List Word) (desk before : Option FileMap) (between now : ShelfState)
    (o answer : Outcome) (reason : Reason) → Reports between o now answer
    → GivesReason words desk before between.files o reason
    → GivesReason words desk before now.files answer reason
reported-gives words desk before between now o answer reason (inl (is, said)) h =
    gives-still words desk before between.files now.files o answer reason
    (ap (λ (s : ShelfState). s.files) said)
    (λ tracks width cut tells. subst (TellsOf tracks width cut) (sym is) tells) h
reported-gives words desk before between now o answer reason (inr (is, fails)) h =
    gives-still words desk before between.files now.files o answer reason fails.failed.files
    (λ tracks width cut tells.
    subst (TellsOf tracks width cut) (sym is) (tells-still tracks width cut o tells)) h

unsaid-unraised : (o : Outcome) → IsUnraised (unsaid o)
unsaid-unraised (WriteFault slot) = tt
unsaid-unraised o = tt

pub reported-lacks-reason : (words : List Word) (between now : ShelfState) (o answer : Outcome)
    → Reports between o now answer → LacksReason words o → LacksReason words answer
reported-lacks-reason words between now o answer (inl h) lacks =
    subst (LacksReason words) (sym h.0) lacks
reported-lacks-reason words between now o answer (inr h) lacks =
    λ job asked. subst IsUnraised (sym h.0) (unsaid-unraised o)
