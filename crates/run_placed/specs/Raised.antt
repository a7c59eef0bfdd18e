-- Bounds of a placement by refutations over the cells of windows, and the files of `least`.
use Rattle.std.specs.Prelude.{◌≡◌, ℕ, ◌-◌, ◌<◌, ◌++◌, List, [], ◌∷◌, codes, None, Option, Some}
use Rattle.cell_bound.specs.Refutations.{IsRefuted}
use Rattle.cell_bound.specs.declared.refuting.CellRefutation.{CellRefutation}
use Rattle.fpga_route.specs.Printed.{printed}
use Rattle.fpga_types.specs.Problem.{PlacedNetlist}
use Rattle.route_sweep.specs.declared.found.FileSlot.TheVariants.{Clauses, Log, Route}
use Rattle.sat_text.specs.Printed.{cnf_text, log_text}
use Rattle.run_outcome.specs.Written.{JobFile, job_file}
use Rattle.run_placed.specs.declared.raising.Raised.{Raised}
use Rattle.run_outcome.specs.Subject.{Bytes, RouteText, Word}
use Rattle.run_outcome.specs.declared.slot.Slot.TheVariants.{File}

-- ---- why no placed routing has fewer tracks

-- a cut asks for as many; or it asks for fewer, and clauses over the cells of a window are refuted
-- with one track fewer, so that no placed routing has that many or fewer
abbrev pub IsReason : PlacedNetlist → (cut tracks : ℕ) → Option CellRefutation → Type 0
IsReason placed cut tracks None = tracks ≡ cut
IsReason placed cut tracks (Some found) = (cut < tracks) × IsRefuted placed (tracks - 1) found

-- so it is of a bound, where a cut asks for so many tracks
abbrev pub IsRaised : PlacedNetlist → (cut : ℕ) → Raised → Type 0
IsRaised placed cut raised = IsReason placed cut raised.tracks raised.why

-- ---- what is written

-- the names of the files: of the route, and of the clauses and the log
pub record LeastNames : Type 0 where
  pub route : Bytes
  pub clauses : Bytes
  pub log : Bytes

-- behind a prefix
abbrev pub least_names : (prefix : Word) → LeastNames
least_names prefix = record {
  route = prefix ++ codes ".route";
  clauses = prefix ++ codes ".cnf";
  log = prefix ++ codes ".lrat";
}

-- the clauses that are refuted with one track fewer, and then the log; none where a cut asks for as
-- many tracks
abbrev pub reason_files : LeastNames → (tracks : ℕ) → Option CellRefutation → List JobFile
reason_files names tracks None = []
reason_files names tracks (Some found) =
    job_file (File (Clauses (tracks - 1))) names.clauses (cnf_text found.formula.cnf)
    ∷ job_file (File (Log (tracks - 1))) names.log (log_text found.log.steps) ∷ []

-- the route that was found, and these behind it
abbrev pub narrowed_files : LeastNames → RouteText → (tracks : ℕ) → Option CellRefutation
    → List JobFile
narrowed_files names found tracks why =
    job_file (File Route) names.route (printed found) ∷ reason_files names tracks why
