-- The searches that jobs ask for: for a routing at one width, or at the least width that has one;
-- the files that they write, and how these read back.
use Rattle.std.specs.Prelude.{ℕ, ◌*◌, ◌-◌, true, false, List, length, Option, None, Some, [], ◌∷◌}
use Rattle.std.specs.List.{range_with_len}
use Rattle.std.specs.FinMap.{empty}
use Rattle.fpga_problem.specs.Files.{names_behind}
use Rattle.fpga_route.specs.Printed.{printed}
use Rattle.route_sweep.specs.Asked.{Asked}
use Rattle.route_sweep.specs.Names.{cnf_name, lrat_name, route_name}
use Rattle.route_sweep.specs.declared.found.FileSlot.TheVariants.{Route, Clauses, Log}
use Rattle.route_ways.specs.Way.{Course, copies_by, is_counting}
use Rattle.sat_text.specs.Printed.{cnf_text, log_text}
use Rattle.run_made.specs.Generated.{generated_files}
use Rattle.run_clauses.specs.Method.{IsCrowdFor, clauses_by}
use Rattle.run_outcome.specs.Written.{JobFile, with_files, job_file}
use Rattle.router_top.specs.Ways.{core_way, way_by}
use Rattle.run_outcome.specs.Subject.{FileMap, FileNames, RoutingProblem, RouteText, Cnf, Step, Blames, CoreAsked, JobAsked, RouteAsked, Routes, SweepAsked, Sweeps, TrialAsked, Tries, Method}
use Rattle.run_outcome.specs.declared.slot.Slot.TheVariants.{File}

-- a search of the problem of these files at the widths from the first on, one after the other,
-- until one is not refuted or the last one was; how routings are said by clauses, and in the order
-- of which crowd, if they are; how the files are named that are written, and in which way the
-- clauses of each width are searched
pub record Search : Type 0 where
  pub files : FileNames
  pub first : ℕ
  pub last : ℕ
  pub method : Method
  pub crowd : List ℕ
  pub ask : Asked
  pub way : Course

-- `route` searches at its width alone
abbrev pub route_search : RouteAsked → (crowd : List ℕ) → Search
route_search job crowd = record {
  files = job.files;
  first = job.search.width;
  last = job.search.width;
  method = job.search.method;
  crowd = crowd;
  ask = record { prefix = job.search.prefix; numbered = false };
  way = way_by job.search job.members crowd;
}

-- `sweep` searches from width 1 on, and the names of clauses and logs have the width in them
abbrev pub sweep_search : SweepAsked → (crowd : List ℕ) → Search
sweep_search job crowd = record {
  files = job.files;
  first = 1;
  last = job.search.width;
  method = job.search.method;
  crowd = crowd;
  ask = record { prefix = job.search.prefix; numbered = true };
  way = way_by job.search job.members crowd;
}

-- `trial` searches as `sweep` does by one search alone, over the files that the generated problem
-- would be written to
abbrev pub sweep_of : TrialAsked → SweepAsked
sweep_of job = record {
  files = names_behind job.search.prefix;
  search = job.search;
  members = None;
}

-- `core` searches at its width alone
abbrev pub core_search : CoreAsked → (crowd : List ℕ) → Search
core_search job crowd = record {
  files = job.files;
  first = job.width;
  last = job.width;
  method = job.method;
  crowd = crowd;
  ask = record { prefix = job.prefix; numbered = false };
  way = core_way job;
}

-- the search that a job asks for, where it is to go by this crowd
abbrev pub search_asked : JobAsked → (crowd : List ℕ) → Option Search
search_asked (Routes job) crowd = Some (route_search job crowd)
search_asked (Sweeps job) crowd = Some (sweep_search job crowd)
search_asked (Blames job) crowd = Some (core_search job crowd)
search_asked (Tries job) crowd = Some (sweep_search (sweep_of job) crowd)
search_asked job crowd = None

-- the clauses that say a routing of the problem at a width
abbrev pub clauses_at : Search → (width : ℕ) → RoutingProblem → Cnf
clauses_at search width p = clauses_by search.method search.crowd width p

-- the crowd that the search goes by, if it does, is one of the problem
abbrev pub HasCrowd : Search → RoutingProblem → Type 0
HasCrowd search p = IsCrowdFor search.method (is_counting search.way) search.crowd p

-- the files that a job reads its problem from: those of the desk, or else those that it makes
abbrev pub files_of : JobAsked → (desk : Option FileMap) → Option FileMap
files_of (Tries job) desk =
    with_files (generated_files job.recipe job.search.prefix) (Some empty)
files_of job desk = desk

-- how many clauses are held together at this width, in all copies
abbrev pub clauses_held : Search → (width : ℕ) → RoutingProblem → ℕ
clauses_held search width p = copies_by search.way * length (clauses_at search width p).clauses

-- the widths of the search that are lower than this one
abbrev pub lower_widths : Search → (width : ℕ) → List ℕ
lower_widths search width = range_with_len search.first (width - search.first)

-- the global route with the tracks that were found
abbrev pub route_file : Search → RouteText → JobFile
route_file search found = job_file (File Route) (route_name search.ask) (printed found)

-- the clauses at a width, and then a log
abbrev pub proof_files : Search → RoutingProblem → (width : ℕ) → List Step → List JobFile
proof_files search p width log =
    job_file (File (Clauses width)) (cnf_name search.ask width)
    (cnf_text (clauses_at search width p))
    ∷ job_file (File (Log width)) (lrat_name search.ask width) (log_text log) ∷ []
