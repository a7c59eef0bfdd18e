-- How a search ends that finds no routing, by its log, and what it has shown of the widths below
-- one.
use Rattle.std.specs.Prelude.{◌⊎◌, ℕ, List, ◌≡◌, ◌<◌, ◌≤◌, flat_map, Ok, Option, Some}
use Rattle.route_sweep.specs.Found.{IsHeld, IsRefutedBy}
use Rattle.route_ways.specs.Way.{copies_by, opens_by, refutes_by}
use Rattle.sat_rat.specs.FullJudge.{FullAccepts}
use Rattle.sat_text.specs.CnfText.{ReadsCnf}
use Rattle.sat_text.specs.Printed.{cnf_text}
use Rattle.run_clauses.specs.Method.{IsRoutingBy, CoversStrict, HasNone}
use Rattle.router_top.specs.Search.{Search, HasCrowd, clauses_at, files_of, lower_widths, search_asked, proof_files}
use Rattle.run_outcome.specs.Written.{JobFile}
use Rattle.run_outcome.specs.Subject.{Bytes, FileMap, Poses, RoutingProblem, Step, job_of, JobAsked, Word}

-- the log refutes the clauses at this width in the way of the search, and this is said of it before
-- the report; no values satisfy them, and no route is a routing
abbrev pub Refutes : Search → RoutingProblem → (width : ℕ) → (lead : Bytes) → List Step → Type 0
Refutes search p width lead log =
    IsRefutedBy (refutes_by search.way p width (clauses_at search width p))
    (clauses_at search width p) (IsRoutingBy search.method width p) lead log

-- the log leaves them open in that way
abbrev pub LeavesOpen : Search → RoutingProblem → (width : ℕ) → List Step → Type 0
LeavesOpen search p width log =
    opens_by search.way p width (clauses_at search width p) log

-- the log refutes them or leaves them open
abbrev pub EndsSearch : Search → RoutingProblem → (width : ℕ) → List Step → Type 0
EndsSearch search p width log =
    ((lead : Bytes) × Refutes search p width lead log) ⊎ LeavesOpen search p width log

-- few enough clauses stand for the problem at this width, in all copies that are held; the log
-- refutes them and is accepted as full LRAT has it, and the problem has no legal routing; within a
-- reach that is long enough for its global route, none without a reach either; the clauses read
-- back
pub record IsRefutedAt (search : Search) (p : RoutingProblem) (width : ℕ) (log : List Step)
    : Type 0 where
  pub held : IsHeld (copies_by search.way) (clauses_at search width p)
  pub lead : Bytes
  pub refuted : Refutes search p width lead log
  pub accepted : FullAccepts (clauses_at search width p) log
  pub none_legal : HasNone search.method width p
  pub none_strictly : CoversStrict search.method width p
  pub clauses_back : ReadsCnf (cnf_text (clauses_at search width p))
      (clauses_at search width p)

-- the words ask for a search; its four files, which a trial makes itself, read as the values of the
-- problem and fit; the crowd that it goes by, if it does, is one of the problem; and it comes to
-- this width, since each lower one that it tries is refuted by a log
pub record ComesTo (words : List Word) (desk : Option FileMap) (width : ℕ) : Type 0 where
  pub job : JobAsked
  pub asked : job_of words ≡ Ok job
  pub search : Search
  pub searches : search_asked job search.crowd ≡ Some search
  pub p : RoutingProblem
  pub poses : Poses (files_of job desk) search.files p
  pub crowd : HasCrowd search p
  pub from : search.first ≤ width
  pub to : width ≤ search.last
  pub logs : (width : ℕ) → List Step
  pub lower : (k : ℕ) → search.first ≤ k → k < width → IsRefutedAt search p k (logs k)

-- the clauses and the log of each lower width that was tried
abbrev pub lower_files : {words : List Word} {desk : Option FileMap} {width : ℕ}
    → ComesTo words desk width → List JobFile
lower_files {words} {desk} {width} comes =
    flat_map (λ k. proof_files comes.search comes.p k (comes.logs k))
    (lower_widths comes.search width)
