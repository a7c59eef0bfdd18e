-- The headline. For every architecture, netlist, placement and global route that read and fit, and
-- every width up to 64: a written route gives each net one wire for each cell of its global route,
-- joined by switches and shared with no other net; or the written clauses are refuted by the
-- written log, and there is no such routing; or it is left open, with the given number of learned
-- clauses, which is the budget unless the words set a limit of time. A sweep says this of the
-- widths from 1 on, so that a routed width is the least. Within a reach a net may have several
-- wires of a cell, and reaches each of its sinks over so many joins at the most: which routings a
-- job asks for its method says.
use Rattle.std.specs.Prelude.{◌≡◌, ℕ, List, [], ◌∷◌, ◌++◌, Option}
use Rattle.fpga_route.specs.ReadBack.{ReadsBack}
use Rattle.route_ways.specs.Way.{MayEndAfter}
use Rattle.sat_clause.specs.Learned.{added_count}
use Rattle.sat_text.specs.CnfText.{ReadsCnf}
use Rattle.sat_text.specs.Printed.{cnf_text}
use Rattle.router_top.specs.Comes.{ComesTo, IsRefutedAt, lower_files, LeavesOpen}
use Rattle.run_clauses.specs.Method.{IsRoutingBy}
use Rattle.router_top.specs.Search.{clauses_at, proof_files, route_file}
use Rattle.run_outcome.specs.Written.{AreWritten}
use Rattle.run_outcome.specs.Subject.{FileMap, RouteText, HasFew, Step, Word}

-- at this width a routing was found. Beside the files of lower widths one alone was written: the
-- global route with the tracks of a legal routing, as it reads back
pub record IsRouted (words : List Word) (desk before now : Option FileMap) (width : ℕ)
    : Type 0 where
  pub comes : ComesTo words desk width
  pub few : HasFew (clauses_at comes.search width comes.p)
  pub found : RouteText
  pub routing : IsRoutingBy comes.search.method width comes.p found
  pub reads_back : ReadsBack found
  pub written : AreWritten (lower_files comes ++ route_file comes.search found ∷ []) before now

-- this width is the last, and it is refuted too. Beside the files of lower widths two alone were
-- written: the clauses and a log that refutes them
pub record IsRefuted (words : List Word) (desk before now : Option FileMap) (width : ℕ)
    : Type 0 where
  pub comes : ComesTo words desk width
  pub last : width ≡ comes.search.last
  pub log : List Step
  pub refuted : IsRefutedAt comes.search comes.p width log
  pub written : AreWritten (lower_files comes ++ proof_files comes.search comes.p width log)
      before now

-- this width is left open, and where counting comes first, numbers alone do not forbid it. Beside
-- the files of lower widths two alone were written: the clauses, and a log of a search through them
-- that has so many learned clauses: as many as the budget allows, or no more than that where the
-- words set a limit of time
pub record IsLeftOpen
    (words : List Word) (desk before now : Option FileMap) (width learned : ℕ) : Type 0 where
  pub comes : ComesTo words desk width
  pub few : HasFew (clauses_at comes.search width comes.p)
  pub ends : MayEndAfter comes.search.way learned
  pub log : List Step
  pub many : learned ≡ added_count log
  pub open_by : LeavesOpen comes.search comes.p width log
  pub clauses_back : ReadsCnf (cnf_text (clauses_at comes.search width comes.p))
      (clauses_at comes.search width comes.p)
  pub written : AreWritten (lower_files comes ++ proof_files comes.search comes.p width log)
      before now
