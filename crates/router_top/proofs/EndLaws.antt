-- What a log that refutes the clauses of a problem shows of it.
use Rattle.std.proofs.Common.{ℕ, List}
use Rattle.fpga_types.specs.Fits.{Fits}
use Rattle.fpga_types.specs.Given.{IsGiven}
use Rattle.route_sweep.specs.Found.{IsHeld}
use Rattle.route_ways.proofs.WayLaws.{way-accepts}
use Rattle.route_ways.specs.Way.{copies_by, is_counting}
use Rattle.sat_text.specs.CnfText.{ReadsCnf}
use Rattle.sat_text.specs.Printed.{cnf_text}
use Rattle.router_top.specs.Comes.{IsRefutedAt, Refutes}
use Rattle.run_clauses.specs.Method.{HasNone}
use Rattle.router_top.specs.Search.{HasCrowd, Search, clauses_at}
use Rattle.run_outcome.specs.Subject.{Bytes, RoutingProblem, Step}
use Rattle.run_clauses.proofs.MethodLaws.{covers-strict, none-legal}

module _ (search : Search) (width : ℕ) (p : RoutingProblem) (log : List Step) (lead : Bytes)
    (given : IsGiven p) (fits : Fits p) (crowd : HasCrowd search p)
    (h : Refutes search p width lead log) where
  -- a problem whose clauses are refuted has no legal routing
  pub refutes-none : HasNone search.method width p
  refutes-none = none-legal search.method (is_counting search.way) search.crowd width p given fits
      crowd h.unsat

  -- and none without a reach either, where the reach of the search is long enough
  pub refuted-at : IsHeld (copies_by search.way) (clauses_at search width p)
      → ReadsCnf (cnf_text (clauses_at search width p)) (clauses_at search width p)
      → IsRefutedAt search p width log
  refuted-at held back = record {
    held = held;
    lead = lead;
    refuted = h;
    accepted = way-accepts search.way p width (clauses_at search width p) log lead
        h.refutes;
    none_legal = refutes-none;
    none_strictly = covers-strict search.method width p given fits refutes-none;
    clauses_back = back;
  }
