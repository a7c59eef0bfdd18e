-- What the commands need to know of each method.
use Rattle.std.proofs.Common.{ℕ, ◌≤◌, Bool, List, map, refl, sym, subst, arith}
use Rattle.fpga_route.specs.ReadBack.{IsPrintable}
use Rattle.fpga_route.specs.Value.{Reads}
use Rattle.fpga_route.proofs.PrintableLemmas.{can_print, can_print_tracks}
use Rattle.fpga_types.specs.Fits.{Fits}
use Rattle.fpga_types.specs.Given.{IsGiven}
use Rattle.fpga_types.specs.Legal.{tracks_of}
use Rattle.fpga_types.specs.declared.limits.TheConstants.{WIDTH_LIMIT}
use Rattle.route_ordered.proofs.ClauseLemmas.{unsat_unroutable as unsat-ordered}
use Rattle.route_encode.specs.Good.{IsRoutingOf}
use Rattle.route_encode.proofs.ProblemExactness.{unsat-says-unroutable}
use Rattle.route_reach.specs.Trees.{wires_of}
use Rattle.route_reach.proofs.PrintLemmas.{routes-read-back}
use Rattle.route_reach.proofs.ProblemExactness.{unsat-says-unreachable}
use Rattle.route_reach.proofs.RouteLemmas.{routes-say-reached}
use Rattle.route_reach.proofs.StrictLemmas.{reach-covers-strict}
use Rattle.route_pinned.proofs.EncodeLemmas.{unsat_unroutable}
use Rattle.sat_clause.specs.Formula.{IsUnsat}
use Rattle.run_clauses.specs.Method.{CoversStrict, HasNone, HasOne, IsCrowdFor, IsRoutingBy, clauses_by}
use Rattle.run_outcome.specs.Subject.{Bytes, RoutingProblem, RouteText, Method, Ordered, Pinned, Strictly, Within}

-- a problem that fits, of whose clauses no values satisfy all, has no legal routing
pub none-legal : (method : Method) (count : Bool) (crowd : List ℕ) (width : ℕ) (p : RoutingProblem)
    → IsGiven p → Fits p → IsCrowdFor method count crowd p
    → IsUnsat (clauses_by method crowd width p) → HasNone method width p
none-legal Strictly count crowd width p given fits known = (unsat-says-unroutable width p fits).0
none-legal Pinned count crowd width p given fits known = (unsat_unroutable width p given fits).0
none-legal (Within reach) count crowd width p given fits known =
    (unsat-says-unreachable width reach p).0
none-legal Ordered count crowd width p given fits known =
    (unsat-ordered width p crowd fits (known refl).within).0

-- where a problem that fits has no legal routing within a reach that is long enough for its global
-- route, it has none without a reach either
pub covers-strict : (method : Method) (width : ℕ) (p : RoutingProblem) → IsGiven p → Fits p
    → HasNone method width p → CoversStrict method width p
covers-strict Strictly width p given fits none = tt
covers-strict Pinned width p given fits none = tt
covers-strict (Within reach) width p given fits none =
    λ long. reach-covers-strict width reach p given.route fits long none
covers-strict Ordered width p given fits none = tt

-- a routing of a problem that fits shows that there is a legal one
pub one-legal : (method : Method) (width : ℕ) (p : RoutingProblem) (found : RouteText) → IsGiven p
    → Fits p → IsRoutingBy method width p found → HasOne method width p
one-legal Strictly width p found given fits routing = (tracks_of p.route found, routing.legal)
one-legal Pinned width p found given fits routing = (tracks_of p.route found, routing.legal)
one-legal (Within reach) width p found given fits routing = (
  map wires_of found.nets,
  routes-say-reached width reach p given.route fits found routing,
)
one-legal Ordered width p found given fits routing = (tracks_of p.route found, routing.legal)

-- the global route that was read, with the tracks of a routing, can be printed
tracks-printable : (width : ℕ) (p : RoutingProblem) (found : RouteText) (text : Bytes)
    → width ≤ WIDTH_LIMIT → Reads text p.route → IsRoutingOf width p found → IsPrintable found
tracks-printable width p found text narrow read routing =
    subst (λ (r : RouteText). IsPrintable r) (sym routing.is)
    (can_print_tracks p.route (tracks_of p.route found) (can_print text p.route read)
    (λ k d inside. let t = routing.legal.within k d inside in omega (arith, t, narrow)))

-- the routing of a problem that fits and whose route was read can be printed
pub routing-printable : (method : Method) (width : ℕ) (p : RoutingProblem) (found : RouteText)
    (text : Bytes) → IsGiven p → Fits p → width ≤ WIDTH_LIMIT → Reads text p.route
    → IsRoutingBy method width p found → IsPrintable found
routing-printable Strictly width p found text given fits narrow read routing =
    tracks-printable width p found text narrow read routing
routing-printable Pinned width p found text given fits narrow read routing =
    tracks-printable width p found text narrow read routing
routing-printable (Within reach) width p found text given fits narrow read routing =
    (routes-read-back width reach p given.route fits (omega (arith, narrow))
    (can_print text p.route read) found routing).0
routing-printable Ordered width p found text given fits narrow read routing =
    tracks-printable width p found text narrow read routing
