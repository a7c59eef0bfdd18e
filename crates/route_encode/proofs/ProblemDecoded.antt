-- Of a problem: where the clauses have no model there is no routing, and a model is decoded to one.
use Rattle.std.proofs.Common.{◌≡◌, ℕ, Bool, List, length, sym, ap, subst, ◌∙◌}
use Rattle.fpga_types.specs.Fits.{Fits}
use Rattle.fpga_types.specs.Legal.{route_of, tracks_of}
use Rattle.fpga_types.specs.Problem.{RoutingProblem}
use Rattle.fpga_types.specs.Slots.{slots}
use Rattle.fpga_types.specs.declared.route.RouteText.{RouteText}
use Rattle.sat_clause.specs.Formula.{IsUnsat, Satisfies}
use Rattle.route_encode.specs.Bits.{bits}
use Rattle.route_encode.specs.Encoding.{cnf_of}
use Rattle.route_encode.specs.Exact.{IsLegalRouting}
use Rattle.route_encode.specs.Good.{IsRoutingOf}
use Rattle.route_encode.specs.Said.{AreSaid}
use Rattle.route_encode.proofs.ProblemExactness.{bits-say-legal, said-are-bits, said-legal}
use Rattle.route_encode.proofs.ShownLemmas.{tracks-shown}

module _ (width : ℕ) (p : RoutingProblem) (fits : Fits p) where
  pub no-routing : IsUnsat (cnf_of width p) → (found : RouteText) → IsRoutingOf width p found → ⊥
  no-routing none found h =
      none (bits width (tracks_of p.route found))
      ((bits-say-legal width p fits (tracks_of p.route found) h.legal.each).1 h.legal)

  -- tracks that a model says, and the route that they were put into
  module _ (values : List Bool) (tracks : List ℕ) (found : RouteText)
      (model : Satisfies values (cnf_of width p)) (each : length tracks ≡ length (slots p.route))
      (said : AreSaid values width tracks (length (slots p.route)))
      (put : found ≡ route_of p.route tracks) where
    shown : tracks_of p.route found ≡ tracks
    shown = ap (tracks_of p.route) put ∙ tracks-shown p.route tracks each

    pub decoded-good : IsRoutingOf width p found
    decoded-good = record {
      is = put ∙ ap (route_of p.route) (sym shown);
      legal = subst (IsLegalRouting width p) (sym shown)
          (said-legal width p fits values tracks model each said);
    }

    pub decoded-chosen : values ≡ bits width (tracks_of p.route found)
    decoded-chosen = said-are-bits width p fits values tracks model each said
        ∙ ap (bits width) (sym shown)
