-- The clauses of a problem are satisfied by the bits of legal routings, and by these alone.
use Rattle.std.proofs.Common.{◌≡◌, ℕ, Bool, List, length}
use Rattle.fpga_types.specs.Boxes.{Opens, opens}
use Rattle.fpga_types.specs.Fits.{Fits}
use Rattle.fpga_types.specs.Problem.{RoutingProblem}
use Rattle.fpga_types.specs.Slots.{slots}
use Rattle.fpga_types.specs.Tracks.{mapped_track, track_across}
use Rattle.fpga_types.proofs.BoxLemmas.{opens-is}
use Rattle.fpga_types.proofs.FitsLemmas.{Fits-IsFit}
use Rattle.fpga_types.proofs.TrackLemmas.{mapped-within}
use Rattle.sat_clause.specs.Formula.{Satisfies}
use Rattle.route_encode.specs.Bits.{bits}
use Rattle.route_encode.specs.Encoding.{cnf_of}
use Rattle.route_encode.specs.Exact.{BitsSayLegal, IsLegalRouting, ModelsSayLegal, UnsatSaysUnroutable}
use Rattle.route_encode.specs.Said.{AreSaid}
use Rattle.route_encode.proofs.LegalLemmas.{Agree, StaysWithin, bits-legal, model-obeys, models-legal, obeys-legal, said-bits}
use Rattle.route_encode.proofs.Models.{Obeys}

module _ (width : ℕ) (p : RoutingProblem) (fits : Fits p) where
  stays : StaysWithin (mapped_track p.arch.pattern width) width
  stays from to t low = mapped-within p.arch.pattern width from to t low

  agree : Agree (opens p.arch width) (Opens p.arch width)
  agree pin t = opens-is p.arch width pin t

  pub model-says : (values : List Bool) → Satisfies values (cnf_of width p)
      → Obeys (track_across (mapped_track p.arch.pattern width) p.route.grid) (opens p.arch width)
      width p.route values
  model-says = model-obeys (mapped_track p.arch.pattern width) (opens p.arch width)
      (Opens p.arch width) width p.route stays agree (Fits-IsFit p fits)

  -- tracks that a model says are those of a legal routing
  pub said-legal : (values : List Bool) (tracks : List ℕ) → Satisfies values (cnf_of width p)
      → length tracks ≡ length (slots p.route)
      → AreSaid values width tracks (length (slots p.route)) → IsLegalRouting width p tracks
  said-legal values tracks h = obeys-legal (mapped_track p.arch.pattern width) (opens p.arch width)
      (Opens p.arch width) width p.route stays agree (Fits-IsFit p fits) values tracks
      (model-says values h)

  -- and the model is their bits
  pub said-are-bits : (values : List Bool) (tracks : List ℕ) → Satisfies values (cnf_of width p)
      → length tracks ≡ length (slots p.route)
      → AreSaid values width tracks (length (slots p.route)) → values ≡ bits width tracks
  said-are-bits values tracks h = said-bits (mapped_track p.arch.pattern width)
      (opens p.arch width) (Opens p.arch width) width p.route stays agree (Fits-IsFit p fits)
      values tracks (model-says values h)

  pub bits-say-legal : BitsSayLegal width p
  bits-say-legal = bits-legal (mapped_track p.arch.pattern width) (opens p.arch width)
      (Opens p.arch width) width p.route stays agree (Fits-IsFit p fits)

  pub models-say-legal : ModelsSayLegal width p
  models-say-legal = models-legal (mapped_track p.arch.pattern width) (opens p.arch width)
      (Opens p.arch width) width p.route stays agree (Fits-IsFit p fits)

  pub unsat-says-unroutable : UnsatSaysUnroutable width p
  unsat-says-unroutable = (
    (λ none tracks legal. none (bits width tracks) ((bits-say-legal tracks legal.each).1 legal)),
    (λ none values h. let r = models-say-legal values h in none r.0 r.1),
  )
