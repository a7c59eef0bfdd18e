-- How many clauses and literals the encoding of a problem has, and the encoding as the code makes
-- it.
use Rattle.std.proofs.Common.{◌≡◌, ℕ, ◌+◌, ◌*◌, List, ◌++◌, length, refl, ap, sym}
use Rattle.std.specs.Prelude.{flat_map}
use Rattle.list_laws.proofs.Members.{In-all}
use Rattle.fpga_types.specs.Boxes.{opens}
use Rattle.fpga_types.specs.Fits.{Fits}
use Rattle.fpga_types.specs.Problem.{RoutingProblem}
use Rattle.fpga_types.specs.Slots.{pin_steps, slot_at, slots, steps}
use Rattle.fpga_types.specs.Tracks.{mapped_track, track_across}
use Rattle.fpga_types.specs.declared.problem.Slot.{Slot}
use Rattle.fpga_types.proofs.FitsLemmas.{Fits-IsFit}
use Rattle.fpga_types.proofs.MeetingLemmas.{meeting-found}
use Rattle.fpga_bounds.proofs.PairLemmas.{slots-distinct}
use Rattle.fpga_bounds.proofs.StepFacts.{IsGoodStep, good-steps}
use Rattle.sat_clause.specs.Literal.{Clause}
use Rattle.route_encode.specs.Added.{added_clauses, graph_of, pin_clauses, slot_clauses, step_clauses}
use Rattle.route_encode.specs.Adding.{lit_count}
use Rattle.route_encode.specs.Encoding.{apart_track, cnf_of, open_track}
use Rattle.route_encode.proofs.CountLemmas.{length-encoding_by, lits-encoding_by, of_two}
use Rattle.route_encode.proofs.RivalLemmas.{pairs-regroup}

module _ (width : ℕ) (p : RoutingProblem) where
  -- the clauses that are added are those of the encoding
  pub added-encoding : added_clauses width p ≡ (cnf_of width p).clauses
  added-encoding =
      let all : List Slot = slots p.route in
      let before : List Clause = slot_clauses width (length all)
      ++ pin_clauses (graph_of width p) (pin_steps p.route)
      ++ flat_map (step_clauses (graph_of width p) all) (steps p.route) in
      ap (λ (rest : List Clause). before ++ rest)
      (sym (pairs-regroup all (slots-distinct p.route) (apart_track width)))

  -- how many tracks of slots pins do not open
  abbrev pub closed : ℕ
  closed = length (flat_map (open_track (opens p.arch width) width) (pin_steps p.route))

  abbrev pub twos : ℕ
  twos = of_two (track_across (mapped_track p.arch.pattern width) p.route.grid)
      (opens p.arch width) width p.route

  pub length-clauses : length (cnf_of width p).clauses ≡ length (slots p.route) + closed + twos
  length-clauses = length-encoding_by (track_across (mapped_track p.arch.pattern width)
      p.route.grid) (opens p.arch width) width p.route

  pub lits-clauses : Fits p → lit_count (cnf_of width p).clauses
      ≡ length (slots p.route) * width + closed + 2 * twos
  lits-clauses fits = lits-encoding_by (track_across (mapped_track p.arch.pattern width)
      p.route.grid) (opens p.arch width) width p.route (λ step i t.
      let good = In-all (IsGoodStep p.route) (steps p.route) step
      (good-steps p.route (Fits-IsFit p fits)) i in
      let m = good.1.0 in (
        mapped_track p.arch.pattern width m.from m.to t,
        rw (meeting-found p.route.grid (slot_at (slots p.route) step.from).cell
            (slot_at (slots p.route) step.to).cell m good.1.1) refl,
      ))
