-- A worked row of a legal routing.
use Rattle.std.proofs.Common.{◌≡◌, ℕ, zero, suc, ◌<◌, List, [], ◌∷◌, slice_index_or, refl, sym, ◌∙◌, arith, lit<}
use Rattle.fpga_types.specs.Legal.{IsLegalSubset, wire_of}
use Rattle.fpga_types.specs.Slots.{slots, steps, slot_at}
use Rattle.fpga_types.specs.Tracks.{AreJoined, subset_track}
use Rattle.fpga_types.specs.declared.problem.RouteStep.{RouteStep}
use Rattle.fpga_types.specs.declared.route.RouteText.{RouteText}
use Rattle.fpga_types.proofs.MeetingLemmas.{across-joined}
use Rattle.fpga_route.specs.Value.{route_value}
use Rattle.fpga_route.proofs.RowTexts.{branch}

abbrev route : RouteText
route = route_value branch

abbrev tracks : List ℕ
tracks = 0 ∷ 0 ∷ 0 ∷ []

below : (k d : ℕ) → k < 3 → slice_index_or tracks k d < 1
below zero d h = lit< tt
below (suc zero) d h = lit< tt
below (suc (suc zero)) d h = lit< tt
below (suc (suc (suc k))) d h = absurd (omega arith)

one_net : (k : ℕ) → k < 3 → (slot_at (slots route) k).net ≡ 0
one_net zero h = refl
one_net (suc zero) h = refl
one_net (suc (suc zero)) h = refl
one_net (suc (suc (suc k))) h = absurd (omega arith)

joined_at : (k : ℕ) (d : RouteStep) → k < 2
    → AreJoined subset_track route.grid
    (wire_of (slots route) tracks (slice_index_or (steps route) k d).from)
    (wire_of (slots route) tracks (slice_index_or (steps route) k d).to)
joined_at zero d h =
    across-joined subset_track route.grid (wire_of (slots route) tracks 0)
    (wire_of (slots route) tracks 1) refl
joined_at (suc zero) d h =
    across-joined subset_track route.grid (wire_of (slots route) tracks 0)
    (wire_of (slots route) tracks 2) refl
joined_at (suc (suc k)) d h = absurd (omega arith)

-- one net needs one track
pub branch_is_legal : IsLegalSubset 1 route tracks
branch_is_legal = record {
  each = refl;
  within = below;
  joined = joined_at;
  reached = λ k d h. tt;
  apart = λ a b ha hb other same. absurd (other (one_net a ha ∙ sym (one_net b hb)));
}
