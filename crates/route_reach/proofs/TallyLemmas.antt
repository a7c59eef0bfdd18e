-- Sums of the tally; and the clauses of a problem, family by family.
use Rattle.std.proofs.Common.{◌≡◌, ℕ, ◌+◌, ◌*◌, ◌≤◌, ◌∙◌, List, [], ◌∷◌, ap, length, refl, sym, arith}
use Rattle.std.specs.Prelude.{flat_map, map, sum_by}
use Rattle.std.proofs.lemmas.List.Sums.{sum_by-cons}
use Rattle.fpga_bounds.proofs.PairLemmas.{slots-distinct}
use Rattle.fpga_types.specs.Problem.{RoutingProblem}
use Rattle.fpga_types.specs.Slots.{pairs, slots}
use Rattle.route_encode.specs.Adding.{lit_count}
use Rattle.route_encode.specs.Encoding.{apart_track, below}
use Rattle.route_encode.specs.Rivals.{apart_from_rivals}
use Rattle.route_encode.proofs.RivalLemmas.{pairs-regroup}
use Rattle.route_reach.specs.Counts.{far_count, sink_count}
use Rattle.route_reach.specs.Encoding.{each_wire, frame_of, reach_encoding, reached_is_used, stays_reached}
use Rattle.route_reach.specs.Near.{near_of}
use Rattle.route_reach.specs.WireClauses.{stays_clauses, used_clauses}
use Rattle.route_reach.proofs.CountLemmas.{clauses-are, few-variables}
use Rattle.route_reach.proofs.SizeLemmas.{lits-at_most}
use Rattle.route_reach.proofs.PlaceLemmas.{stays-by-number, used-by-number}

-- the sums of the three families with a clause for each wire and number of joins
sums : (n k : ℕ) → n * (3 * k + 1) ≡ n * (k + 1) + n * k + n * k
sums n k = omega arith

sum-made : (h : ℕ → List ℕ) (xs : List ℕ) → sum_by length (map h xs) ≡ sum_by (λ s. length (h s)) xs
sum-made h [] = refl
sum-made h (x ∷ xs) =
    sum_by-cons length (h x) (map h xs) ∙ ap (λ (n : ℕ). length (h x) + n) (sum-made h xs)
    ∙ sym (sum_by-cons (λ s. length (h s)) x xs)

module _ (width reach : ℕ) (p : RoutingProblem) where
  module _ (wires : ℕ) (count : wires ≡ length (slots p.route) * width) where
    pub used-for : each_wire (frame_of width reach p) (reached_is_used (frame_of width reach p))
        ≡ flat_map (used_clauses wires reach) (below wires)
    used-for = rw count (used-by-number (frame_of width reach p))

    pub stays-for : each_wire (frame_of width reach p) (stays_reached (frame_of width reach p))
        ≡ flat_map (stays_clauses wires reach) (below wires)
    stays-for = rw count (stays-by-number (frame_of width reach p))

  pub apart-for : flat_map (apart_track width) (pairs (slots p.route))
      ≡ flat_map (apart_from_rivals width (slots p.route)) (below (length (slots p.route)))
  apart-for = pairs-regroup (slots p.route) (slots-distinct p.route) (apart_track width)

  -- the tally tells the number of clauses, and of literals at most
  module _ (sinks far wires shared : ℕ) (sinks_are : sinks ≡ sink_count p.route)
      (far_are : far ≡ far_count (frame_of width reach p) p.route)
      (wires_are : wires ≡ length (slots p.route) * width)
      (shared_are : shared ≡ length (pairs (slots p.route)) * width) where
    pub clauses-told : sinks + far + wires * (3 * reach + 1) + shared
        ≡ length (reach_encoding (frame_of width reach p) p.route)
    clauses-told = rw (
      sinks_are,
      far_are,
      wires_are,
      shared_are,
      clauses-are (frame_of width reach p) p.route,
    ) (omega (arith, sums (length (slots p.route) * width) reach))

    pub lits-told : (near : ℕ) (rows : List (List ℕ)) → near ≡ sum_by length rows
        → rows ≡ map (near_of p.route) (below (length (slots p.route)))
        → lit_count (reach_encoding (frame_of width reach p) p.route)
        ≤ 4 * width * sinks + far + 2 * (wires * (3 * reach + 1) + shared) + width * reach * near
    lits-told near rows near_are rows_are =
        rw (sinks_are, far_are, wires_are, shared_are)
        (lits-at_most (frame_of width reach p) (slots-distinct p.route) p.route near
        (near_are ∙ ap (sum_by length) rows_are
        ∙ sum-made (near_of p.route) (below (length (slots p.route)))))

  -- there are few variables where there are few clauses
  pub vars-told : 1 ≤ reach → length (slots p.route) * width * (reach + 2)
      ≤ length (reach_encoding (frame_of width reach p) p.route)
  vars-told some = few-variables (frame_of width reach p) p.route some
