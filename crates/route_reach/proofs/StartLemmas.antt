-- The clauses of the tracks that are not marked, track by track.
use Rattle.std.proofs.Common.{◌≡◌, ℕ, ◌*◌, Bool, true, false, cond, List, [], ◌∷◌, ◌++◌, length, refl, ap}
use Rattle.std.specs.Prelude.{filter, flat_map, map, not, slice_index_or}
use Rattle.std.specs.List.{list_any}
use Rattle.fpga_graph.specs.GraphOf.{GraphOf}
use Rattle.fpga_types.specs.Problem.{RoutingProblem}
use Rattle.fpga_types.specs.Slots.{slot_at, slots}
use Rattle.route_encode.specs.Added.{graph_of}
use Rattle.route_encode.specs.Encoding.{place_of}
use Rattle.sat_clause.specs.Literal.{Clause}
use Rattle.route_reach.specs.Encoding.{frame_of, reaches, starts_at_source, wire_at}
use Rattle.route_reach.specs.Ends.{outs_at}
use Rattle.route_reach.specs.WireClauses.{unmarked_clauses, wire_unreached}
use Rattle.route_reach.proofs.FarLemmas.{far-marked}

-- the clause of a track, where it is not marked
abbrev pub unmarked_at : (wires reach width s : ℕ) → List Bool → ℕ → List Clause
unmarked_at wires reach width s marks t = cond (not (slice_index_or marks t false))
    ((wire_unreached wires reach (place_of width s t) 0 ∷ []) ∷ []) []

pub unmarked-here : (wires reach width s : ℕ) (marks : List Bool) (t : ℕ)
    → slice_index_or marks t false ≡ false → unmarked_at wires reach width s marks t
    ≡ (wire_unreached wires reach (place_of width s t) 0 ∷ []) ∷ []
unmarked-here wires reach width s marks t h = rw h refl

pub unmarked-none : (wires reach width s : ℕ) (marks : List Bool) (t : ℕ)
    → slice_index_or marks t false ≡ true → unmarked_at wires reach width s marks t ≡ []
unmarked-none wires reach width s marks t h = rw h refl

pub unmarked-rows : (wires reach width s : ℕ) (marks : List Bool) (ts : List ℕ)
    → flat_map (unmarked_at wires reach width s marks) ts
    ≡ map (λ t. wire_unreached wires reach (place_of width s t) 0 ∷ [])
    (filter (λ t. not (slice_index_or marks t false)) ts)
unmarked-rows wires reach width s marks [] = refl
unmarked-rows wires reach width s marks (t ∷ ts) =
    go (not (slice_index_or marks t false)) (unmarked-rows wires reach width s marks ts)
  where
    go : (b : Bool) → flat_map (unmarked_at wires reach width s marks) ts
        ≡ map (λ t. wire_unreached wires reach (place_of width s t) 0 ∷ [])
        (filter (λ t. not (slice_index_or marks t false)) ts)
        → cond b ((wire_unreached wires reach (place_of width s t) 0 ∷ []) ∷ []) []
        ++ flat_map (unmarked_at wires reach width s marks) ts
        ≡ map (λ t. wire_unreached wires reach (place_of width s t) 0 ∷ [])
        (cond b (t ∷ filter (λ t. not (slice_index_or marks t false)) ts)
        (filter (λ t. not (slice_index_or marks t false)) ts))
    go true h = ap (λ (cs : List Clause).
        (wire_unreached wires reach (place_of width s t) 0 ∷ []) ∷ cs) h
    go false h = h

-- the clauses of a slot by the marks of the tracks that its source reaches
pub starts-marked : (width reach : ℕ) (p : RoutingProblem) (s wires : ℕ) (g : GraphOf)
    → g ≡ graph_of width p → (row : List Bool)
    → ((t : ℕ) → slice_index_or row t false
    ≡ list_any (λ out. reaches g out (wire_at (slots p.route) s t))
    (outs_at p.route (slot_at (slots p.route) s).net))
    → wires ≡ length (slots p.route) * width
    → starts_at_source (frame_of width reach p) p.route s
    ≡ unmarked_clauses wires reach width s row
starts-marked width reach p s wires g same row marks count =
    rw (count, far-marked width reach p s g same row marks) refl
