-- The clauses of pin steps and steps, by the marks of opened tracks and by crossings.
use Rattle.std.proofs.Common.{◌≡◌, ℕ, ◌-◌, Bool, true, false, List, [], ◌∷◌, ◌++◌, length, get_or, Some, refl, sym, ap, ◌∙◌}
use Rattle.std.specs.Prelude.{cond, filter, flat_map, map, not, option_map, option_to_list}
use Rattle.std.proofs.lemmas.List.{length-map}
use Rattle.fpga_types.specs.Boxes.{opens}
use Rattle.fpga_types.specs.Tracks.{mapped_track, track_across}
use Rattle.fpga_types.specs.declared.arch.Arch.{Arch}
use Rattle.fpga_types.specs.declared.grid.PinAt.TheVariants.{Pad as PadAt}
use Rattle.fpga_types.specs.declared.problem.PinStep.{PinStep}
use Rattle.fpga_types.specs.declared.problem.RouteStep.{RouteStep}
use Rattle.fpga_types.specs.declared.problem.Slot.{Slot}
use Rattle.fpga_fabric.specs.Laws.{opened_count}
use Rattle.fpga_fabric.proofs.CountLemmas.{closed-count}
use Rattle.fpga_graph.specs.Crossing.{crossed_track}
use Rattle.fpga_graph.specs.GraphOf.{GraphOf}
use Rattle.fpga_graph.specs.declared.crossing.Crossing.{Crossing}
use Rattle.sat_clause.specs.Literal.{Clause}
use Rattle.route_encode.specs.Added.{crossed_clauses, step_clauses}
use Rattle.route_encode.specs.Encoding.{below, has, lacks, open_track, track_after}

-- what is read past the end of a list of pin steps
abbrev pub NO_PIN_STEP : PinStep
NO_PIN_STEP = record { pin = PadAt 0 0 0; slot = 0 }

-- the clause of a track that is not marked as open, if it is not
abbrev pub closed_at : List Bool → (width slot t : ℕ) → List Clause
closed_at marks width slot t = cond (not (get_or marks t false)) ((lacks width slot t ∷ []) ∷ []) []

pub closed-here : (marks : List Bool) (width slot t : ℕ) → get_or marks t false ≡ false
    → closed_at marks width slot t ≡ (lacks width slot t ∷ []) ∷ []
closed-here marks width slot t e = rw e refl

pub closed-none : (marks : List Bool) (width slot t : ℕ) → get_or marks t false ≡ true
    → closed_at marks width slot t ≡ []
closed-none marks width slot t e = rw e refl

-- track by track these are those of the pin step
pub closed-rows : (marks : List Bool) (width slot : ℕ) (ts : List ℕ)
    → flat_map (closed_at marks width slot) ts
    ≡ map (λ t. lacks width slot t ∷ []) (filter (λ t. not (get_or marks t false)) ts)
closed-rows marks width slot [] = refl
closed-rows marks width slot (t ∷ ts) =
    go (not (get_or marks t false)) (closed-rows marks width slot ts)
  where
    go : (b : Bool) → flat_map (closed_at marks width slot) ts
        ≡ map (λ t. lacks width slot t ∷ []) (filter (λ t. not (get_or marks t false)) ts)
        → cond b ((lacks width slot t ∷ []) ∷ []) [] ++ flat_map (closed_at marks width slot) ts
        ≡ map (λ t. lacks width slot t ∷ [])
        (cond b (t ∷ filter (λ t. not (get_or marks t false)) ts)
        (filter (λ t. not (get_or marks t false)) ts))
    go true h = ap (λ (cs : List Clause). (lacks width slot t ∷ []) ∷ cs) h
    go false h = h

-- marks that say what a pin opens say the clauses of its step
pub marked-clauses : (g : GraphOf) (width : ℕ) (step : PinStep) (marks : List Bool)
    → g.width ≡ width → ((t : ℕ) → get_or marks t false ≡ opens g.arch g.width step.pin t)
    → open_track (λ _ t. get_or marks t false) width step
    ≡ open_track (opens g.arch g.width) g.width step
marked-clauses g width step marks e h =
    let f : width ≡ g.width = sym e in
    λ i. map (λ t. lacks (f i) step.slot t ∷ []) (filter (λ t. not (h t i)) (below (f i)))

-- the crossing of a step's cells says its clauses
pub crossing-clauses : (g : GraphOf) (width : ℕ) (all : List Slot) (step : RouteStep)
    (crossing : Crossing) → g.width ≡ width
    → ((t : ℕ) → Some (crossed_track crossing t)
    ≡ track_after (track_across (mapped_track g.arch.pattern g.width) g.grid) all step t)
    → crossed_clauses width step crossing ≡ step_clauses g all step
crossing-clauses g width all step crossing e h =
    let f : width ≡ g.width = sym e in
    λ i. map (λ t. lacks (f i) step.from t
    ∷ option_to_list (option_map (has (f i) step.to) (h t i))) (below (f i))

-- a pin step has a clause for each track that the pin does not open
pub length-open_track : (arch : Arch) (width : ℕ) (step : PinStep) (count : ℕ)
    → opened_count arch width step.pin ≡ count
    → length (open_track (opens arch width) width step) ≡ width - count
length-open_track arch width step count e =
    length-map (filter (λ t. not (opens arch width step.pin t)) (below width))
    (λ t. lacks width step.slot t ∷ [])
    ∙ closed-count (opens arch width step.pin) width count e
