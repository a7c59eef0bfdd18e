-- The clauses of a route at a width: connectivity and exclusivity constraints as in Nam, Sakallah
-- and Rutenbar, in an order of this project. A variable says that a slot has a track.
use Rattle.std.specs.Prelude.{ℕ, suc, ◌+◌, ◌-◌, ◌*◌, Bool, not, pos, negsuc, List, [], ◌∷◌, ◌++◌, length, map, filter, flat_map, Option, option_map, option_to_list}
use Rattle.std.specs.List.{range_with_len}
use Rattle.fpga_types.specs.Slots.{pairs, pin_steps, slot_at, slots, steps}
use Rattle.fpga_types.specs.Boxes.{opens}
use Rattle.fpga_types.specs.Problem.{RoutingProblem}
use Rattle.fpga_types.specs.Tracks.{mapped_track, track_across}
use Rattle.fpga_types.specs.declared.arch.Arch.{Arch}
use Rattle.fpga_types.specs.declared.grid.Cell.{Cell}
use Rattle.fpga_types.specs.declared.grid.PinAt.{PinAt}
use Rattle.fpga_types.specs.declared.problem.PinStep.{PinStep}
use Rattle.fpga_types.specs.declared.problem.RouteStep.{RouteStep}
use Rattle.fpga_types.specs.declared.problem.Slot.{Slot}
use Rattle.fpga_types.specs.declared.route.RouteText.{RouteText}
use Rattle.sat_clause.specs.declared.literal.Lit.{Lit}
use Rattle.sat_clause.specs.Formula.{Cnf}
use Rattle.sat_clause.specs.Literal.{Clause, lit}

-- the place of a slot's track among all, slot by slot
abbrev pub place_of : (width s t : ℕ) → ℕ
place_of width s t = s * width + t

-- slot s has track t; variables are numbered from 1
abbrev pub has : (width s t : ℕ) → Lit
has width s t = lit (pos (suc (place_of width s t)))

-- slot s does not have track t
abbrev pub lacks : (width s t : ℕ) → Lit
lacks width s t = lit (negsuc (place_of width s t))

-- the numbers below n, rising
abbrev pub below : ℕ → List ℕ
below n = range_with_len 0 n

-- the numbers above t and below the width, rising
abbrev pub above : (t width : ℕ) → List ℕ
above t width = range_with_len (t + 1) (width - t - 1)

-- slot s has a track
abbrev pub some_track : (width s : ℕ) → Clause
some_track width s = map (has width s) (below width)

-- it is not so that slot a has track t and slot b has track u
abbrev pub not_both : (width a t b u : ℕ) → Clause
not_both width a t b u = lacks width a t ∷ lacks width b u ∷ []

-- slot s does not have track t and a higher one
abbrev pub no_higher_track : (width s t : ℕ) → List Clause
no_higher_track width s t = map (λ u. not_both width s t s u) (above t width)

-- slot s does not have two tracks
abbrev pub one_track : (width s : ℕ) → List Clause
one_track width s = flat_map (no_higher_track width s) (below width)

-- the slot next to a pin has no track that the pin does not open
abbrev pub open_track : (PinAt → ℕ → Bool) → ℕ → PinStep → List Clause
open_track open_at width p =
    map (λ t. lacks width p.slot t ∷ []) (filter (λ t. not (open_at p.pin t)) (below width))

-- the track of a step's second slot that track t of the first is joined to, where there is one
abbrev pub track_after : (Cell → Cell → ℕ → Option ℕ) → List Slot → RouteStep → ℕ → Option ℕ
track_after across all step t = across (slot_at all step.from).cell (slot_at all step.to).cell t

-- where the first slot of a step has a track, the second has the one that it is joined to
abbrev pub joined_track : (Cell → Cell → ℕ → Option ℕ) → ℕ → List Slot → RouteStep → List Clause
joined_track across width all step =
    map (λ t. lacks width step.from t
    ∷ option_to_list (option_map (has width step.to) (track_after across all step t))) (below width)

-- two slots that compete do not have one track
abbrev pub apart_track : ℕ → ℕ × ℕ → List Clause
apart_track width pair = map (λ t. not_both width pair.0 t pair.1 t) (below width)

-- the clauses of a route, by the track that a track is joined to across two cells, and the tracks
-- that a pin opens
abbrev pub encoding : (Cell → Cell → ℕ → Option ℕ) → (PinAt → ℕ → Bool) → ℕ → RouteText
    → List Clause
encoding across open_at width route =
    let all : List Slot = slots route in
    map (some_track width) (below (length all))
    ++ flat_map (one_track width) (below (length all))
    ++ flat_map (open_track open_at width) (pin_steps route)
    ++ flat_map (joined_track across width all) (steps route)
    ++ flat_map (apart_track width) (pairs all)

-- the clauses with the switch blocks and the connection boxes of an architecture
abbrev pub encoding_for : Arch → ℕ → RouteText → List Clause
encoding_for arch width route =
    encoding (track_across (mapped_track arch.pattern width) route.grid) (opens arch width) width
    route

-- these clauses of a problem as a formula, with a variable for each track of each slot
abbrev pub cnf_of : ℕ → RoutingProblem → Cnf
cnf_of width p = record {
  vars = length (slots p.route) * width;
  clauses = encoding_for p.arch width p.route;
}
