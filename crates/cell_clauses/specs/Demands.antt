-- Which clauses over cells demand something of a net. All others are true where a net uses no cell
-- and comes to no sink.
use Rattle.std.specs.Prelude.{ℕ, ◌+◌, ◌-◌, ◌/◌, ◌==◌, nat_le, nat_lt, Bool, false, ◌&&◌, ◌||◌, length, slice_get}
use Rattle.std.specs.List.{list_all}
use Rattle.std.specs.Option.{option_map_or}
use Rattle.sat_clause.specs.declared.literal.Lit.{Lit}
use Rattle.sat_clause.specs.Literal.{Clause, is_positive, variable}
use Rattle.cell_clauses.specs.Frames.{Frame}
use Rattle.cell_clauses.specs.Places.{pin_count, tally_count, use_count, use_place}
use Rattle.cell_clauses.specs.declared.window.Arrival.{Arrival}

-- the variable at this place says that net k uses a cell: from that of its first cell on
abbrev pub is_use_of : Frame → (k place : ℕ) → Bool
is_use_of f k place =
    nat_le (use_place f k 0) place && nat_lt place (use_place f k (length f.cells))

-- where the variables begin that say by which pins nets come to sinks
abbrev pub first_entry : Frame → ℕ
first_entry f = use_count f + tally_count f

-- the variable at this place says by which pin net k comes to a sink
abbrev pub is_entry_of : Frame → (k place : ℕ) → Bool
is_entry_of f k place = nat_le (first_entry f) place
    && option_map_or (λ (arrival : Arrival). arrival.net == k)
    (slice_get f.arrivals ((place - first_entry f) / pin_count f)) false

-- the literal says that net k uses a cell, or that it comes to a sink by a pin
abbrev pub says_of : Frame → (k : ℕ) → Lit → Bool
says_of f k l = is_positive l
    && (is_use_of f k (variable l - 1) || is_entry_of f k (variable l - 1))

-- the clause demands such a thing of net k, and nothing of another: each of its literals says one
abbrev pub demands : Frame → (k : ℕ) → Clause → Bool
demands f k clause = list_all (says_of f k) clause
