-- Where the nets of a generated problem end, drawn by the sample `rand` of the ANSI C standard.
use Rattle.std.specs.Prelude.{◌≡◌, ◌<◌, true, slice_index_or, ℕ, zero, suc, ◌+◌, ◌-◌, ◌*◌, ◌/◌, ◌%◌, ◌^◌, ◌==◌, nat_lt, Bool, min, max, List, [], ◌∷◌, ◌++◌, length, map, find, flat_map, Option, unwrap_or, if◌then◌else◌}
use Rattle.std.specs.List.{enumerate_from, range_with_len}
use Rattle.std.specs.Option.{option_or}
use Rattle.route_gen.specs.declared.draws.Sink.{Sink}
use Rattle.route_gen.specs.declared.draws.TheConstants.{INPUT_COUNT}
use Rattle.route_gen.specs.declared.location.Location.{Location}

-- the state of `rand` after a call, here of 31 bits
abbrev pub after_rand : (state : ℕ) → ℕ
after_rand state = (state * 1103515245 + 12345) % 2 ^ 31

-- what the call that left this state answers
abbrev pub answer_of : (state : ℕ) → ℕ
answer_of state = state / 65536

-- a column or a row moved by an answer, by two less to two more, and kept among 1 to side
abbrev pub moved : (side from answer : ℕ) → ℕ
moved side from answer = min (max (from + answer % 5 - 2) 1) side

-- where a block stands: the blocks fill the rows, from the lowest on
abbrev pub location_of : (side block : ℕ) → Location
location_of side block = record { column = block % side + 1; row = block / side + 1 }

-- the block that stands there
abbrev pub block_at : (side column row : ℕ) → ℕ
block_at side column row = (row - 1) * side + (column - 1)

-- the block near the driver that two answers point at: the first moves its column, the second its
-- row
abbrev pub wanted_block : (side driver first second : ℕ) → ℕ
wanted_block side driver first second = let from = location_of side driver in
    block_at side (moved side from.column first) (moved side from.row second)

-- the number of a net that ends at the block, and nothing of another
abbrev pub ending_at : (block : ℕ) → ℕ × Sink → List ℕ
ending_at block net = if net.1.block == block then net.0 ∷ [] else []

-- the nets that end at a block, in their order
abbrev pub nets_into : List Sink → (block : ℕ) → List ℕ
nets_into sinks block = flat_map (ending_at block) (enumerate_from 0 sinks)

-- the nets that end at each block
abbrev pub input_table : (side : ℕ) → List Sink → List (List ℕ)
input_table side sinks = map (nets_into sinks) (range_with_len 0 (side * side))

-- those that end at a block, by such a table
abbrev pub entry : List (List ℕ) → (block : ℕ) → List ℕ
entry table block = slice_index_or table block []

-- so few nets end at a block that an input of it is free
abbrev pub has_room : List ℕ → Bool
has_room nets = nat_lt (length nets) INPUT_COUNT

-- the first of so many blocks, from one on, that has a free input
abbrev pub first_free : List (List ℕ) → (from count : ℕ) → Option ℕ
first_free table from count =
    find (λ block. has_room (entry table block)) (range_with_len from count)

-- the first block with a free input, from one on and going round
abbrev pub free_block : List (List ℕ) → (wanted : ℕ) → ℕ
free_block table wanted = unwrap_or
    (option_or (first_free table wanted (length table - wanted)) (first_free table 0 wanted)) 0

-- the block is there, and has a free input
pub record IsFree (table : List (List ℕ)) (block : ℕ) : Type 0 where
  pub there : block < length table
  pub room : has_room (entry table block) ≡ true

-- from each block on a free input is found
abbrev pub HasFree : List (List ℕ) → Type 0
HasFree table =
    (wanted : ℕ) → wanted < length table → IsFree table (free_block table wanted)

-- where the next net ends: at that block, at the input behind those that are taken
abbrev pub next_sink : List (List ℕ) → (wanted : ℕ) → Sink
next_sink table wanted = let block = free_block table wanted in
    record { block = block; pin = length (entry table block) }

-- the state of `rand`, and where the nets end for which it was drawn
pub record Drawing : Type 0 where
  pub state : ℕ
  pub sinks : List Sink

-- the block that two more answers point at, near a driver
abbrev pub drawn_block : (side driver state : ℕ) → ℕ
drawn_block side driver state = wanted_block side driver (answer_of (after_rand state))
    (answer_of (after_rand (after_rand state)))

-- where the net of a driver ends
abbrev pub drawn_sink : (side driver : ℕ) → Drawing → Sink
drawn_sink side driver drawn =
    next_sink (input_table side drawn.sinks) (drawn_block side driver drawn.state)

-- the same with this net too
abbrev pub with_net : (side driver : ℕ) → Drawing → Drawing
with_net side driver drawn = record {
  state = after_rand (after_rand drawn.state);
  sinks = drawn.sinks ++ drawn_sink side driver drawn ∷ [];
}

-- what is drawn for so many nets from a seed: each block drives the net of its number
abbrev pub drawing : (seed side nets : ℕ) → Drawing
drawing seed side zero = record { state = seed; sinks = [] }
drawing seed side (suc nets) = with_net side nets (drawing seed side nets)

-- where the nets end
abbrev pub sinks_of : (seed side nets : ℕ) → List Sink
sinks_of seed side nets = (drawing seed side nets).sinks
