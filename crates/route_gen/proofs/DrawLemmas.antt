-- What one draw more makes of the sinks and of the inputs that are taken.
use Rattle.std.proofs.Common.{◌≡◌, ◌≢◌, ℕ, zero, suc, ◌+◌, ◌*◌, ◌-◌, ◌<◌, ◌≤◌, false, Option, Some, None, List, [], ◌∷◌, ◌++◌, length, refl, sym, ap, subst, ◌∙◌, inl, inr, arith, zero-add, length-append}
use Rattle.std.specs.Prelude.{All, slice_set, unwrap_or}
use Rattle.std.specs.List.{range_with_len}
use Rattle.std.specs.Option.{option_or}
use Rattle.std.proofs.lemmas.Bool.{cases_Bool, cases_lt, eq-eqb, ltb-false, ltb-true, ne_eqb}
use Rattle.std.proofs.lemmas.Grind.{flat_map-append}
use Rattle.std.proofs.lemmas.List.{append-nil}
use Rattle.std.proofs.lemmas.List.Elements.{All-nil, All-push}
use Rattle.std.proofs.lemmas.List.FromFn.{get_or-map-range_with_len, length-map-range_with_len}
use Rattle.list_laws.proofs.Members.{In-range, find-In, find-some, from_In-range}
use Rattle.list_laws.proofs.Numbered.{enumerate-push}
use Rattle.route_gen.specs.Draws.{HasFree, IsFree, after_rand, answer_of, drawing, drawn_block, drawn_sink, ending_at, entry, first_free, has_room, input_table, location_of, moved, nets_into, sinks_of}
use Rattle.route_gen.specs.declared.draws.Sink.{Sink}
use Rattle.route_gen.specs.declared.draws.TheConstants.{INPUT_COUNT}
use Rattle.route_gen.proofs.PlaceLemmas.{block_within}
use Rattle.route_gen.proofs.RangeLemmas.{entry-put}
use Rattle.route_gen.proofs.RoomLemmas.{among-all, full-among}

-- the nets that end at a block, with one net more
pub into-push : (sinks : List Sink) (sink : Sink) (block : ℕ) →
    nets_into (sinks ++ sink ∷ []) block
    ≡ nets_into sinks block ++ ending_at block (length sinks, sink)
into-push sinks sink block = grind (arith, enumerate-push, flat_map-append, append-nil, zero-add)

-- it ends at its own block
pub into-here : (sinks : List Sink) (sink : Sink) →
    nets_into (sinks ++ sink ∷ []) sink.block ≡ nets_into sinks sink.block ++ length sinks ∷ []
into-here sinks sink = grind (arith, into-push, eq-eqb)

-- and at no other
pub into-other : (sinks : List Sink) (sink : Sink) (block : ℕ) → block ≢ sink.block →
    nets_into sinks block ≡ nets_into (sinks ++ sink ∷ []) block
into-other sinks sink block other = grind (arith, into-push, ne_eqb, append-nil)

-- what stands in the table at a block
pub table-at : (side : ℕ) (sinks : List Sink) (block : ℕ) → block < side * side →
    entry (input_table side sinks) block ≡ nets_into sinks block
table-at side sinks block below = grind (arith, get_or-map-range_with_len, zero-add)

-- the table with one net more
pub table-push : (side : ℕ) (sinks : List Sink) (sink : Sink) → sink.block < side * side →
    slice_set (input_table side sinks) sink.block (nets_into sinks sink.block ++ length sinks ∷ [])
    ≡ input_table side (sinks ++ sink ∷ [])
table-push side sinks sink below =
    let e : 0 + sink.block ≡ sink.block = zero-add sink.block in
    ap (slice_set (input_table side sinks) sink.block)
    (sym (ap (nets_into (sinks ++ sink ∷ [])) e ∙ into-here sinks sink))
    ∙ entry-put (nets_into sinks) (nets_into (sinks ++ sink ∷ [])) 0 (side * side) sink.block below
    (λ block other. into-other sinks sink block (λ same. other (same ∙ sym e)))

-- a table has an entry for each block
pub table-length : (side : ℕ) (sinks : List Sink) → length (input_table side sinks) ≡ side * side
table-length side sinks = length-map-range_with_len (nets_into sinks) 0 (side * side)

-- so many sinks are drawn
pub drawing-length : (seed side nets : ℕ) → length (sinks_of seed side nets) ≡ nets
drawing-length seed side zero = refl
drawing-length seed side (suc nets) = grind (arith, length-append, (drawing-length seed side nets))

module _ (side : ℕ) (sinks : List Sink) where
  -- the nets that end at each block
  abbrev table : List (List ℕ)
  table = input_table side sinks

  -- where a search finds nothing, each block that it looks at is full
  full-there : (block first count : ℕ) → first ≤ block → block < first + count →
      first_free table first count ≡ None → has_room (entry table block) ≡ false
  full-there block first count low high none = elim (cases_Bool (has_room (entry table block))) [
    | inl free ↦ absurd (
        let r = find-some (λ b. has_room (entry table b)) (range_with_len first count) block
        (In-range first count block low high) free in
        let clash : None ≡ Some r.0 = sym none ∙ r.1 in cc
        )
    | inr full ↦ full
  ]

  -- where two searches from a block on and round to it find nothing, all blocks are full
  all-full : (wanted : ℕ) → first_free table wanted (length table - wanted) ≡ None →
      first_free table 0 wanted ≡ None →
      (block : ℕ) → block < side * side → INPUT_COUNT ≤ length (nets_into sinks block)
  all-full wanted late early block below =
      let count = table-length side sinks in
      let full : has_room (entry table block) ≡ false = elim (cases_lt block wanted) [
        | inl before ↦ full-there block 0 wanted (omega arith) (omega arith) early
        | inr behind ↦ full-there block wanted (length table - wanted) behind (omega arith) late
      ] in
      subst (λ (nets : List ℕ). INPUT_COUNT ≤ length nets) (table-at side sinks block below)
      (ltb-false (length (entry table block)) INPUT_COUNT full)

  -- what a search finds is free
  free-there : (block first count : ℕ) → first + count ≤ length table →
      first_free table first count ≡ Some block → IsFree table block
  free-there block first count within is =
      let r = find-In (λ b. has_room (entry table b)) (range_with_len first count) block is in
      let bounds = from_In-range first count block r.0 in
      record { there = omega (arith, bounds.1); room = r.1 }

  -- where fewer nets end than there are inputs, each search finds a free one
  pub free-found : length sinks < INPUT_COUNT * (side * side) → HasFree table
  free-found few wanted inside =
      go (first_free table wanted (length table - wanted)) (first_free table 0 wanted) refl refl
    where
      go : (late early : Option ℕ) → first_free table wanted (length table - wanted) ≡ late →
          first_free table 0 wanted ≡ early → IsFree table (unwrap_or (option_or late early) 0)
      go (Some block) early late_is early_is =
          free-there block wanted (length table - wanted) (omega arith) late_is
      go None (Some block) late_is early_is = free-there block 0 wanted (omega arith) early_is
      go None None late_is early_is = absurd (
          let many = full-among sinks (side * side) (all-full wanted late_is early_is) in
          let most = among-all sinks (side * side) in omega arith
          )

-- of so few nets
pub has-free : (seed side nets : ℕ) → nets < side * side →
    HasFree (input_table side (sinks_of seed side nets))
has-free seed side nets few =
    let count = drawing-length seed side nets in
    free-found side (sinks_of seed side nets) (omega arith)

-- what is wanted is a block of the array
pub wanted-within : (side driver state : ℕ) → 1 ≤ side →
    drawn_block side driver state < side * side
wanted-within side driver state some =
    let from = location_of side driver in
    block_within side
    (moved side from.column (answer_of (after_rand state)) - 1)
    (moved side from.row (answer_of (after_rand (after_rand state))) - 1)
    (omega arith) (omega arith)

-- the next net finds a free input
pub next-free : (seed side nets : ℕ) → 1 ≤ side → nets < side * side →
    IsFree (input_table side (sinks_of seed side nets))
    (drawn_sink side nets (drawing seed side nets)).block
next-free seed side nets some few = grind (arith, table-length, wanted-within, has-free)

-- the table with the net that is drawn for next
pub table-next : (seed side nets : ℕ) → 1 ≤ side → nets < side * side →
    slice_set (input_table side (sinks_of seed side nets))
    (drawn_sink side nets (drawing seed side nets)).block
    (entry (input_table side (sinks_of seed side nets))
    (drawn_sink side nets (drawing seed side nets)).block ++ nets ∷ [])
    ≡ input_table side (sinks_of seed side (suc nets))
table-next seed side nets some few =
    let sinks = sinks_of seed side nets in
    let sink = drawn_sink side nets (drawing seed side nets) in
    let free = next-free seed side nets some few in
    let count = table-length side sinks in
    let below : sink.block < side * side = omega (arith, free.there) in
    ap (λ (net : ℕ). slice_set (input_table side sinks) sink.block
    (entry (input_table side sinks) sink.block ++ net ∷ [])) (sym (drawing-length seed side nets))
    ∙ ap (λ (nets : List ℕ). slice_set (input_table side sinks) sink.block
    (nets ++ length sinks ∷ [])) (table-at side sinks sink.block below)
    ∙ table-push side sinks sink below

-- a sink is an input of a block of the array
pub record IsInput (side : ℕ) (sink : Sink) : Type 0 where
  pub block : sink.block < side * side
  pub pin : sink.pin < INPUT_COUNT

-- each net ends at one
pub sinks-inputs : (seed side nets : ℕ) → 1 ≤ side → nets ≤ side * side →
    All (IsInput side) (sinks_of seed side nets)
sinks-inputs seed side zero some few = All-nil (IsInput side)
sinks-inputs seed side (suc nets) some few =
    let sinks = sinks_of seed side nets in
    let sink = drawn_sink side nets (drawing seed side nets) in
    let free = next-free seed side nets some (omega arith) in
    let count = table-length side sinks in
    All-push (IsInput side) sinks sink (sinks-inputs seed side nets some (omega arith))
    (record {
      block = omega (arith, free.there);
      pin = ltb-true (length (entry (input_table side sinks) sink.block)) INPUT_COUNT free.room;
    })
