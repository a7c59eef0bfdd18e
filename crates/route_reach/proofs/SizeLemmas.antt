-- How many literals the clauses for a reach have at most.
use Rattle.std.proofs.Common.{◌≡◌, ℕ, ◌+◌, ◌-◌, ◌*◌, ◌≤◌, Bool, true, false, cond, Option, Some, None, List, [], ◌∷◌, ◌++◌, length, ap, arith, length-append}
use Rattle.std.specs.Prelude.{nat_lt, ◌==◌, filter, filter_map, flat_map, map, sum_by, if◌then◌else◌}
use Rattle.std.specs.List.{cons_option, enumerate_from}
use Rattle.std.proofs.lemmas.List.{length-map}
use Rattle.std.proofs.lemmas.List.FromFn.{length-range_with_len}
use Rattle.std.proofs.lemmas.List.Sums.{sum_by-append, sum_by-cons}
use Rattle.fpga_bounds.specs.Pairs.{AreDistinct}
use Rattle.fpga_graph.specs.GraphOf.{GraphOf}
use Rattle.fpga_graph.specs.Wires.{opened_tracks}
use Rattle.fpga_types.specs.Boxes.{opens}
use Rattle.fpga_types.specs.Slots.{numbered_nets, pairs}
use Rattle.fpga_types.specs.declared.grid.PinAt.{PinAt}
use Rattle.fpga_types.specs.declared.grid.Side.TheVariants.{Left, Right, Bottom, Top}
use Rattle.fpga_types.specs.declared.problem.Slot.{Slot}
use Rattle.fpga_types.specs.declared.route.RouteNet.{RouteNet}
use Rattle.fpga_types.specs.declared.route.RouteText.{RouteText}
use Rattle.sat_clause.specs.Literal.{Clause}
use Rattle.sat_clause.specs.declared.literal.Lit.{Lit}
use Rattle.route_encode.specs.Adding.{lit_count}
use Rattle.route_encode.specs.Encoding.{apart_track, below, not_both, place_of}
use Rattle.route_reach.specs.Counts.{far_count, sink_count}
use Rattle.route_reach.specs.Encoding.{Frame, comes_from_near, each_wire, far_tracks, reach_encoding, reached, reached_is_used, sink_clause, sinks_reached, starts_at_source, stays_reached, unreached, uses}
use Rattle.route_reach.specs.Ends.{ins}
use Rattle.route_reach.specs.Near.{near_slots, side_slot, touched_slots, with_found, with_number}
use Rattle.route_reach.specs.WireClauses.{comes_clause, comes_clauses, slot_comes, wire_beside, wire_reached, wires_beside}
use Rattle.route_reach.proofs.NearSlots.{four-sides, touched-all}
use Rattle.route_reach.proofs.NearbyLemmas.{comes-by-slot}
use Rattle.route_reach.proofs.SinkLemmas.{sink-numbered}

-- rows that have at most so many literals each
lits-rows : {X : Type 0} (h : X → List Clause) (m : X → ℕ) (xs : List X)
    → ((x : X) → lit_count (h x) ≤ m x) → lit_count (flat_map h xs) ≤ sum_by m xs
lits-rows h m [] each = omega arith
lits-rows h m (x ∷ xs) each =
    omega (
      arith,
      sum_by-append length (h x) (flat_map h xs),
      sum_by-cons m x xs,
      each x,
      lits-rows h m xs each,
    )

-- clauses of at most so many literals
lits-map : {X : Type 0} (c : X → Clause) (n : ℕ) (xs : List X) → ((x : X) → length (c x) ≤ n)
    → lit_count (map c xs) ≤ length xs * n
lits-map c n [] each = omega arith
lits-map {X} c n (x ∷ xs) each =
    let rest : List Clause = map c xs in
    omega (
      arith,
      sum_by-cons length (c x) rest,
      each x,
      lits-map c n xs each,
    )

sum-each : {X : Type 0} (k : ℕ) (xs : List X) → sum_by (λ x. k) xs ≡ length xs * k
sum-each k [] = omega arith
sum-each {X} k (x ∷ xs) = omega (arith, sum_by-cons (λ (y : X). k) x xs, sum-each k xs)

-- a sum of products with one factor that varies
sum-split : (w l : ℕ) (m : ℕ → ℕ) (xs : List ℕ) → sum_by (λ s. w * (l * (2 + m s))) xs
    ≡ length xs * (w * (l * 2)) + w * l * sum_by m xs
sum-split w l m [] = omega arith
sum-split w l m (x ∷ xs) =
    let n : ℕ = sum_by m xs in
    let whole : w * l * sum_by m (x ∷ xs) ≡ w * l * (m x + n) =
    ap (λ (k : ℕ). w * l * k) (sum_by-cons m x xs) in
    let split : w * l * (m x + n) ≡ w * l * m x + w * l * n = omega arith in
    let first : w * (l * (2 + m x)) ≡ w * (l * 2) + w * l * m x = omega arith in
    omega (
      arith,
      sum_by-cons (λ s. w * (l * (2 + m s))) x xs,
      sum-split w l m xs,
      whole,
      split,
      first,
    )

length-rows-at_most : {X : Type 0} (h : X → Clause) (m : ℕ) (xs : List X)
    → ((x : X) → length (h x) ≤ m) → length (flat_map h xs) ≤ length xs * m
length-rows-at_most h m [] each = omega arith
length-rows-at_most h m (x ∷ xs) each =
    omega (
      arith,
      length-append (h x) (flat_map h xs),
      each x,
      length-rows-at_most h m xs each,
    )

length-kept : {X : Type 0} (p : X → Bool) (xs : List X) → length (filter p xs) ≤ length xs
length-kept p [] = omega arith
length-kept {X} p (x ∷ xs) = go (p x) (length-kept p xs)
  where
    go : (b : Bool) → length (filter p xs) ≤ length xs
        → length (cond b (x ∷ filter p xs) (filter p xs)) ≤ length (x ∷ xs)
    go true h = omega (arith, h)
    go false h = omega (arith, h)

length-made : {A B : Type 0} (k : A → Option B) (xs : List A) → length (filter_map k xs) ≤ length xs
length-made k [] = omega arith
length-made {A} {B} k (x ∷ xs) = go (k x) (length-made k xs)
  where
    go : (o : Option B) → length (filter_map k xs) ≤ length xs
        → length (cons_option o (filter_map k xs)) ≤ length (x ∷ xs)
    go None h = omega (arith, h)
    go (Some y) h = omega (arith, h)

length-with : (xs : List ℕ) (k : ℕ) → length (with_number xs k) ≤ length xs + 1
length-with [] k = omega arith
length-with (x ∷ xs) k = go (nat_lt k x) (x == k) (length-with xs k)
  where
    go : (b c : Bool) → length (with_number xs k) ≤ length xs + 1
        → length (if b then k ∷ x ∷ xs else if c then x ∷ xs else x ∷ with_number xs k)
        ≤ length (x ∷ xs) + 1
    go true c h = omega arith
    go false true h = omega arith
    go false false h = omega (arith, h)

length-found : (xs : List ℕ) (o : Option ℕ) → length (with_found xs o) ≤ length xs + 1
length-found xs None = omega arith
length-found xs (Some k) = length-with xs k

-- a pin touches at most four slots of a net
few-touched : (g : GraphOf) (all : List Slot) → AreDistinct all → (n : ℕ) (pin : PinAt)
    → length (touched_slots g all n pin) ≤ 4
few-touched g all distinct n pin =
    let left : List ℕ = with_found [] (side_slot g all n pin Left) in
    let right : List ℕ = with_found left (side_slot g all n pin Right) in
    let bottom : List ℕ = with_found right (side_slot g all n pin Bottom) in
    let top : List ℕ = with_found bottom (side_slot g all n pin Top) in
    let same : top ≡ touched_slots g all n pin = touched-all all g distinct n pin top
    (four-sides all g distinct n pin) in
    rw (← same) (omega (
      arith,
      length-found [] (side_slot g all n pin Left),
      length-found left (side_slot g all n pin Right),
      length-found right (side_slot g all n pin Bottom),
      length-found bottom (side_slot g all n pin Top),
    ))

module _ (f : Frame) (distinct : AreDistinct f.all) where
  abbrev graph : GraphOf
  graph = f.graph

  abbrev width : ℕ
  width = let g : GraphOf = f.graph in g.width

  abbrev count : ℕ
  count = length f.all

  abbrev wires : ℕ
  wires = count * width

  -- ---- the clauses of sinks

  sink-lits : (n : ℕ) (pin : PinAt) → length (sink_clause f n pin) ≤ 4 * width
  sink-lits n pin =
      let g : GraphOf = f.graph in
      let lits : ℕ → List Lit = λ s. map (λ t. wire_reached wires f.reach (place_of g.width s t)
      f.reach) (opened_tracks g pin) in
      let each = length-rows-at_most lits width (touched_slots g f.all n pin) (λ s.
      omega (
        arith,
        length-map (opened_tracks g pin)
            (λ t. wire_reached wires f.reach (place_of g.width s t) f.reach),
        length-kept (opens g.arch g.width pin) (below g.width),
        length-range_with_len 0 g.width,
      )) in
      let few = few-touched g f.all distinct n pin in
      rw (sink-numbered f n pin) (at-most (length (touched_slots g f.all n pin)) width _ each few)
    where
      at-most : (k w n : ℕ) → n ≤ k * w → k ≤ 4 → n ≤ 4 * w
      at-most k w n h few =
          let rest : k + (4 - k) ≡ 4 = omega (arith, few) in
          let split : (k + (4 - k)) * w ≡ k * w + (4 - k) * w = omega arith in
          let whole : (k + (4 - k)) * w ≡ 4 * w = ap (λ (m : ℕ). m * w) rest in
          omega (arith, h, split, whole)

  sinks-lits : (k : ℕ) (nets : List RouteNet)
      → lit_count (flat_map (sinks_reached f) (enumerate_from k nets))
      ≤ 4 * width * sum_by (λ (net : RouteNet). length (ins net)) nets
  sinks-lits k [] = omega arith
  sinks-lits k (net ∷ nets) =
      let own = lits-map (sink_clause f k) (4 * width) (ins net) (sink-lits k) in
      let rest : List Clause = flat_map (sinks_reached f) (enumerate_from (k + 1) nets) in
      let a : ℕ = length (ins net) in
      let b : ℕ = sum_by (λ (other : RouteNet). length (ins other)) nets in
      let all : ℕ = sum_by (λ (other : RouteNet). length (ins other)) (net ∷ nets) in
      let whole : 4 * width * all ≡ 4 * width * (a + b) = ap (λ (n : ℕ). 4 * width * n)
      (sum_by-cons (λ (other : RouteNet). length (ins other)) net nets) in
      let split : 4 * width * (a + b) ≡ a * (4 * width) + 4 * width * b = omega arith in
      omega (
        arith,
        sum_by-append length (sinks_reached f (k, net)) rest,
        own,
        sinks-lits (k + 1) nets,
        whole,
        split,
      )

  -- ---- the clauses of wires

  far-lits : (route : RouteText)
      → lit_count (flat_map (starts_at_source f route) (below count)) ≤ far_count f route
  far-lits route = lits-rows (starts_at_source f route) (λ s. length (far_tracks f route s))
      (below count) (λ s. one s (lits-map (λ t. unreached f s t 0 ∷ []) 1
      (far_tracks f route s) (λ t. omega arith)))
    where
      one : (s : ℕ) → lit_count (starts_at_source f route s) ≤ length (far_tracks f route s) * 1
          → lit_count (starts_at_source f route s) ≤ length (far_tracks f route s)
      one s h = omega (arith, h)

  -- two literals for each wire and each of so many joins
  two-lits : (clauses : ℕ → ℕ → List Clause) (m : ℕ)
      → ((s t : ℕ) → lit_count (clauses s t) ≤ m * 2)
      → lit_count (each_wire f clauses) ≤ count * (width * (m * 2))
  two-lits clauses m each =
      let row : (s : ℕ) → lit_count (flat_map (clauses s) (below width)) ≤ width * (m * 2) =
      λ s. row-of s (lits-rows (clauses s) (λ t. m * 2) (below width) (each s)) in
      let rows = lits-rows (λ s. flat_map (clauses s) (below width)) (λ s. width * (m * 2))
      (below count) row in
      omega (
        arith,
        rows,
        sum-each (width * (m * 2)) (below count),
        length-range_with_len 0 count,
        same (length (below count)) count (width * (m * 2)) (length-range_with_len 0 count),
      )
    where
      same : (a b k : ℕ) → a ≡ b → a * k ≡ b * k
      same a b k e = ap (λ (n : ℕ). n * k) e

      row-of : (s : ℕ) → lit_count (flat_map (clauses s) (below width))
          ≤ sum_by (λ t. m * 2) (below width)
          → lit_count (flat_map (clauses s) (below width)) ≤ width * (m * 2)
      row-of s h = omega (
        arith,
        h,
        sum-each (m * 2) (below width),
        same (length (below width)) width (m * 2) (length-range_with_len 0 width),
      )

  below-lits : (m : ℕ) {n : ℕ} → n ≤ length (below m) * 2 → n ≤ m * 2
  below-lits m h = omega (arith, h, length-range_with_len 0 m)

  used-lits : lit_count (each_wire f (reached_is_used f)) ≤ count * (width * ((f.reach + 1) * 2))
  used-lits = two-lits (reached_is_used f) (f.reach + 1) (λ s t. below-lits (f.reach + 1)
      (lits-map (λ d. unreached f s t d ∷ uses f s t ∷ []) 2 (below (f.reach + 1))
      (λ d. omega arith)))

  stays-lits : lit_count (each_wire f (stays_reached f)) ≤ count * (width * (f.reach * 2))
  stays-lits = two-lits (stays_reached f) f.reach (λ s t. below-lits f.reach
      (lits-map (λ d. unreached f s t d ∷ reached f s t (d + 1) ∷ []) 2 (below f.reach)
      (λ d. omega arith)))

  -- those that say from where a wire is reached
  comes-lits : lit_count (each_wire f (comes_from_near f))
      ≤ sum_by (λ s. width * (f.reach * (2 + length (near_slots f s)))) (below count)
  comes-lits =
      let g : GraphOf = f.graph in
      rw (comes-by-slot f) (lits-rows
      (λ s. slot_comes wires f.reach graph f.all (near_slots f s) s)
      (λ s. width * (f.reach * (2 + length (near_slots f s)))) (below count) slot)
    where
      one : (w : ℕ) (beside : List ℕ) (n : ℕ) → length beside ≤ n → (d : ℕ)
          → length (comes_clause wires f.reach w beside d) ≤ 2 + n
      one w beside n few d =
          omega (arith, few, length-map beside (λ b. wire_reached wires f.reach b d))

      wire : (s t : ℕ) → lit_count (comes_clauses wires f.reach (place_of width s t)
          (wires_beside graph f.all (near_slots f s) s t))
          ≤ f.reach * (2 + length (near_slots f s))
      wire s t =
          let beside : List ℕ = wires_beside graph f.all (near_slots f s) s t in
          let n : ℕ = length (near_slots f s) in
          let each = lits-map (comes_clause wires f.reach (place_of width s t) beside) (2 + n)
          (below f.reach) (one (place_of width s t) beside n
          (length-made (wire_beside graph f.all s t) (near_slots f s))) in
          omega (
            arith,
            each,
            ap (λ (k : ℕ). k * (2 + n))
                (length-range_with_len 0 f.reach),
          )

      slot : (s : ℕ) → lit_count (slot_comes wires f.reach graph f.all (near_slots f s) s)
          ≤ width * (f.reach * (2 + length (near_slots f s)))
      slot s =
          let k : ℕ = f.reach * (2 + length (near_slots f s)) in
          let rows = lits-rows (λ t. comes_clauses wires f.reach (place_of width s t)
          (wires_beside graph f.all (near_slots f s) s t)) (λ t. k) (below width) (wire s) in
          omega (
            arith,
            rows,
            sum-each k (below width),
            ap (λ (n : ℕ). n * k)
                (length-range_with_len 0 width),
          )

  apart-lits : lit_count (flat_map (apart_track width) (pairs f.all))
      ≤ length (pairs f.all) * (width * 2)
  apart-lits =
      let rows = lits-rows (apart_track width) (λ q. width * 2) (pairs f.all) pair in
      omega (arith, rows, sum-each (width * 2) (pairs f.all))
    where
      pair : (q : ℕ × ℕ) → lit_count (apart_track width q) ≤ width * 2
      pair q =
          let each = lits-map (λ t. not_both width q.0 t q.1 t) 2 (below width)
          (λ t. omega arith) in
          omega (arith, each, length-range_with_len 0 width)

  -- all of them
  pub lits-at_most : (route : RouteText) (near : ℕ)
      → near ≡ sum_by (λ s. length (near_slots f s)) (below count)
      → lit_count (reach_encoding f route)
      ≤ 4 * width * sink_count route + far_count f route
      + 2 * (wires * (3 * f.reach + 1) + length (pairs f.all) * width) + width * f.reach * near
  lits-at_most route near is =
      let a : List Clause = flat_map (sinks_reached f) (numbered_nets route) in
      let b : List Clause = flat_map (starts_at_source f route) (below count) in
      let c : List Clause = each_wire f (reached_is_used f) in
      let d : List Clause = each_wire f (stays_reached f) in
      let e : List Clause = each_wire f (comes_from_near f) in
      let z : List Clause = flat_map (apart_track width) (pairs f.all) in
      let comes = sum-split width f.reach (λ s. length (near_slots f s)) (below count) in
      let slots : length (below count) * (width * (f.reach * 2)) ≡ count * (width * (f.reach * 2)) =
      ap (λ (n : ℕ). n * (width * (f.reach * 2))) (length-range_with_len 0 count) in
      let near_are : width * f.reach * near
      ≡ width * f.reach * sum_by (λ s. length (near_slots f s)) (below count) =
      ap (λ (n : ℕ). width * f.reach * n) is in
      let wires_are : 2 * (wires * (3 * f.reach + 1) + length (pairs f.all) * width)
      ≡ count * (width * ((f.reach + 1) * 2)) + count * (width * (f.reach * 2))
      + count * (width * (f.reach * 2)) + length (pairs f.all) * (width * 2) = omega arith in
      omega (
        arith,
        sum_by-append length (a ++ b ++ c ++ d ++ e) z,
        sum_by-append length (a ++ b ++ c ++ d) e,
        sum_by-append length (a ++ b ++ c) d,
        sum_by-append length (a ++ b) c,
        sum_by-append length a b,
        sinks-lits 0 route.nets,
        far-lits route,
        used-lits,
        stays-lits,
        comes-lits,
        apart-lits,
        comes,
        slots,
        near_are,
        wires_are,
      )
