-- The clauses that say from where wires are reached, by numbers of wires.
use Rattle.arrayvec.specs.ArrayVec.{ArrayVec}
use Rattle.std.proofs.Common.{◌≡◌, ℕ, ◌+◌, ◌*◌, ◌<◌, Option, Some, None, List, [], ◌∷◌, ◌++◌, length, get_or, take, refl, sym, ap, ◌∙◌, arith}
use Rattle.std.specs.Prelude.{All, filter_map, flat_map, is_some, map, option_map, slice_get}
use Rattle.std.specs.List.{cons_option}
use Rattle.std.specs.Option.{option_to_list}
use Rattle.std.proofs.lemmas.List.{append-nil, length-map}
use Rattle.std.proofs.lemmas.List.FromFn.{get_or-range_with_len, length-range_with_len}
use Rattle.std.proofs.lemmas.Option.{slice_get-map, slice_get_read}
use Rattle.list_laws.proofs.Members.{all-from_In, from_In-filter, from_In-range}
use Rattle.list_laws.proofs.Places.{get-there, some_is}
use Rattle.list_laws.proofs.Rows.{rows-alike}
use Rattle.fpga_graph.specs.Crossing.{GoesAcross, crossed_track}
use Rattle.fpga_graph.specs.GraphOf.{GraphOf}
use Rattle.fpga_graph.specs.declared.crossing.Crossing.{Crossing}
use Rattle.fpga_types.specs.Fabric.{meeting}
use Rattle.fpga_types.specs.Slots.{slot_at, slots}
use Rattle.fpga_types.specs.Tracks.{mapped_track, track_across}
use Rattle.fpga_types.specs.declared.problem.Slot.{Slot}
use Rattle.fpga_types.specs.declared.route.RouteText.{RouteText}
use Rattle.route_encode.specs.Encoding.{below, place_of}
use Rattle.route_encode.proofs.BitLemmas.{place-inside}
use Rattle.sat_clause.specs.declared.literal.Lit.{Lit}
use Rattle.route_encode.specs.Added.{graph_of}
use Rattle.fpga_types.specs.Problem.{RoutingProblem}
use Rattle.route_reach.specs.Encoding.{Frame, frame_of, comes_from_near, each_wire, near, reached, slots_in, unreached}
use Rattle.route_reach.specs.Near.{near_of, near_slots, rows_of}
use Rattle.route_reach.specs.WireClauses.{comes_clauses, slot_comes, wire_beside, wire_reached, wires_beside}
use Rattle.route_reach.proofs.RisingLemmas.{near-by-slots}
use Rattle.route_reach.proofs.SourceLemmas.{made-more}
use Rattle.route_reach.proofs.Wires.{from-slots_in}

-- the wire across a crossing, and none where there is no crossing
module _ (g : GraphOf) (all : List Slot) (s t r : ℕ) where
  pub beside-across : (c : Crossing)
      → GoesAcross g (slot_at all s).cell (slot_at all r).cell (Some c)
      → wire_beside g all s t r ≡ Some (place_of g.width r (crossed_track c t))
  beside-across c across = ap (option_map (place_of g.width r)) (sym (across t))

  pub beside-none : GoesAcross g (slot_at all s).cell (slot_at all r).cell None
      → wire_beside g all s t r ≡ None
  beside-none across = ap (option_map (place_of g.width r)) (sym (across t))

-- the literals of the wires near one, by their numbers
numbered-near : (place : ℕ → ℕ → ℕ) (h : ℕ → Option ℕ) (lit_of : ℕ → Lit) (rs : List ℕ)
    → map (λ (q : ℕ × ℕ). lit_of (place q.0 q.1))
    (flat_map (λ r. map (λ u. (r, u)) (option_to_list (h r))) rs)
    ≡ map lit_of (filter_map (λ r. option_map (place r) (h r)) rs)
numbered-near place h lit_of [] = refl
numbered-near place h lit_of (r ∷ rs) = go (h r) (numbered-near place h lit_of rs)
  where
    go : (o : Option ℕ) → map (λ (q : ℕ × ℕ). lit_of (place q.0 q.1))
        (flat_map (λ v. map (λ u. (v, u)) (option_to_list (h v))) rs)
        ≡ map lit_of (filter_map (λ v. option_map (place v) (h v)) rs)
        → map (λ (q : ℕ × ℕ). lit_of (place q.0 q.1)) (map (λ u. (r, u)) (option_to_list o)
        ++ flat_map (λ v. map (λ u. (v, u)) (option_to_list (h v))) rs)
        ≡ map lit_of (cons_option (option_map (place r) o)
        (filter_map (λ v. option_map (place v) (h v)) rs))
    go None rest = rest
    go (Some u) rest = ap (λ (ls : List Lit). lit_of (place r u) ∷ ls) rest

module _ (f : Frame) where
  abbrev graph : GraphOf
  graph = f.graph

  abbrev wires : ℕ
  wires = let g : GraphOf = f.graph in length f.all * g.width

  comes-numbered : (s t : ℕ) → (let g : GraphOf = f.graph in t < g.width)
      → comes_from_near f s t ≡ (let g : GraphOf = f.graph in comes_clauses wires f.reach
      (place_of g.width s t) (wires_beside g f.all (near_slots f s) s t))
  comes-numbered s t low = λ i.
      map (λ d. unreached f s t (d + 1) ∷ reached f s t d ∷ tail d i) (below f.reach)
    where
      tail : (d : ℕ) → map (λ q. reached f q.0 q.1 d) (near f s t)
          ≡ (let g : GraphOf = f.graph in map (λ b. wire_reached wires f.reach b d)
          (wires_beside g f.all (near_slots f s) s t))
      tail d = let g : GraphOf = f.graph in
          ap (map (λ (q : ℕ × ℕ). reached f q.0 q.1 d)) (near-by-slots f s t low)
          ∙ numbered-near (place_of g.width)
          (λ r. track_across (mapped_track g.arch.pattern g.width) g.grid (slot_at f.all s).cell
          (slot_at f.all r).cell t) (λ b. wire_reached wires f.reach b d) (near_slots f s)

  -- slot by slot
  pub comes-by-slot : each_wire f (comes_from_near f)
      ≡ flat_map (λ s. slot_comes wires f.reach graph f.all (near_slots f s) s)
      (below (length f.all))
  comes-by-slot = λ i. flat_map (λ s. row s i) (below (length f.all))
    where
      row : (s : ℕ) → (let g : GraphOf = f.graph in
          flat_map (comes_from_near f s) (below g.width))
          ≡ slot_comes wires f.reach graph f.all (near_slots f s) s
      row s = let g : GraphOf = f.graph in
          rows-alike (comes_from_near f s) (λ t. comes_clauses wires f.reach
          (place_of g.width s t) (wires_beside g f.all (near_slots f s) s t)) (below g.width)
          (λ t i. let r = from_In-range 0 g.width t i in
          comes-numbered s t (omega (arith, r.1)))

-- ---- the table

pub table-long : (route : RouteText) (table : List (ArrayVec ℕ))
    → rows_of table ≡ map (near_of route) (below (length (slots route)))
    → length table ≡ length (slots route)
table-long route table is =
    sym (length-map table (λ (row : ArrayVec ℕ). row.items)) ∙ ap length is
    ∙ length-map (below (length (slots route))) (near_of route)
    ∙ length-range_with_len 0 (length (slots route))

pub table-row : (route : RouteText) (table : List (ArrayVec ℕ)) (s : ℕ) (row : ArrayVec ℕ)
    → rows_of table ≡ map (near_of route) (below (length (slots route))) → s < length (slots route)
    → row ≡ get_or table s row → row.items ≡ near_of route s
table-row route table s row is low at =
    let long = table-long route table is in
    let here : slice_get table s ≡ Some row =
    slice_get_read table (length table) s row refl (omega (arith, low, long)) at in
    let number : slice_get (below (length (slots route))) s ≡ Some s =
    get-there (below (length (slots route))) s s 0
    (omega (arith, low, length-range_with_len 0 (length (slots route))))
    (sym (get_or-range_with_len 0 (length (slots route)) s 0 low ∙ (omega arith))) in
    some_is (sym (slice_get-map (λ (r : ArrayVec ℕ). r.items) table s
    ∙ ap (option_map (λ (r : ArrayVec ℕ). r.items)) here)
    ∙ ap (λ (rows : List (List ℕ)). slice_get rows s) is
    ∙ slice_get-map (near_of route) (below (length (slots route))) s
    ∙ ap (option_map (near_of route)) number)

-- the slots near one are slots of the route
pub near-within : (route : RouteText) (s : ℕ)
    → All (λ r. r < length (slots route)) (near_of route s)
near-within route s =
    all-from_In (λ r. r < length (slots route)) (near_of route s) (λ r i. (from-slots_in
    (slots route) (slot_at (slots route) s).net r (from_In-filter
    (λ q. is_some (meeting route.grid (slot_at (slots route) s).cell
    (slot_at (slots route) q).cell))
    (slots_in (slots route) (slot_at (slots route) s).net) r i).0).0)

-- the number of a wire is below those of all
pub place-below : (count width r u : ℕ) → r < count → u < width
    → place_of width r u < count * width
place-below count width r u low within = place-inside count width r u low within

-- the wires beside one, with one slot more
module _ (g : GraphOf) (all : List Slot) (s t : ℕ) (near : List ℕ) (i r : ℕ) (items : List ℕ)
    (here : slice_get near i ≡ Some r) (so_far : items ≡ wires_beside g all (take i near) s t) where
  pub beside-more : (n : ℕ) (new : List ℕ) → wire_beside g all s t r ≡ Some n
      → new ≡ items ++ n ∷ [] → new ≡ wires_beside g all (take (i + 1) near) s t
  beside-more n new is pushed =
      pushed ∙ sym (made-more (wire_beside g all s t) near i r here ∙ rw (is, ← so_far) refl)

  pub beside-same : wire_beside g all s t r ≡ None
      → items ≡ wires_beside g all (take (i + 1) near) s t
  beside-same is = sym (made-more (wire_beside g all s t) near i r here ∙ rw (is, ← so_far)
      (append-nil items))

-- the clauses of a problem, slot by slot
pub comes-for : (width reach : ℕ) (p : RoutingProblem) (wires : ℕ) (g : GraphOf)
    → g ≡ graph_of width p → wires ≡ length (slots p.route) * width
    → each_wire (frame_of width reach p) (comes_from_near (frame_of width reach p))
    ≡ flat_map (λ s. slot_comes wires reach g (slots p.route) (near_of p.route s) s)
    (below (length (slots p.route)))
comes-for width reach p wires g same count =
    rw (same, count) (comes-by-slot (frame_of width reach p))
