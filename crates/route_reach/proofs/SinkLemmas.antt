-- The clauses of sinks, line by line and by numbers of wires.
use Rattle.std.proofs.Common.{◌≡◌, ℕ, zero, suc, ◌+◌, ◌-◌, ◌*◌, ◌<◌, ◌≤◌, Bool, true, false, Option, Some, None, List, [], ◌∷◌, ◌++◌, length, get_or, take, append_assoc, refl, sym, ap, subst, ◌∙◌, arith}
use Rattle.std.specs.Prelude.{◌&&◌, All, filter, filter_map, flat_map, map, option_map, slice_get, slice_index_or}
use Rattle.std.specs.List.{cons_option, enumerate_from}
use Rattle.std.specs.Option.{option_to_list}
use Rattle.std.proofs.lemmas.List.{map-append}
use Rattle.std.proofs.lemmas.Option.{get_or_from_slice_get, slice_get_within}
use Rattle.list_laws.proofs.Members.{all-from_In, from_In-filter}
use Rattle.list_laws.proofs.Numbered.{numbered-here}
use Rattle.list_laws.proofs.Rows.{rows-alike}
use Rattle.fpga_graph.specs.GraphOf.{GraphOf}
use Rattle.fpga_graph.specs.Wires.{opened_tracks}
use Rattle.fpga_types.specs.Boxes.{opens}
use Rattle.fpga_types.specs.Slots.{adjacent, numbered_nets, slot_at, slots}
use Rattle.fpga_types.specs.Touching.{touches}
use Rattle.fpga_types.specs.declared.grid.PinAt.{PinAt}
use Rattle.fpga_types.specs.declared.problem.Slot.{Slot}
use Rattle.fpga_types.specs.declared.route.RouteNet.{RouteNet}
use Rattle.fpga_types.specs.declared.route.RouteText.{RouteText}
use Rattle.fpga_types.specs.Problem.{RoutingProblem}
use Rattle.route_encode.specs.Added.{graph_of}
use Rattle.sat_clause.specs.FormulaStore.{FormulaState}
use Rattle.sat_clause.specs.Literal.{Clause}
use Rattle.sat_clause.specs.declared.literal.Lit.{Lit}
use Rattle.route_encode.specs.Adding.{Adds, HasRoom}
use Rattle.route_encode.specs.Encoding.{below, place_of}
use Rattle.route_encode.proofs.AddLemmas.{adds-more, room-next}
use Rattle.route_reach.specs.Encoding.{Frame, frame_of, reached, sink_clause, sinks_reached, slots_in, tracks_to}
use Rattle.route_reach.specs.Ends.{sink_pin}
use Rattle.route_reach.specs.Near.{touched_slots}
use Rattle.route_reach.specs.SinkClauses.{lines_clauses, sink_lits, slot_lits}
use Rattle.route_reach.specs.WireClauses.{wire_reached}
use Rattle.route_reach.proofs.CountSteps.{kept-more, kept-same}
use Rattle.route_reach.proofs.RisingLemmas.{rows-kept}
use Rattle.route_reach.proofs.Wires.{from-slots_in}

-- the literals of a slot, by the marks of the tracks that a pin opens
pub slot-opened : (wires reach : ℕ) (g : GraphOf) (pin : PinAt) (width : ℕ) (marks : List Bool)
    → g.width ≡ width
    → ((t : ℕ) → slice_index_or marks t false ≡ opens g.arch g.width pin t) → (s : ℕ)
    → slot_lits wires reach width marks s
    ≡ map (λ t. wire_reached wires reach (place_of g.width s t) reach) (opened_tracks g pin)
slot-opened wires reach g pin width marks same h s =
    subst (λ (w : ℕ). slot_lits wires reach w marks s
    ≡ map (λ t. wire_reached wires reach (place_of g.width s t) reach) (opened_tracks g pin)) same
    (λ i. map (λ t. wire_reached wires reach (place_of g.width s t) reach)
    (filter (λ t. h t i) (below g.width)))

pub lits-opened : (wires reach : ℕ) (g : GraphOf) (all : List Slot) (n : ℕ) (pin : PinAt)
    (width : ℕ) (marks : List Bool) → g.width ≡ width
    → ((t : ℕ) → slice_index_or marks t false ≡ opens g.arch g.width pin t)
    → flat_map (slot_lits wires reach width marks) (touched_slots g all n pin)
    ≡ sink_lits wires reach g all n pin
lits-opened wires reach g all n pin width marks same h = λ i.
    flat_map (λ s. slot-opened wires reach g pin width marks same h s i)
    (touched_slots g all n pin)

-- the slots that a pin touches are there
pub touched-within : (g : GraphOf) (all : List Slot) (n : ℕ) (pin : PinAt)
    → All (λ s. s < length all) (touched_slots g all n pin)
touched-within g all n pin =
    all-from_In (λ s. s < length all) (touched_slots g all n pin) (λ s i.
    (from-slots_in all n s (from_In-filter
    (λ r. touches g.arch g.grid pin (slot_at all r).cell) (slots_in all n) s i).0).0)

-- lines that stand next to each other
pub next-at : {T : Type 0} (xs : List T) (k : ℕ) (d : T) → suc k < length xs
    → slice_get (adjacent xs) k ≡ Some (get_or xs k d, get_or xs (suc k) d)
next-at [] k d h = absurd (omega (arith, h))
next-at (x ∷ []) k d h = absurd (omega (arith, h))
next-at (x ∷ y ∷ ys) zero d h = refl
next-at (x ∷ y ∷ ys) (suc k) d h = next-at (y ∷ ys) k d (omega (arith, h))

length-adjacent : {T : Type 0} (xs : List T) → length (adjacent xs) ≤ length xs - 1
length-adjacent [] = omega arith
length-adjacent (x ∷ []) = omega arith
length-adjacent (x ∷ y ∷ ys) = omega (arith, length-adjacent (y ∷ ys))

-- what is made of those that are found, one by one
made-lines : {A B C : Type 0} (g h : B → C) (k : A → Option B) (xs : List A)
    → ((y : B) → g y ≡ h y) → map g (filter_map k xs)
    ≡ flat_map (λ x. option_to_list (option_map h (k x))) xs
made-lines g h k [] same = refl
made-lines {A} {B} {C} g h k (x ∷ xs) same = go (k x) (made-lines g h k xs same)
  where
    go : (o : Option B)
        → map g (filter_map k xs) ≡ flat_map (λ z. option_to_list (option_map h (k z))) xs
        → map g (cons_option o (filter_map k xs)) ≡ option_to_list (option_map h o)
        ++ flat_map (λ z. option_to_list (option_map h (k z))) xs
    go None rest = rest
    go (Some y) rest = λ i. same y i ∷ rest i

-- the literals after one track more
module _ (wires reach width : ℕ) (marks : List Bool) (s t : ℕ) (start old new : List Lit)
    (so_far : old ≡ start ++ map (λ u. wire_reached wires reach (place_of width s u) reach)
    (filter (λ u. slice_index_or marks u false) (below t))) where
  pub track-more : slice_index_or marks t false ≡ true
      → new ≡ old ++ wire_reached wires reach (place_of width s t) reach ∷ []
      → new ≡ start ++ map (λ u. wire_reached wires reach (place_of width s u) reach)
      (filter (λ u. slice_index_or marks u false) (below (t + 1)))
  track-more is pushed =
      let f : ℕ → Lit = λ u. wire_reached wires reach (place_of width s u) reach in
      let kept = filter (λ u. slice_index_or marks u false) (below t) in
      pushed ∙ ap (λ (ls : List Lit). ls ++ f t ∷ []) so_far
      ∙ append_assoc start (map f kept) (f t ∷ [])
      ∙ ap (λ (ls : List Lit). start ++ ls) (sym (ap (map f)
      (kept-more (λ u. slice_index_or marks u false) t is) ∙ map-append f kept (t ∷ [])))

  pub track-same : slice_index_or marks t false ≡ false → new ≡ old
      → new ≡ start ++ map (λ u. wire_reached wires reach (place_of width s u) reach)
      (filter (λ u. slice_index_or marks u false) (below (t + 1)))
  track-same is same =
      let f : ℕ → Lit = λ u. wire_reached wires reach (place_of width s u) reach in
      same ∙ so_far ∙ ap (λ (ls : List Lit). start ++ ls) (sym (ap (map f)
      (kept-same (λ u. slice_index_or marks u false) t is)))

-- the clause of a sink, by numbers of wires
module _ (f : Frame) where
  abbrev wires : ℕ
  wires = let g : GraphOf = f.graph in length f.all * g.width

  pub sink-numbered : (n : ℕ) (pin : PinAt)
      → sink_clause f n pin ≡ sink_lits wires f.reach f.graph f.all n pin
  sink-numbered n pin =
      let g : GraphOf = f.graph in
      rows-kept (λ s. touches g.arch g.grid pin (slot_at f.all s).cell)
      (λ s. map (λ t. reached f s t f.reach) (tracks_to f pin s)) (slots_in f.all n)
      (λ s apart. ap (map (λ t. reached f s t f.reach))
      (none (touches g.arch g.grid pin (slot_at f.all s).cell) apart
      (opens g.arch g.width pin) (below g.width)))
      ∙ rows-alike (λ s. map (λ t. reached f s t f.reach) (tracks_to f pin s))
      (λ s. map (λ t. wire_reached wires f.reach (place_of g.width s t) f.reach)
      (opened_tracks g pin)) (touched_slots g f.all n pin)
      (λ s i. ap (map (λ t. reached f s t f.reach))
      (all-of (touches g.arch g.grid pin (slot_at f.all s).cell)
      (from_In-filter (λ r. touches g.arch g.grid pin (slot_at f.all r).cell)
      (slots_in f.all n) s i).1 (opens g.arch g.width pin) (below g.width)))
    where
      none : (b : Bool) → b ≡ false → (q : ℕ → Bool) (ts : List ℕ)
          → filter (λ t. b && q t) ts ≡ []
      none true e q ts = cc
      none false e q [] = refl
      none false e q (t ∷ ts) = none false e q ts

      all-of : (b : Bool) → b ≡ true → (q : ℕ → Bool) (ts : List ℕ)
          → filter (λ t. b && q t) ts ≡ filter q ts
      all-of true e q ts = refl
      all-of false e q ts = cc

  -- the clauses of an ordinary net, line by line
  pub sinks-by-line : (n : ℕ) (net : RouteNet) → net.global ≡ false
      → sinks_reached f (n, net) ≡ lines_clauses wires f.reach f.graph f.all n net.elems
  sinks-by-line n net ordinary =
      rw ordinary (made-lines (sink_clause f n) (sink_lits wires f.reach f.graph f.all n) sink_pin
      (adjacent net.elems) (sink-numbered n))

  pub sinks-none : (n : ℕ) (net : RouteNet) → net.global ≡ true → sinks_reached f (n, net) ≡ []
  sinks-none n net global = rw global refl

-- two lines of a net that stand next to each other
pub pair-at : {T : Type 0} (xs : List T) (i : ℕ) (d : T) → 1 ≤ i → i < length xs
    → slice_get (adjacent xs) (i - 1) ≡ Some (get_or xs (i - 1) d, get_or xs i d)
pair-at xs zero d low high = absurd (omega (arith, low))
pair-at xs (suc k) d low high =
    let before : suc k - 1 ≡ k = omega arith in rw before (next-at xs k d high)

-- clauses that are added part by part, by what stands at a place
module _ {X : Type 0} (g : X → List Clause) (xs : List X) (k : ℕ) (x : X)
    (here : slice_get xs k ≡ Some x) (a b : FormulaState)
    (so_far : Adds a (flat_map g (take k xs)) b) where
  pub room-at : HasRoom a (flat_map g xs) → HasRoom b (g x)
  room-at h = subst (λ (y : X). HasRoom b (g y)) (get_or_from_slice_get xs k x x here)
      (room-next g xs k x (slice_get_within xs k x here) a b h so_far)

  pub adds-at : (c : FormulaState) → Adds b (g x) c → Adds a (flat_map g (take (k + 1) xs)) c
  adds-at c h = adds-more g xs k x (slice_get_within xs k x here) a b c so_far
      (subst (λ (y : X). Adds b (g y) c) (sym (get_or_from_slice_get xs k x x here)) h)

-- all lines were looked at
pub whole-adjacent : {T : Type 0} (xs : List T) (i : ℕ) → length xs ≤ i
    → take (i - 1) (adjacent xs) ≡ adjacent xs
whole-adjacent xs i h =
    let long = length-adjacent xs in take-whole (adjacent xs) (i - 1) (omega (arith, long, h))
  where
    take-whole : {T : Type 0} (ys : List T) (n : ℕ) → length ys ≤ n → take n ys ≡ ys
    take-whole [] n h = none n
      where
        none : {T : Type 0} (n : ℕ) → take {A = T} n [] ≡ []
        none zero = refl
        none (suc n) = refl
    take-whole (y ∷ ys) zero h = absurd (omega (arith, h))
    take-whole (y ∷ ys) (suc n) h = ap (λ zs. y ∷ zs) (take-whole ys n (omega (arith, h)))

-- the nets of a route with their positions
pub numbered-at : (route : RouteText) (n : ℕ) (net : RouteNet) → slice_get route.nets n ≡ Some net
    → slice_get (numbered_nets route) n ≡ Some (n, net)
numbered-at route n net here =
    numbered-here 0 route.nets n net here
    ∙ (let z : 0 + n ≡ n = omega arith in ap (λ (k : ℕ). Some (k, net)) z)

pub length-numbered : (a : ℕ) (nets : List RouteNet)
    → length (enumerate_from a nets) ≡ length nets
length-numbered a [] = refl
length-numbered a (net ∷ nets) = ap suc (length-numbered (a + 1) nets)

-- the clauses of an ordinary net of a problem
pub lines-for : (width reach : ℕ) (p : RoutingProblem) (wires : ℕ) (g : GraphOf) (all : List Slot)
    (n : ℕ) (net : RouteNet) → g ≡ graph_of width p → all ≡ slots p.route
    → wires ≡ length all * width → net.global ≡ false
    → sinks_reached (frame_of width reach p) (n, net) ≡ lines_clauses wires reach g all n net.elems
lines-for width reach p wires g all n net same_graph same_slots count ordinary =
    rw (count, same_graph, same_slots) (sinks-by-line (frame_of width reach p) n net ordinary)
