-- The slots of some nets, with one element more.
use Rattle.std.proofs.Common.{◌≡◌, ℕ, suc, ◌+◌, Bool, true, false, cond, Option, Some, None, List, [], ◌∷◌, ◌++◌, length, take, refl, sym, ap, subst, ◌∙◌, zero-add, append_assoc}
use Rattle.std.specs.Prelude.{◌&&◌, ◌||◌, ◌==◌, not, filter, filter_map, flat_map, slice_get, option_map}
use Rattle.std.proofs.Math.Bool.{or-true}
use Rattle.std.specs.List.{list_any, enumerate_from, cons_option}
use Rattle.std.specs.Option.{option_map_or}
use Rattle.std.proofs.lemmas.Bool.{false≢true}
use Rattle.std.proofs.lemmas.Bool.Decides.{Decides-eqb}
use Rattle.std.proofs.lemmas.Grind.{flat_map-append}
use Rattle.std.proofs.lemmas.List.{append-nil}
use Rattle.std.proofs.lemmas.List.Elements.{filter_map-append}
use Rattle.std.proofs.lemmas.List.Folds.{list_any-append}
use Rattle.list_laws.proofs.Numbered.{enumerate-push}
use Rattle.list_laws.proofs.Places.{take-get}
use Rattle.fpga_types.specs.Fit.{same_place, same_elem}
use Rattle.fpga_types.specs.Kinds.{same_kind, is_channel, same_label}
use Rattle.fpga_types.specs.Slots.{first_seen, channel_at, elem_slot, same_slot, slots_of}
use Rattle.fpga_types.specs.declared.grid.Cell.{Cell}
use Rattle.fpga_types.specs.declared.problem.Slot.{Slot}
use Rattle.fpga_types.specs.declared.route.Elem.{Elem}
use Rattle.fpga_types.specs.declared.route.ElemKind.{ElemKind}
use Rattle.fpga_types.specs.declared.route.ElemKind.TheVariants.{Source, Opin, ChanX, ChanY, Ipin, Sink}
use Rattle.fpga_types.specs.declared.route.RouteNet.{RouteNet}
use Rattle.fpga_types.proofs.MeetingLemmas.{both_true}
use Rattle.fpga_types.proofs.SlotLemmas.{first_seen-push}
use Rattle.fpga_bounds.specs.SlotTable.{with_slot}
use Rattle.fpga_bounds.specs.NetFit.{with_elem, slots_so_far}
use Rattle.fpga_bounds.proofs.SlotTableLemmas.{same_slot-is, same_slot-itself, same_slot-swap}

-- the slot of each channel line, as often as it stands there
abbrev pub channel_slots : List RouteNet → List Slot
channel_slots nets = flat_map (λ n. filter_map (elem_slot n.0) n.1.elems) (enumerate_from 0 nets)

-- one net more brings the slots of its channel lines
pub channel_slots-push : (nets : List RouteNet) (net : RouteNet) → channel_slots (nets ++ net ∷ [])
    ≡ channel_slots nets ++ filter_map (elem_slot (length nets)) net.elems
channel_slots-push nets net =
    rw (
      enumerate-push 0 nets net,
      flat_map-append (λ (n : ℕ × RouteNet). filter_map (elem_slot n.0) n.1.elems)
          (enumerate_from 0 nets) ((0 + length nets, net) ∷ []),
      zero-add,
    )
    (ap (λ zs. channel_slots nets ++ zs)
    (append-nil (filter_map (elem_slot (length nets)) net.elems)))

-- what is left out as seen already is no other slot
any-filter : (s y : Slot) (xs : List Slot) → same_slot s y ≡ false
    → list_any (same_slot s) (filter (λ z. not (same_slot y z)) xs) ≡ list_any (same_slot s) xs
any-filter s y [] h = refl
any-filter s y (x ∷ xs) h = go (same_slot y x) (same_slot s x) refl refl (any-filter s y xs h)
  where
    go : (b d : Bool) → same_slot y x ≡ b → same_slot s x ≡ d
        → list_any (same_slot s) (filter (λ z. not (same_slot y z)) xs) ≡ list_any (same_slot s) xs
        → list_any (same_slot s) (cond (not b) (x ∷ filter (λ z. not (same_slot y z)) xs)
        (filter (λ z. not (same_slot y z)) xs)) ≡ (d || list_any (same_slot s) xs)
    go true true e f g =
        absurd (false≢true (sym h ∙ subst (λ (z : Slot). same_slot s z ≡ true)
        (sym (same_slot-is y x e)) f))
    go true false e f g = g
    go false d e f g = rw (f, g) refl

-- a slot is among those first seen where it is among all
pub any-first_seen : (s : Slot) (xs : List Slot) → list_any (same_slot s) (first_seen same_slot xs)
    ≡ list_any (same_slot s) xs
any-first_seen s [] = refl
any-first_seen s (x ∷ xs) = go (same_slot s x) refl (any-first_seen s xs)
  where
    go : (b : Bool) → same_slot s x ≡ b → list_any (same_slot s) (first_seen same_slot xs)
        ≡ list_any (same_slot s) xs
        → (b || list_any (same_slot s)
        (filter (λ z. not (same_slot x z)) (first_seen same_slot xs)))
        ≡ (b || list_any (same_slot s) xs)
    go true e g = refl
    go false e g = any-filter s x (first_seen same_slot xs) e ∙ g

any-swap : (s : Slot) (xs : List Slot) → list_any (λ y. same_slot y s) xs
    ≡ list_any (same_slot s) xs
any-swap s [] = refl
any-swap s (x ∷ xs) = rw (same_slot-swap x s, any-swap s xs) refl

-- one slot more among those first seen
pub first_seen-with : (xs : List Slot) (s : Slot) → first_seen same_slot (xs ++ s ∷ [])
    ≡ with_slot (first_seen same_slot xs) s
first_seen-with xs s =
    rw (first_seen-push same_slot xs s, any-swap s xs, ← any-first_seen s xs) refl

first_seen-elem : (xs : List Slot) (n : ℕ) (e : Elem)
    → first_seen same_slot (xs ++ filter_map (elem_slot n) (e ∷ []))
    ≡ with_elem (first_seen same_slot xs) n e
first_seen-elem xs n e = go (elem_slot n e)
  where
    go : (o : Option Slot) → first_seen same_slot (xs ++ filter_map (λ (_ : Elem). o) (e ∷ []))
        ≡ option_map_or (with_slot (first_seen same_slot xs)) o (first_seen same_slot xs)
    go None = rw (append-nil xs) refl
    go (Some s) = first_seen-with xs s

-- one element more among those that are read
pub slots-step : (earlier : List RouteNet) (net : RouteNet) (i : ℕ) (e : Elem)
    → slice_get net.elems i ≡ Some e
    → slots_so_far earlier net (suc i) ≡ with_elem (slots_so_far earlier net i) (length earlier) e
slots-step earlier net i e h =
    rw (
      take-get net.elems i e h,
      channel_slots-push earlier (record net { elems = take i net.elems ++ e ∷ [] }),
      channel_slots-push earlier (record net { elems = take i net.elems }),
      filter_map-append (elem_slot (length earlier)) (take i net.elems) (e ∷ []),
      ← append_assoc (channel_slots earlier)
          (filter_map (elem_slot (length earlier)) (take i net.elems))
          (filter_map (elem_slot (length earlier)) (e ∷ [])),
    )
    (first_seen-elem (channel_slots earlier ++ filter_map (elem_slot (length earlier))
    (take i net.elems)) (length earlier) e)

-- before the first element the slots are those of the earlier nets
pub slots-start : (earlier : List RouteNet) (net : RouteNet) → slots_so_far earlier net 0
    ≡ slots_of earlier
slots-start earlier net =
    rw (channel_slots-push earlier (record net { elems = [] }), append-nil (channel_slots earlier))
    refl

same_channel : (k m : ElemKind) (x y : ℕ) (c : Cell) → channel_at k x y ≡ Some c → same_kind k m
    ≡ true → channel_at m x y ≡ Some c
same_channel Source m x y c h g = cc
same_channel Opin m x y c h g = cc
same_channel Ipin m x y c h g = cc
same_channel Sink m x y c h g = cc
same_channel ChanX Source x y c h g = absurd (false≢true g)
same_channel ChanX Opin x y c h g = absurd (false≢true g)
same_channel ChanX ChanX x y c h g = h
same_channel ChanX ChanY x y c h g = absurd (false≢true g)
same_channel ChanX Ipin x y c h g = absurd (false≢true g)
same_channel ChanX Sink x y c h g = absurd (false≢true g)
same_channel ChanY Source x y c h g = absurd (false≢true g)
same_channel ChanY Opin x y c h g = absurd (false≢true g)
same_channel ChanY ChanX x y c h g = absurd (false≢true g)
same_channel ChanY ChanY x y c h g = h
same_channel ChanY Ipin x y c h g = absurd (false≢true g)
same_channel ChanY Sink x y c h g = absurd (false≢true g)

-- an element that equals one with a slot has that slot
same_elem-slot : (n : ℕ) (e x : Elem) (s : Slot) → elem_slot n e ≡ Some s → same_elem e x ≡ true
    → elem_slot n x ≡ Some s
same_elem-slot n e x s h g =
    let parts = both_true (same_kind e.kind x.kind && same_place e x)
    (is_channel e.kind || e.number == x.number) g in
    let kinds = both_true (same_kind e.kind x.kind) (same_place e x) parts.0 in
    let places = both_true (e.x == x.x && e.y == x.y) (same_label e.label x.label) kinds.1 in
    let sides = both_true (e.x == x.x) (e.y == x.y) places.0 in
    let at_x : e.x ≡ x.x = (Decides-eqb e.x x.x).0 sides.0 in
    let at_y : e.y ≡ x.y = (Decides-eqb e.y x.y).0 sides.1 in
    rw (← at_x, ← at_y) (go (channel_at e.kind e.x e.y) refl h kinds.0)
  where
    go : (o : Option Cell) → channel_at e.kind e.x e.y ≡ o
        → option_map {T = Cell} {U = Slot} (λ cell. record { net = n; cell = cell }) o ≡ Some s
        → same_kind e.kind x.kind ≡ true
        → option_map {T = Cell} {U = Slot} (λ cell. record { net = n; cell = cell })
        (channel_at x.kind e.x e.y) ≡ Some s
    go None f k j = cc
    go (Some c) f k j = rw (same_channel e.kind x.kind e.x e.y c f j) k

-- an element that comes again brings no new slot
pub again-any : (n : ℕ) (e : Elem) (s : Slot) (xs : List Elem) → elem_slot n e ≡ Some s
    → list_any (same_elem e) xs ≡ true → list_any (same_slot s) (filter_map (elem_slot n) xs) ≡ true
again-any n e s [] h g = absurd (false≢true g)
again-any n e s (x ∷ xs) h g = go (same_elem e x) refl g (again-any n e s xs h)
  where
    later : (o : Option Slot) → list_any (same_slot s) (filter_map (elem_slot n) xs) ≡ true
        → list_any (same_slot s) (cons_option o (filter_map (elem_slot n) xs)) ≡ true
    later None f = f
    later (Some y) f = rw (f, or-true (same_slot s y)) refl

    go : (b : Bool) → same_elem e x ≡ b → (b || list_any (same_elem e) xs) ≡ true
        → (list_any (same_elem e) xs ≡ true → list_any (same_slot s) (filter_map (elem_slot n) xs)
        ≡ true)
        → list_any (same_slot s) (cons_option (elem_slot n x) (filter_map (elem_slot n) xs)) ≡ true
    go true f k more = rw (same_elem-slot n e x s h f, same_slot-itself s) refl
    go false f k more = later (elem_slot n x) (more k)

-- an element that comes again has its slot among those so far
pub again-slot : (earlier : List RouteNet) (net : RouteNet) (i : ℕ) (e : Elem) (s : Slot)
    → elem_slot (length earlier) e ≡ Some s → list_any (same_elem e) (take i net.elems) ≡ true
    → list_any (same_slot s) (slots_so_far earlier net i) ≡ true
again-slot earlier net i e s h g =
    rw (
      channel_slots-push earlier (record net { elems = take i net.elems }),
      any-first_seen s (channel_slots earlier ++ filter_map (elem_slot (length earlier))
          (take i net.elems)),
      list_any-append (same_slot s) (channel_slots earlier)
          (filter_map (elem_slot (length earlier)) (take i net.elems)),
      again-any (length earlier) e s (take i net.elems) h g,
    )
    (or-true (list_any (same_slot s) (channel_slots earlier)))
