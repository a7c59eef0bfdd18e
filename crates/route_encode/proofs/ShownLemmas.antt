-- A route with tracks shows these tracks.
use Rattle.std.proofs.Common.{◌≡◌, ℕ, ◌+◌, ◌<◌, Bool, true, false, cond, Option, Some, None, List, [], ◌∷◌, length, refl, sym, ap, subst, ◌∙◌, inl, inr, arith}
use Rattle.std.specs.Prelude.{find, map, slice_get, slice_index, option_and_then}
use Rattle.std.specs.List.{list_any}
use Rattle.std.specs.Option.{option_map_or}
use Rattle.std.proofs.lemmas.Bool.{false≢true}
use Rattle.std.proofs.lemmas.List.{ext_get_or, get_or-map, length-map}
use Rattle.list_laws.proofs.Members.{In}
use Rattle.list_laws.proofs.Numbered.{made_numbered}
use Rattle.fpga_types.specs.Legal.{is_of_slot, route_of, track_in, tracks_of, with_track}
use Rattle.fpga_types.specs.Slots.{NO_SLOT, elem_slot, same_slot, slot_at, slot_number, slots}
use Rattle.fpga_types.specs.declared.problem.Slot.{Slot}
use Rattle.fpga_types.specs.declared.route.Elem.{Elem}
use Rattle.fpga_types.specs.declared.route.RouteNet.{RouteNet}
use Rattle.fpga_types.specs.declared.route.RouteText.{RouteText}
use Rattle.fpga_bounds.proofs.PairLemmas.{slots-distinct}
use Rattle.fpga_bounds.proofs.SlotLines.{number-there, slot-among, slot-line}
use Rattle.fpga_bounds.proofs.SlotTableLemmas.{same_slot-is, same_slot-itself}

-- an element of a retracked net is of the same slot
with_track-slot : (all : List Slot) (tracks : List ℕ) (n : ℕ) (e : Elem)
    → elem_slot n (with_track all tracks n e) ≡ elem_slot n e
with_track-slot all tracks n e = go (elem_slot n e)
  where
    go : (o : Option Slot)
        → elem_slot n
        (option_map_or
        (λ slot. record e { number = slice_index tracks (slot_number all slot) }) o e)
        ≡ elem_slot n e
    go None = refl
    go (Some s) = refl

-- an element of a slot has the slot's track once it is retracked
with_track-number : (all : List Slot) (tracks : List ℕ) (n : ℕ) (e : Elem) (s : Slot)
    → elem_slot n e ≡ Some s → (with_track all tracks n e).number
    ≡ slice_index tracks (slot_number all s)
with_track-number all tracks n e s h = rw h refl

is_of_slot-is : (s : Slot) (e : Elem) → is_of_slot s e ≡ true → elem_slot s.net e ≡ Some s
is_of_slot-is s e h = go (elem_slot s.net e) h
  where
    go : (o : Option Slot) → option_map_or (same_slot s) o false ≡ true → o ≡ Some s
    go None h = absurd (false≢true h)
    go (Some t) h = ap (λ (u : Slot). Some u) (sym (same_slot-is s t h))

is_of_slot-itself : (s : Slot) (e : Elem) → elem_slot s.net e ≡ Some s → is_of_slot s e ≡ true
is_of_slot-itself s e h = rw (h, same_slot-itself s) refl

-- the first element of a slot in a retracked net has the slot's track
found-number : (all : List Slot) (tracks : List ℕ) (s : Slot) (elems : List Elem) (e : Elem)
    → In elems e → elem_slot s.net e ≡ Some s
    → option_map_or (λ (f : Elem). f.number)
    (find (is_of_slot s) (map (with_track all tracks s.net) elems)) 0
    ≡ slice_index tracks (slot_number all s)
found-number all tracks s [] e i h = absurd i
found-number all tracks s (f ∷ elems) e i h =
    go (is_of_slot s (with_track all tracks s.net f)) refl
    (λ there. found-number all tracks s elems e there h)
  where
    same : is_of_slot s (with_track all tracks s.net f) ≡ is_of_slot s f
    same = ap (λ (o : Option Slot). option_map_or (same_slot s) o false)
        (with_track-slot all tracks s.net f)

    go : (b : Bool) → is_of_slot s (with_track all tracks s.net f) ≡ b
        → (In elems e → option_map_or (λ (g : Elem). g.number)
        (find (is_of_slot s) (map (with_track all tracks s.net) elems)) 0
        ≡ slice_index tracks (slot_number all s))
        → option_map_or (λ (g : Elem). g.number)
        (cond b (Some (with_track all tracks s.net f))
        (find (is_of_slot s) (map (with_track all tracks s.net) elems))) 0
        ≡ slice_index tracks (slot_number all s)
    go true g more = with_track-number all tracks s.net f s (is_of_slot-is s f (sym same ∙ g))
    go false g more = elim i [
      | inl here ↦ absurd
          (false≢true (sym g ∙ same
          ∙ is_of_slot-itself s f (subst (λ (x : Elem). elem_slot s.net x ≡ Some s) (sym here) h)))
      | inr there ↦ more there
    ]

-- a slot's track in the route with tracks
track-shown : (route : RouteText) (tracks : List ℕ) (s : Slot)
    → list_any (same_slot s) (slots route) ≡ true → track_in (route_of route tracks) s
    ≡ slice_index tracks (slot_number (slots route) s)
track-shown route tracks s h =
    let there = slot-line route s h in
    let all : List Slot = slots route in
    let retracked : ℕ × RouteNet → RouteNet =
    λ n. (let net : RouteNet = n.1 in
    record net { elems = map (with_track all tracks n.0) net.elems }) in
    let number : 0 + s.net ≡ s.net = omega arith in
    let at_net : slice_get (route_of route tracks).nets s.net
    ≡ Some (retracked (s.net, there.net)) =
    made_numbered retracked 0 route.nets s.net there.net there.here
    ∙ ap (λ (n : ℕ). Some (retracked (n, there.net))) number in
    ap (λ (o : Option RouteNet). option_map_or (λ (e : Elem). e.number)
    (option_and_then (λ (net : RouteNet). find (is_of_slot s) net.elems) o) 0) at_net
    ∙ found-number all tracks s there.net.elems there.elem there.among there.is

-- tracks that a route was given are those that it shows
pub tracks-shown : (route : RouteText) (tracks : List ℕ) → length tracks ≡ length (slots route)
    → tracks_of route (route_of route tracks) ≡ tracks
tracks-shown route tracks each =
    let all : List Slot = slots route in
    let len = length-map all (track_in (route_of route tracks)) in
    ext_get_or 0 (tracks_of route (route_of route tracks)) tracks (len ∙ sym each) (λ k low.
    let inside : k < length all = omega (arith, len, low) in
    get_or-map (track_in (route_of route tracks)) all k NO_SLOT 0 inside
    ∙ track-shown route tracks (slot_at all k) (slot-among all k inside)
    ∙ ap (slice_index tracks) (number-there all (slots-distinct route) k inside))
