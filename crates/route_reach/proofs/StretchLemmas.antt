-- The slots of a route stand net by net.
use Rattle.std.proofs.Common.{◌≡◌, ◌≢◌, ℕ, zero, suc, ◌+◌, ◌<◌, ◌≤◌, Bool, true, false, cond, List, [], ◌∷◌, ◌++◌, length, inl, inr, refl, subst, arith}
use Rattle.std.specs.Prelude.{◌↔◌, filter, filter_map, flat_map, not}
use Rattle.std.specs.List.{enumerate_from}
use Rattle.std.proofs.lemmas.Bool.{cases_lt}
use Rattle.list_laws.proofs.Members.{In, In-append_cases, In-get, from_In-filter, from_In-filter_map, from_In-flat_map}
use Rattle.list_laws.proofs.Numbered.{from_In-enumerate}
use Rattle.fpga_bounds.proofs.SlotLines.{slot-net}
use Rattle.fpga_types.specs.Slots.{NO_SLOT, elem_slot, first_seen, same_slot, slot_at, slots}
use Rattle.fpga_types.specs.declared.problem.Slot.{Slot}
use Rattle.fpga_types.specs.declared.route.RouteNet.{RouteNet}
use Rattle.fpga_types.specs.declared.route.RouteText.{RouteText}
use Rattle.route_reach.specs.Modelled.{IsStart}

-- no slot is of an earlier net than one before it
abbrev NetsRise : List Slot → Type 0
NetsRise [] = Unit {0}
NetsRise (x ∷ xs) = ((y : Slot) → In xs y → x.net ≤ y.net) × NetsRise xs

rise-filter : (p : Slot → Bool) (xs : List Slot) → NetsRise xs → NetsRise (filter p xs)
rise-filter p [] h = tt
rise-filter p (x ∷ xs) h = go (p x) (rise-filter p xs h.1)
  where
    go : (b : Bool) → NetsRise (filter p xs) → NetsRise (cond b (x ∷ filter p xs) (filter p xs))
    go true rest = ((λ y i. h.0 y (from_In-filter p xs y i).0), rest)
    go false rest = rest

from-seen : (xs : List Slot) (y : Slot) → In (first_seen same_slot xs) y → In xs y
from-seen [] y i = i
from-seen (x ∷ xs) y i = elim i [
  | inl e ↦ inl e
  | inr u ↦ inr (from-seen xs y
      (from_In-filter (λ z. not (same_slot x z)) (first_seen same_slot xs) y u).0)
]

rise-seen : (xs : List Slot) → NetsRise xs → NetsRise (first_seen same_slot xs)
rise-seen [] h = tt
rise-seen (x ∷ xs) h = (
  (λ y i. h.0 y (from-seen xs y
      (from_In-filter (λ z. not (same_slot x z)) (first_seen same_slot xs) y i).0)),
  rise-filter (λ z. not (same_slot x z)) (first_seen same_slot xs) (rise-seen xs h.1),
)

rise-append : (xs ys : List Slot) → NetsRise xs → NetsRise ys
    → ((x y : Slot) → In xs x → In ys y → x.net ≤ y.net) → NetsRise (xs ++ ys)
rise-append [] ys h g between = g
rise-append (x ∷ xs) ys h g between = (
  (λ y i. elim (In-append_cases xs ys y i) [
    | inl u ↦ h.0 y u
    | inr v ↦ between x y (inl refl) v
  ]),
  rise-append xs ys h.1 g (λ u v i j. between u v (inr i) j),
)

rise-one : (n : ℕ) (xs : List Slot) → ((y : Slot) → In xs y → y.net ≡ n) → NetsRise xs
rise-one n [] h = tt
rise-one n (x ∷ xs) h = (
  (λ y i. let first = h x (inl refl) in let later = h y (inr i) in omega (arith, first, later)),
  rise-one n xs (λ y i. h y (inr i)),
)

abbrev row : ℕ × RouteNet → List Slot
row n = let net : RouteNet = n.1 in filter_map (elem_slot n.0) net.elems

row-net : (n : ℕ × RouteNet) (y : Slot) → In (row n) y → y.net ≡ n.0
row-net n y i = let net : RouteNet = n.1 in
    let from = from_In-filter_map (elem_slot n.0) net.elems y i in slot-net n.0 from.0 y from.2

rise-rows : (a : ℕ) (nets : List RouteNet) → NetsRise (flat_map row (enumerate_from a nets))
rise-rows a [] = tt
rise-rows a (net ∷ nets) =
    rise-append (row (a, net)) (flat_map row (enumerate_from (a + 1) nets))
    (rise-one a (row (a, net)) (row-net (a, net))) (rise-rows (a + 1) nets)
    (λ x y i j. let first = row-net (a, net) x i in
    let from = from_In-flat_map row (enumerate_from (a + 1) nets) y j in
    let later = row-net from.0 y from.2 in
    let at = from_In-enumerate (a + 1) nets from.0 from.1 in
    omega (arith, first, later, at.1))

by-place : (xs : List Slot) → NetsRise xs → (i j : ℕ) → i ≤ j → j < length xs
    → (slot_at xs i).net ≤ (slot_at xs j).net
by-place [] h i j order low = absurd (omega (arith, low))
by-place (x ∷ xs) h zero zero order low = omega arith
by-place (x ∷ xs) h zero (suc j) order low =
    h.0 (slot_at xs j) (In-get xs j NO_SLOT (omega (arith, low)))
by-place (x ∷ xs) h (suc i) zero order low = absurd (omega (arith, order))
by-place (x ∷ xs) h (suc i) (suc j) order low =
    by-place xs h.1 i j (omega (arith, order)) (omega (arith, low))

-- a later slot is of no earlier net
pub slots-rise : (route : RouteText) (i j : ℕ) → i ≤ j → j < length (slots route)
    → (slot_at (slots route) i).net ≤ (slot_at (slots route) j).net
slots-rise route = by-place (slots route)
    (rise-seen (flat_map row (enumerate_from 0 route.nets)) (rise-rows 0 route.nets))

-- the slots of the net at position n are those from the first up to the end, and the next net's
-- begin there
pub record IsStretch (route : RouteText) (n first end : ℕ) : Type 0 where
  pub order : first ≤ end
  pub within : end ≤ length (slots route)
  pub next : IsStart (slots route) (n + 1) end
  pub own : (s : ℕ) → s < length (slots route)
      → (slot_at (slots route) s).net ≡ n ↔ ((first ≤ s) × (s < end))

module _ (route : RouteText) (n first end : ℕ) (start : IsStart (slots route) n first)
    (order : first ≤ end) (within : end ≤ length (slots route))
    (own : (s : ℕ) → first ≤ s → s < end → (slot_at (slots route) s).net ≡ n)
    (other : end < length (slots route) → (slot_at (slots route) end).net ≢ n) where
  behind : (s : ℕ) → end ≤ s → s < length (slots route) → n + 1 ≤ (slot_at (slots route) s).net
  behind s above low =
      let here = start.behind end order (omega (arith, above, low)) in
      let differs = other (omega (arith, above, low)) in
      let rises = slots-rise route end s above low in
      elim (cases_lt n (slot_at (slots route) end).net) [
        | inl more ↦ omega (arith, more, rises)
        | inr not_more ↦ absurd (differs (omega (arith, here, not_more)))
      ]

  stretched : IsStretch route n first end
  stretched = record {
    order = order;
    within = within;
    next = record {
      within = within;
      before = λ s low. elim (cases_lt s first) [
        | inl before ↦ (let less = start.before s before in omega (arith, less))
        | inr after ↦ (let same = own s after low in omega (arith, same))
      ];
      behind = behind;
    };
    own = λ s low. (
      (λ same. elim (cases_lt s first) [
        | inl before ↦ absurd (let less = start.before s before in omega (arith, less, same))
        | inr after ↦ elim (cases_lt s end) [
          | inl inside ↦ (after, inside)
          | inr past ↦ absurd (let more = behind s past low in omega (arith, more, same))
        ]
      ]),
      (λ h. own s h.0 h.1),
    );
  }

-- the same where the slots go by another name
pub stretch-of : (route : RouteText) (all : List Slot) (n first end : ℕ) → all ≡ slots route
    → IsStart (slots route) n first → first ≤ end → end ≤ length all
    → ((s : ℕ) → first ≤ s → s < end → (slot_at all s).net ≡ n)
    → (end < length all → (slot_at all end).net ≢ n) → IsStretch route n first end
stretch-of route all n first end same start order within own other =
    stretched route n first end start order
    (subst (λ (ss : List Slot). end ≤ length ss) same within)
    (λ s above low. subst (λ (ss : List Slot). (slot_at ss s).net ≡ n) same (own s above low))
    (subst (λ (ss : List Slot). end < length ss → (slot_at ss end).net ≢ n) same other)
