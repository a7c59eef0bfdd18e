-- The steps of a route that fits: their slots are slots of the route, and the cells of those meet.
use Rattle.std.proofs.Common.{◌≡◌, ℕ, zero, suc, ◌+◌, ◌<◌, Bool, true, false, Option, Some, None, List, [], ◌∷◌, ◌++◌, length, take, drop, get_or, inl, inr, refl, sym, ap, subst, ◌∙◌, arith, All}
use Rattle.std.specs.Prelude.{is_none, filter_map, flat_map, slice_get, option_map, option_and_then}
use Rattle.std.specs.List.{AllByRecursion, cons_option, enumerate_from, last_or, list_any}
use Rattle.std.proofs.Math.Bool.{or-true}
use Rattle.std.proofs.lemmas.Bool.{false≢true}
use Rattle.std.proofs.lemmas.List.Folds.{list_any-append}
use Rattle.std.proofs.lemmas.List.Sums.{passes_at_first}
use Rattle.list_laws.proofs.Members.{In, In-flat_map, In-map}
use Rattle.list_laws.proofs.Numbered.{numbered-here, numbered-there}
use Rattle.list_laws.proofs.Places.{last-push, take-get}
use Rattle.list_laws.proofs.Searches.{position-below}
use Rattle.fpga_text.specs.FirstFault.{Faults, IsFaultless}
use Rattle.fpga_text.specs.declared.fault.TextFault.{TextFault}
use Rattle.fpga_text.proofs.FaultLemmas.{faultless-line}
use Rattle.fpga_types.specs.Fabric.{Meeting, Meets, meeting}
use Rattle.fpga_types.specs.Fit.{IsFit, are_apart, context_of, fit_faults, line_fault, net_lines, route_lines, splits}
use Rattle.fpga_types.specs.Slots.{adjacent, elem_cell, elem_slot, same_slot, slot_at, slot_number, slots, slots_of, step_of, steps, NO_SLOT}
use Rattle.fpga_types.specs.declared.grid.Cell.{Cell}
use Rattle.fpga_types.specs.declared.problem.RouteStep.{RouteStep}
use Rattle.fpga_types.specs.declared.problem.Slot.{Slot}
use Rattle.fpga_types.specs.declared.route.Elem.{Elem}
use Rattle.fpga_types.specs.declared.route.RouteNet.{RouteNet}
use Rattle.fpga_types.specs.declared.route.RouteText.{RouteText}
use Rattle.fpga_types.proofs.FitLemmas.{In-splits}
use Rattle.fpga_types.proofs.MeetingLemmas.{meeting-is}
use Rattle.fpga_bounds.specs.Problem.{IsStepWithin, IsStepMeeting}
use Rattle.fpga_bounds.specs.NetFit.{line_at}
use Rattle.fpga_bounds.proofs.LineLemmas.{elem_line, passes}
use Rattle.fpga_bounds.proofs.SlotTableLemmas.{same_slot-is, same_slot-itself}
use Rattle.fpga_bounds.proofs.SlotsOfLemmas.{any-first_seen, channel_slots}

module _ {B : Type 0} (P : B → Type 0) where
  each-append : (xs ys : List B) → AllByRecursion P xs → AllByRecursion P ys
      → AllByRecursion P (xs ++ ys)
  each-append [] ys h g = g
  each-append (x ∷ xs) ys h g = (h.0, each-append xs ys h.1 g)

  -- what is brought by each element of a list
  pub each-brought : {C : Type 0} (g : C → List B) (zs : List C)
      → ((k : ℕ) (z : C) → slice_get zs k ≡ Some z → AllByRecursion P (g z))
      → AllByRecursion P (flat_map g zs)
  each-brought g [] h = tt
  each-brought g (z ∷ zs) h =
      each-append (g z) (flat_map g zs) (h 0 z refl) (each-brought g zs (λ k y e. h (suc k) y e))

  -- what is made of each element of a list
  pub each-made : {A : Type 0} (f : A → Option B) (xs : List A)
      → ((k : ℕ) (x : A) (y : B) → slice_get xs k ≡ Some x → f x ≡ Some y → P y)
      → AllByRecursion P (filter_map f xs)
  each-made f [] h = tt
  each-made {A} f (x ∷ xs) h =
      go (f x) (λ y e. h 0 x y refl e) (each-made f xs (λ k z y e g. h (suc k) z y e g))
    where
      go : (o : Option B) → ((y : B) → o ≡ Some y → P y) → AllByRecursion P (filter_map f xs)
          → AllByRecursion P (cons_option o (filter_map f xs))
      go None g t = t
      go (Some y) g t = (g y refl, t)

  pub each-all : (xs : List B) → AllByRecursion P xs → All P xs
  each-all [] h = λ k d below. absurd (omega (arith, below))
  each-all (x ∷ xs) h = at (each-all xs h.1)
    where
      at : All P xs → (k : ℕ) (d : B) → k < length (x ∷ xs) → P (get_or (x ∷ xs) k d)
      at rest zero d below = h.0
      at rest (suc k) d below = rest k d (omega (arith, below))

pub adjacent-there : {T : Type 0} (xs : List T) (k : ℕ) (p : T × T)
    → slice_get (adjacent xs) k ≡ Some p
    → (slice_get xs k ≡ Some p.0) × (slice_get xs (suc k) ≡ Some p.1)
adjacent-there [] k p h = cc
adjacent-there (x ∷ []) k p h = cc
adjacent-there {T} (x ∷ y ∷ ys) zero p h =
    let e : (x, y) ≡ p = first h in (ap (λ (w : T × T). Some w.0) e, ap (λ (w : T × T). Some w.1) e)
  where
    first : {u v : T × T} → Some u ≡ Some v → u ≡ v
    first g = cc
adjacent-there (x ∷ y ∷ ys) (suc k) p h = adjacent-there (y ∷ ys) k p h

any-made : {A B : Type 0} (p : B → Bool) (f : A → Option B) (xs : List A) (k : ℕ) (x : A) (y : B)
    → slice_get xs k ≡ Some x → f x ≡ Some y → p y ≡ true → list_any p (filter_map f xs) ≡ true
any-made p f [] k x y h e g = cc
any-made p f (z ∷ zs) zero x y h e g = let one : z ≡ x = cc in rw (one, e, g) refl
any-made {A} {B} p f (z ∷ zs) (suc k) x y h e g = go (f z) (any-made p f zs k x y h e g)
  where
    go : (o : Option B) → list_any p (filter_map f zs) ≡ true
        → list_any p (cons_option o (filter_map f zs)) ≡ true
    go None t = t
    go (Some b) t = rw (t, or-true (p b)) refl

any-brought : {B C : Type 0} (p : B → Bool) (g : C → List B) (zs : List C) (k : ℕ) (z : C)
    → slice_get zs k ≡ Some z → list_any p (g z) ≡ true → list_any p (flat_map g zs) ≡ true
any-brought p g [] k z h e = cc
any-brought p g (y ∷ ys) zero z h e =
    let one : y ≡ z = cc in rw (one, list_any-append p (g z) (flat_map g ys), e) refl
any-brought p g (y ∷ ys) (suc k) z h e =
    rw (
      list_any-append p (g y) (flat_map g ys),
      any-brought p g ys k z h e,
      or-true (list_any p (g y)),
    ) refl

-- the slot of a channel line is one of the slots
pub slot-in : (nets : List RouteNet) (n : ℕ) (net : RouteNet) (i : ℕ) (e : Elem) (s : Slot)
    → slice_get nets n ≡ Some net → slice_get net.elems i ≡ Some e → elem_slot n e ≡ Some s
    → list_any (same_slot s) (slots_of nets) ≡ true
slot-in nets n net i e s here there slot =
    let numbered : slice_get (enumerate_from 0 nets) n ≡ Some (n, net) =
    numbered-here 0 nets n net here
    ∙ (let f : 0 + n ≡ n = omega arith in λ j. Some (f j, net)) in
    any-first_seen s (channel_slots nets)
    ∙ any-brought (same_slot s) (λ (m : ℕ × RouteNet). filter_map (elem_slot m.0) m.1.elems)
    (enumerate_from 0 nets) n (n, net) numbered
    (any-made (same_slot s) (elem_slot n) net.elems i e s there slot (same_slot-itself s))

-- what stands at the number of a slot is the slot
pub slot-there : (all : List Slot) (s : Slot) → list_any (same_slot s) all ≡ true
    → slot_at all (slot_number all s) ≡ s
slot-there all s h =
    sym (same_slot-is s (slot_at all (slot_number all s))
    (passes_at_first (same_slot s) all NO_SLOT (position-below (same_slot s) all h)))

pub slot-cell : (n : ℕ) (e : Elem) (s : Slot) → elem_slot n e ≡ Some s → elem_cell e ≡ Some s.cell
slot-cell n e s h = go (elem_cell e) h
  where
    some_is : (a b : Slot) → Some a ≡ Some b → a ≡ b
    some_is a b g = cc

    go : (o : Option Cell) → option_map {T = Cell} {U = Slot}
        (λ cell. record { net = n; cell = cell }) o ≡ Some s → o ≡ Some s.cell
    go None g = cc
    go (Some c) g = ap (λ (t : Slot). Some t.cell) (some_is (record { net = n; cell = c }) s g)

-- a line of a route that fits has no fault
line-faultless : (route : RouteText) → IsFit route → (n : ℕ) (net : RouteNet) (i : ℕ) (e : Elem)
    → slice_get route.nets n ≡ Some net → slice_get net.elems i ≡ Some e
    → line_fault route.grid (elem_line (take n route.nets) net i e) ≡ None
line-faultless route fit n net i e here there =
    no_fault (fit_faults route) (line_fault route.grid (elem_line (take n route.nets) net i e)) fit
    (In-map (line_fault route.grid) (route_lines route) (elem_line (take n route.nets) net i e)
    (In-flat_map (λ s. net_lines s.0 s.1) (splits route.nets)
    (take n route.nets, net, drop (suc n) route.nets)
    (elem_line (take n route.nets) net i e)
    (In-splits route.nets n net here)
    (inr (In-map (line_at (take n route.nets) net) (splits net.elems)
    (take i net.elems, e, drop (suc i) net.elems)
    (In-splits net.elems i e there)))))
  where
    no_fault : (faults : Faults) (fault : Option TextFault) → IsFaultless faults → In faults fault
        → fault ≡ None
    no_fault [] fault clean within = absurd within
    no_fault (first ∷ more) fault clean within =
        let parts = faultless-line first more clean in
        elim within [
          | inl same ↦ sym same
              ∙ parts.0
          | inr later ↦ no_fault more fault parts.1 later
        ]

-- of a net that fits, the cells of two channels next to each other meet
neighbours-meet : (route : RouteText) → IsFit route → (n : ℕ) (net : RouteNet) (i : ℕ) (a b : Elem)
    (p q : Slot) → slice_get route.nets n ≡ Some net → slice_get net.elems i ≡ Some a
    → slice_get net.elems (suc i) ≡ Some b → elem_slot n a ≡ Some p → elem_slot n b ≡ Some q
    → Meets route.grid p.cell q.cell
neighbours-meet route fit n net i a b p q here at_a at_b slot_a slot_b =
    let grid = route.grid in
    let line = elem_line (take n route.nets) net (suc i) b in
    let leap : are_apart grid (option_and_then elem_cell (last_or None (take (suc i) net.elems)))
    (elem_cell b) ≡ false
    = (passes grid b.line (context_of line)
    (line-faultless route fit n net (suc i) b here at_b)).leaps in
    go (meeting grid p.cell q.cell) refl
    (rw (
      take-get net.elems i a at_a,
      last-push None (take i net.elems) a,
      slot-cell n a p slot_a,
      slot-cell n b q slot_b,
    ) at leap)
  where
    go : (o : Option Meeting) → meeting route.grid p.cell q.cell ≡ o
        → is_none (meeting route.grid p.cell q.cell) ≡ false → Meets route.grid p.cell q.cell
    go None e f = absurd (false≢true (sym f ∙ rw e refl))
    go (Some m) e f = (m, meeting-is route.grid p.cell q.cell m e)

-- the ends of a step
pub step-parts : (all : List Slot) (a b : Option Slot) (s : RouteStep) → step_of all a b ≡ Some s
    → (p : Slot) × (q : Slot) × (a ≡ Some p) × (b ≡ Some q)
    × (record { from = slot_number all p; to = slot_number all q } ≡ s)
step-parts all None b s h = cc
step-parts all (Some p) None s h = cc
step-parts all (Some p) (Some q) s h = (p, q, refl, refl, some_is _ _ h)
  where
    some_is : (u v : RouteStep) → Some u ≡ Some v → u ≡ v
    some_is u v g = cc

abbrev pub IsGoodStep : RouteText → RouteStep → Type 0
IsGoodStep route s = IsStepWithin (slots route) s × IsStepMeeting route.grid (slots route) s

good-step : (route : RouteText) → IsFit route
    → (n : ℕ) (net : RouteNet) (i : ℕ) (a b : Elem) (p q : Slot) → slice_get route.nets n ≡ Some net
    → slice_get net.elems i ≡ Some a → slice_get net.elems (suc i) ≡ Some b → elem_slot n a ≡ Some p
    → elem_slot n b ≡ Some q
    → IsGoodStep route
    (record { from = slot_number (slots route) p; to = slot_number (slots route) q })
good-step route fit n net i a b p q here at_a at_b slot_a slot_b =
    let in_p = slot-in route.nets n net i a p here at_a slot_a in
    let in_q = slot-in route.nets n net (suc i) b q here at_b slot_b in (
      (
        position-below (same_slot p) (slots route) in_p,
        position-below (same_slot q) (slots route) in_q,
      ),
      rw (slot-there (slots route) p in_p, slot-there (slots route) q in_q)
          (neighbours-meet route fit n net i a b p q here at_a at_b slot_a slot_b),
    )

each-step : (route : RouteText) → IsFit route → AllByRecursion (IsGoodStep route) (steps route)
each-step route fit =
    each-brought (IsGoodStep route)
    (λ (n : ℕ × RouteNet). filter_map
    (λ p. step_of (slots route) (elem_slot n.0 p.0) (elem_slot n.0 p.1)) (adjacent n.1.elems))
    (enumerate_from 0 route.nets) (λ k z numbered.
    let place = numbered-there 0 route.nets k z numbered in
    let number : k ≡ z.0 = omega (arith, place.0) in
    let here : slice_get route.nets z.0 ≡ Some z.1 =
    subst (λ (m : ℕ). slice_get route.nets m ≡ Some z.1) number place.1 in
    each-made (IsGoodStep route) (λ p. step_of (slots route) (elem_slot z.0 p.0)
    (elem_slot z.0 p.1)) (adjacent z.1.elems) (λ i p s beside made.
    let ends = adjacent-there z.1.elems i p beside in
    let parts = step-parts (slots route) (elem_slot z.0 p.0) (elem_slot z.0 p.1) s made in
    subst (IsGoodStep route) parts.4
    (good-step route fit z.0 z.1 i p.0 p.1 parts.0 parts.1 here ends.0 ends.1 parts.2 parts.3)))

-- each step's slots are slots of the route, and their cells meet
pub good-steps : (route : RouteText) → IsFit route → All (IsGoodStep route) (steps route)
good-steps route fit = each-all (IsGoodStep route) (steps route) (each-step route fit)
