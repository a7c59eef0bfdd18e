-- Where all tracks are alike, the slots of one cell may be given their tracks beforehand, those of
-- any nets by themselves too.
use Rattle.std.proofs.Common.{◌≡◌, ℕ, zero, suc, ◌<◌, ◌≤◌, true, List, [], length, get_or, take, Option, Some, None, sym, ap, subst, ◌∙◌, inl, inr, arith}
use Rattle.std.specs.Prelude.{map, find}
use Rattle.std.specs.List.{enumerate_from}
use Rattle.std.specs.Option.{option_map_or}
use Rattle.std.proofs.lemmas.Bool.{cases_lt}
use Rattle.std.proofs.lemmas.List.{get_or-map, get_or-take, length-take}
use Rattle.std.proofs.lemmas.Option.{get_or_from_slice_get, slice_get_within}
use Rattle.list_laws.proofs.Members.{In, all-from_In, from_In-map}
use Rattle.list_laws.proofs.Numbered.{from_In-enumerate}
use Rattle.fpga_types.specs.CellNumbers.{cell_count}
use Rattle.fpga_types.specs.Fits.{Fits}
use Rattle.fpga_types.specs.Given.{IsGiven}
use Rattle.fpga_types.specs.Problem.{RoutingProblem}
use Rattle.fpga_types.specs.Size.{Size}
use Rattle.fpga_types.specs.Slots.{slots}
use Rattle.fpga_types.specs.declared.arch.Pattern.{Pattern}
use Rattle.fpga_types.specs.declared.problem.Slot.{Slot}
use Rattle.route_encode.specs.Encoding.{below}
use Rattle.route_encode.specs.Exact.{IsRoutableAt}
use Rattle.route_core.specs.Blamed.{net_of}
use Rattle.route_core.specs.Core.{IsLegalRoutingOf, IsOf}
use Rattle.route_core.proofs.PartLemmas.{every_net, is-among, of-every, part-legal, whole-legal}
use Rattle.problem_facts.specs.Full.{is_symmetric}
use Rattle.route_pinned.specs.Pinned.{IsPinnedRoutableAt, PinsChangeNothing}
use Rattle.problem_facts.specs.Fullest.{has_most, slots_in}
use Rattle.route_pinned.specs.Pins.{pinned_slots, pins}
use Rattle.problem_facts.proofs.Rivals.{AreRivals, rivals-in}
use Rattle.route_pinned.proofs.SwapLemmas.{AreAlike, IsChange, alike, changed-legal, swap, swap-change, swap-other, swap-there}

module _ (p : RoutingProblem) (given : IsGiven p) where
  abbrev all : List Slot
  all = slots p.route

  abbrev grid : Size
  grid = p.route.grid

  no-rivals : AreRivals all []
  no-rivals = record {
    within = λ i inside. absurd (omega (arith, inside));
    nets = λ i j before inside. absurd (omega (arith, inside));
    cells = λ i j before inside. absurd (omega (arith, inside));
  }

  -- so are those of the pinned cell
  pub pinned-rivals : AreRivals all (pinned_slots grid all)
  pinned-rivals = go (find (has_most grid all) (below (cell_count grid)))
    where
      go : (o : Option ℕ) → AreRivals all (option_map_or (slots_in grid all) o [])
      go None = no-rivals
      go (Some number) = rivals-in p given number

-- ---- one slot after another gets its track

module _ (width : ℕ) (p : RoutingProblem) (fits : Fits p) (full : AreAlike width p)
    (row : List ℕ) (rivals : AreRivals (slots p.route) row) (nets : List ℕ) where
  -- the slot at a place of the row is of one of the nets
  abbrev IsOfNets : ℕ → Type 0
  IsOfNets i = IsOf nets (slots p.route) (get_or row i 0)

  -- the first m slots of the row have the tracks 0, 1 and so on, as far as they are of the nets
  abbrev HasFirst : ℕ → List ℕ → Type 0
  HasFirst m tracks = (i : ℕ) → i < m → IsOfNets i → get_or tracks (get_or row i 0) 0 ≡ i

  module _ (m : ℕ) (low : m < length row) (few : m < width) (found : List ℕ)
      (legal : IsLegalRoutingOf width p nets found) (first : HasFirst m found)
      (of : IsOfNets m) where
    abbrev v : ℕ
    v = get_or found (get_or row m 0) 0

    abbrev f : ℕ → ℕ
    f = swap v m

    v-low : v < width
    v-low = legal.within (get_or row m 0) (rivals.within m low) of

    moved : (i : ℕ) → i < length row
        → get_or (map f found) (get_or row i 0) 0 ≡ f (get_or found (get_or row i 0) 0)
    moved i inside = get_or-map f found (get_or row i 0) 0 0
        (omega (arith, rivals.within i inside, legal.each))

    earlier : (i : ℕ) → i < m → IsOfNets i → f (get_or found (get_or row i 0) 0) ≡ i
    earlier i before of_i =
        let is : get_or found (get_or row i 0) 0 ≡ i = first i before of_i in
        let inside : i < length row = omega (arith, before, low) in
        ap f is ∙ swap-other v m i
        (λ e. legal.apart (get_or row i 0) (get_or row m 0)
        (rivals.within i inside) (rivals.within m low) of_i of
        (rivals.nets i m before low) (rivals.cells i m before low) (is ∙ e))
        (λ e. absurd (omega (arith, e, before)))

    next-pinned : (better : List ℕ) × IsLegalRoutingOf width p nets better
        × HasFirst (suc m) better
    next-pinned = (
      map f found,
      changed-legal width p fits full.boxes f
          (subst (λ (pattern : Pattern). IsChange pattern width f) (sym full.pattern)
          (swap-change width v m v-low few)) nets found legal,
      λ i below of_i. elim (cases_lt i m) [
        | inl before ↦ moved i (omega (arith, before, low)) ∙ earlier i before of_i
        | inr not_before ↦ (let e : i ≡ m = omega (arith, below, not_before) in
            subst (λ (k : ℕ). get_or (map f found) (get_or row k 0) 0 ≡ k) (sym e)
            (moved m low ∙ swap-there v m))
      ],
    )

  pub pinned-first : (m : ℕ) → m ≤ length row → m ≤ width → (tracks : List ℕ)
      → IsLegalRoutingOf width p nets tracks
      → (found : List ℕ) × IsLegalRoutingOf width p nets found × HasFirst m found
  pinned-first zero low few tracks h = (tracks, h, λ i below of. absurd (omega (arith, below)))
  pinned-first (suc m) low few tracks h =
      let r = pinned-first m (omega (arith, low)) (omega (arith, few)) tracks h in
      elim (is-among nets (net_of (slots p.route) (get_or row m 0))) [
        | inl of ↦ next-pinned m (omega (arith, low)) (omega (arith, few)) r.0 r.1 r.2 of
        | inr other ↦ (
          r.0,
          r.1,
          λ i below of. elim (cases_lt i m) [
            | inl before ↦ r.2 i before of
            | inr not_before ↦ (let e : i ≡ m = omega (arith, below, not_before) in
                absurd (other (subst (λ (k : ℕ). IsOfNets k) e of)))
          ],
        )
      ]

-- ---- the pins

module _ (width : ℕ) (p : RoutingProblem) where
  abbrev cell_row : List ℕ
  cell_row = pinned_slots p.route.grid (slots p.route)

  -- a pin is the slot at a place of the row, with that place as its track
  pin-place : (pin : ℕ × ℕ) → In (pins width p) pin
      → (k : ℕ) × (k < length (take width cell_row)) × (get_or cell_row k 0 ≡ pin.0) × (k ≡ pin.1)
  pin-place pin i =
      let made = from_In-map (λ (e : ℕ × ℕ). (e.1, e.0))
      (enumerate_from 0 (take width cell_row)) pin i in
      let at = from_In-enumerate 0 (take width cell_row) made.0 made.1 in
      let inside = slice_get_within (take width cell_row) at.0 made.0.1 at.2 in
      let slot : get_or cell_row at.0 0 ≡ made.0.1 =
      sym (get_or-take width cell_row at.0 0
      (omega (arith, inside, length-take width cell_row)))
      ∙ get_or_from_slice_get (take width cell_row) at.0 made.0.1 0 at.2 in
      let first : made.0.1 ≡ pin.0 = ap (λ (q : ℕ × ℕ). q.0) made.2 in
      let second : made.0.0 ≡ pin.1 = ap (λ (q : ℕ × ℕ). q.1) made.2 in
      (at.0, inside, slot ∙ first, omega (arith, at.1, second))

  -- which is a slot of the problem and a track
  pub pin-there : IsGiven p → (pin : ℕ × ℕ) → In (pins width p) pin
      → (pin.0 < length (slots p.route)) × (pin.1 < width)
  pin-there given pin i =
      let place = pin-place pin i in
      let count = length-take width cell_row in
      let low = (pinned-rivals p given).within place.0 (omega (arith, place.1, count)) in
      (omega (arith, low, place.2), omega (arith, place.1, count, place.3))

-- ---- the law

-- where some nets have a legal routing by themselves, they have one in which each of their pinned
-- slots has its track
pub pinned-part : (width : ℕ) (p : RoutingProblem) → IsGiven p → Fits p
    → is_symmetric width p ≡ true → (nets tracks : List ℕ) → IsLegalRoutingOf width p nets tracks
    → (found : List ℕ) × IsLegalRoutingOf width p nets found
    × ((pin : ℕ × ℕ) → In (pins width p) pin → IsOf nets (slots p.route) pin.0
    → get_or found pin.0 0 ≡ pin.1)
pinned-part width p given fits h nets tracks legal =
    let row : List ℕ = pinned_slots p.route.grid (slots p.route) in
    let count = length-take width row in
    let r = pinned-first width p fits (alike width p h) row (pinned-rivals p given) nets
    (length (take width row)) (omega (arith, count)) (omega (arith, count)) tracks legal in (
      r.0,
      r.1,
      λ pin i of.
          let place = pin-place width p pin i in
          let slot : get_or row place.0 0 ≡ pin.0 = place.2 in
          subst (λ (s : ℕ). get_or r.0 s 0 ≡ pin.1) slot
          (r.2 place.0 place.1 (subst (λ (s : ℕ). IsOf nets (slots p.route) s) (sym slot) of)
          ∙ place.3),
    )

pub pinned-legal : (width : ℕ) (p : RoutingProblem) → IsGiven p → Fits p
    → is_symmetric width p ≡ true → IsRoutableAt width p → IsPinnedRoutableAt width p
pinned-legal width p given fits h (tracks, legal) =
    let nets : List ℕ = every_net width p in
    let r = pinned-part width p given fits h nets tracks (part-legal width p nets tracks legal) in (
      r.0,
      whole-legal width p fits r.0 r.1,
      all-from_In (λ pin. get_or r.0 pin.0 0 ≡ pin.1) (pins width p)
          (λ pin i. r.2 pin i (of-every width p pin.0 (pin-there width p given pin i).0)),
    )

pub nothing_changes : (width : ℕ) (p : RoutingProblem) → IsGiven p → Fits p
    → is_symmetric width p ≡ true → PinsChangeNothing width p
nothing_changes width p given fits h = (
  (λ routable. pinned-legal width p given fits h routable),
  (λ r. (r.0, r.1)),
)
