-- The slots that are found by cells: those whose cells meet a slot's, and those that a pin touches.
use Rattle.std.proofs.Common.{◌≡◌, ℕ, ◌<◌, Bool, true, false, Option, Some, None, List, [], ◌++◌, length, inl, inr, refl, sym, ap, subst, ◌∙◌}
use Rattle.std.specs.Prelude.{◌==◌, filter_map, is_some, option_and_then, if◌then◌else◌}
use Rattle.std.specs.Option.{option_map_or, option_to_list}
use Rattle.std.proofs.lemmas.Bool.{false≢true}
use Rattle.list_laws.proofs.Members.{In, contains-In, In-append_cases, In-append_left, In-append_right, In-contains, In-filter, In-filter_map, from_In-filter, from_In-filter_map}
use Rattle.list_laws.proofs.Places.{none_is_not_some, some_is}
use Rattle.list_laws.proofs.Searches.{position-first, position-passes, position-within}
use Rattle.fpga_graph.specs.Beside.{cell_beside}
use Rattle.fpga_graph.specs.GraphOf.{GraphOf}
use Rattle.fpga_graph.specs.Wires.{AreJoints}
use Rattle.fpga_types.specs.Fabric.{Meeting, MeetsAt, meeting, same_cell}
use Rattle.fpga_types.specs.Slots.{NO_SLOT, same_slot, slot_at}
use Rattle.fpga_types.specs.Touching.{touches}
use Rattle.fpga_types.specs.Tracks.{mapped_track}
use Rattle.fpga_types.specs.declared.grid.Cell.{Cell}
use Rattle.fpga_types.specs.declared.grid.PinAt.{PinAt}
use Rattle.fpga_types.specs.declared.grid.Side.{Side}
use Rattle.fpga_types.specs.declared.grid.Side.TheVariants.{Left, Right, Bottom, Top}
use Rattle.fpga_types.specs.declared.grid.Wire.{Wire}
use Rattle.fpga_types.specs.declared.problem.Slot.{Slot}
use Rattle.fpga_types.proofs.BoxLemmas.{touches-is}
use Rattle.fpga_types.proofs.MeetingLemmas.{meeting-found, meeting-is, same_cell-is}
use Rattle.fpga_bounds.specs.Pairs.{AreDistinct}
use Rattle.fpga_bounds.proofs.SlotTableLemmas.{same_slot-is, same_slot-itself, same_slot-swap}
use Rattle.route_encode.specs.Encoding.{below}
use Rattle.route_reach.specs.Encoding.{slots_in}
use Rattle.route_reach.specs.Near.{found_number, meeting_slots, side_slot, touched_slots, with_found}
use Rattle.route_reach.proofs.InsertLemmas.{from-with, rising-with, with-new, with-old}
use Rattle.route_reach.proofs.RisingLemmas.{IsRising, rising-filter, rising-one, rising-range}
use Rattle.route_reach.proofs.SourceLemmas.{beside-is}
use Rattle.route_reach.proofs.Wires.{from-slots_in, in-slots_in}

-- the row rises, and has the numbers that were found
pub record IsGathered (row found : List ℕ) : Type 0 where
  pub rising : IsRising row
  pub to : (k : ℕ) → In row k → In found k
  pub from : (k : ℕ) → In found k → In row k

pub gathered-none : IsGathered [] []
gathered-none = record { rising = tt; to = λ k i. i; from = λ k i. i }

pub gathered-more : (row found : List ℕ) (o : Option ℕ) → IsGathered row found
    → IsGathered (with_found row o) (found ++ option_to_list o)
gathered-more row found None h = record {
  rising = h.rising;
  to = λ k i. In-append_left found [] k (h.to k i);
  from = λ k i. elim (In-append_cases found [] k i) [ inl u ↦ h.from k u | inr u ↦ absurd u ];
}
gathered-more row found (Some n) h = record {
  rising = rising-with row n h.rising;
  to = λ k i. elim (from-with row n k i) [
    | inl u ↦ In-append_left found (option_to_list (Some n)) k (h.to k u)
    | inr e ↦ In-append_right found (option_to_list (Some n)) k (inl e)
  ];
  from = λ k i. elim (In-append_cases found (option_to_list (Some n)) k i) [
    | inl u ↦ with-old row n k (h.from k u)
    | inr u ↦ elim u [
      | inl e ↦ subst (In (with_found row (Some n))) e (with-new row n)
      | inr v ↦ absurd v
    ]
  ];
}

-- a rising row of the same numbers is the row
pub gathered-is : (row found whole : List ℕ) → IsGathered row found → IsRising whole
    → ((k : ℕ) → In found k → In whole k) → ((k : ℕ) → In whole k → In found k) → row ≡ whole
gathered-is row found whole h rising to from =
    rising-one row whole h.rising rising (λ k i. to k (h.to k i)) (λ k i. h.from k (from k i))

rising-slots : (all : List Slot) (n : ℕ) → IsRising (slots_in all n)
rising-slots all n =
    rising-filter (λ r. (slot_at all r).net == n) (below (length all)) (rising-range 0 (length all))

-- the wire of track 0 of a slot
abbrev pub start : Slot → Wire
start slot = record { cell = slot.cell; track = 0 }

-- the slot of a slot's net in the cell of a wire
abbrev pub found_in : List Slot → Slot → Wire → Option ℕ
found_in all slot w = found_number all (record { net = slot.net; cell = w.cell })

module _ (all : List Slot) where
  pub found-is : (slot : Slot) (k : ℕ) → found_number all slot ≡ Some k
      → (k < length all) × (slot_at all k ≡ slot)
  found-is slot k h = (
    position-within (same_slot slot) all k h,
    sym (same_slot-is slot (slot_at all k) (position-passes (same_slot slot) all k NO_SLOT h)),
  )

  pub is-found : AreDistinct all → (slot : Slot) (k : ℕ) → k < length all → slot_at all k ≡ slot
      → found_number all slot ≡ Some k
  is-found distinct slot k low same =
      subst (λ (q : Slot). found_number all q ≡ Some k) same
      (position-first (same_slot (slot_at all k)) all k NO_SLOT low
      (λ j before. same_slot-swap (slot_at all k) (slot_at all j)
      ∙ distinct j k NO_SLOT before low)
      (same_slot-itself (slot_at all k)))

  -- ---- the slots whose cells meet a slot's

  module _ (g : GraphOf) (distinct : AreDistinct all) (slot : Slot) where
    met : (cell : Cell) (o : Option Meeting) → meeting g.grid slot.cell cell ≡ o
        → is_some o ≡ true → (m : Meeting) × MeetsAt g.grid slot.cell cell m
    met cell None e h = absurd (false≢true h)
    met cell (Some m) e h = (m, meeting-is g.grid slot.cell cell m e)

    module _ (wires : List Wire) (joints : AreJoints g (start slot) wires) where
      to-meeting : (k : ℕ) → In (filter_map (found_in all slot) wires) k
          → In (meeting_slots g.grid all slot) k
      to-meeting k i =
          let made = from_In-filter_map (found_in all slot) wires k i in
          let w : Wire = made.0 in
          let is = found-is (record { net = slot.net; cell = w.cell }) k made.2 in
          let joint = (joints.each w).0 (contains-In wires w made.1) in
          let meets = meeting-found g.grid slot.cell w.cell joint.0 joint.1 in
          In-filter (λ r. is_some (meeting g.grid slot.cell (slot_at all r).cell))
          (slots_in all slot.net) k
          (in-slots_in all slot.net k is.0 (ap (λ (q : Slot). q.net) is.1))
          (ap (λ (q : Slot). is_some (meeting g.grid slot.cell q.cell)) is.1 ∙ ap is_some meets)

      from-meeting : (k : ℕ) → In (meeting_slots g.grid all slot) k
          → In (filter_map (found_in all slot) wires) k
      from-meeting k i =
          let kept = from_In-filter (λ r. is_some (meeting g.grid slot.cell (slot_at all r).cell))
          (slots_in all slot.net) k i in
          let own = from-slots_in all slot.net k kept.0 in
          let cell : Cell = (slot_at all k).cell in
          let m = met cell (meeting g.grid slot.cell cell) refl kept.1 in
          let turn : Meeting = m.0 in
          let w : Wire = record {
            cell = cell;
            track =
                mapped_track g.arch.pattern g.width turn.from turn.to 0;
          } in
          let joint = (joints.each w).1 (turn, m.1, refl) in
          In-filter_map (found_in all slot) wires w k (In-contains wires w joint)
          (is-found distinct (record { net = slot.net; cell = cell }) k own.0
          (λ j. record { net = own.1 j; cell = cell }))

    -- the row of the slots that are found in the cells of the joined wires
    pub meeting-all : (wires : List Wire) (row : List ℕ) → AreJoints g (start slot) wires
        → IsGathered row (filter_map (found_in all slot) wires)
        → row ≡ meeting_slots g.grid all slot
    meeting-all wires row joints h =
        gathered-is row (filter_map (found_in all slot) wires) (meeting_slots g.grid all slot) h
        (rising-filter (λ r. is_some (meeting g.grid slot.cell (slot_at all r).cell))
        (slots_in all slot.net) (rising-slots all slot.net))
        (to-meeting wires joints) (from-meeting wires joints)

  -- ---- the slots whose cells a pin touches

  module _ (g : GraphOf) (distinct : AreDistinct all) (n : ℕ) (pin : PinAt) where
    abbrev pub on_side : Side → Option ℕ
    on_side = side_slot g all n pin

    -- of the four sides
    abbrev pub on_sides : List ℕ
    on_sides = option_to_list (on_side Left) ++ option_to_list (on_side Right)
        ++ option_to_list (on_side Bottom) ++ option_to_list (on_side Top)

    one-of : (o : Option ℕ) (k : ℕ) → In (option_to_list o) k → o ≡ Some k
    one-of None k i = absurd i
    one-of (Some m) k i = elim i [ inl e ↦ ap (λ (x : ℕ). Some x) e | inr u ↦ absurd u ]

    of-one : (o : Option ℕ) (k : ℕ) → o ≡ Some k → In (option_to_list o) k
    of-one None k e = absurd (none_is_not_some e)
    of-one (Some m) k e = inl (some_is e)

    some-side : (k : ℕ) → In on_sides k → (side : Side) × (on_side side ≡ Some k)
    some-side k i =
        let left = option_to_list (on_side Left) in
        let right = option_to_list (on_side Right) in
        let bottom = option_to_list (on_side Bottom) in
        elim (In-append_cases (left ++ right ++ bottom) (option_to_list (on_side Top)) k i) [
          | inr u ↦ (Top, one-of (on_side Top) k u)
          | inl v ↦ elim (In-append_cases (left ++ right) bottom k v) [
            | inr u ↦ (Bottom, one-of (on_side Bottom) k u)
            | inl w ↦ elim (In-append_cases left right k w) [
              | inr u ↦ (Right, one-of (on_side Right) k u)
              | inl u ↦ (Left, one-of (on_side Left) k u)
            ]
          ]
        ]

    side-in : (k : ℕ) (side : Side) → on_side side ≡ Some k → In on_sides k
    side-in k side e = go side (of-one (on_side side) k e)
      where
        left : List ℕ
        left = option_to_list (on_side Left)

        right : List ℕ
        right = option_to_list (on_side Right)

        bottom : List ℕ
        bottom = option_to_list (on_side Bottom)

        go : (side : Side) → In (option_to_list (on_side side)) k → In on_sides k
        go Top i = In-append_right (left ++ right ++ bottom) (option_to_list (on_side Top)) k i
        go Bottom i = In-append_left (left ++ right ++ bottom) (option_to_list (on_side Top)) k
            (In-append_right (left ++ right) bottom k i)
        go Right i = In-append_left (left ++ right ++ bottom) (option_to_list (on_side Top)) k
            (In-append_left (left ++ right) bottom k (In-append_right left right k i))
        go Left i = In-append_left (left ++ right ++ bottom) (option_to_list (on_side Top)) k
            (In-append_left (left ++ right) bottom k (In-append_left left right k i))

    to-touched : (k : ℕ) → In on_sides k → In (touched_slots g all n pin) k
    to-touched k i = let side = some-side k i in go (cell_beside pin side.0) side.1
      where
        go : (o : Option Cell) → option_and_then (λ cell. if touches g.arch g.grid pin cell
            then found_number all (record { net = n; cell = cell }) else None) o ≡ Some k
            → In (touched_slots g all n pin) k
        go None e = absurd (none_is_not_some e)
        go (Some cell) e = at (touches g.arch g.grid pin cell) refl e
          where
            at : (b : Bool) → touches g.arch g.grid pin cell ≡ b
                → (if b then found_number all (record { net = n; cell = cell }) else None) ≡ Some k
                → In (touched_slots g all n pin) k
            at false h f = absurd (none_is_not_some f)
            at true h f =
                let is = found-is (record { net = n; cell = cell }) k f in
                In-filter (λ s. touches g.arch g.grid pin (slot_at all s).cell) (slots_in all n) k
                (in-slots_in all n k is.0 (ap (λ (q : Slot). q.net) is.1))
                (ap (λ (q : Slot). touches g.arch g.grid pin q.cell) is.1 ∙ h)

    from-touched : (k : ℕ) → In (touched_slots g all n pin) k → In on_sides k
    from-touched k i =
        let kept = from_In-filter (λ s. touches g.arch g.grid pin (slot_at all s).cell)
        (slots_in all n) k i in
        let own = from-slots_in all n k kept.0 in
        let cell : Cell = (slot_at all k).cell in
        let t = (touches-is g.arch g.grid pin cell).0 kept.1 in
        side-in k t.side (go own kept.1 (cell_beside pin t.side)
        (beside-is pin cell t.side t.along) (λ q. is-found distinct q k own.0))
      where
        go : (k < length all) × ((slot_at all k).net ≡ n)
            → touches g.arch g.grid pin (slot_at all k).cell ≡ true → (o : Option Cell)
            → option_map_or (λ other. same_cell other (slot_at all k).cell) o false ≡ true
            → ((q : Slot) → slot_at all k ≡ q → found_number all q ≡ Some k)
            → option_and_then (λ c. if touches g.arch g.grid pin c
            then found_number all (record { net = n; cell = c }) else None) o ≡ Some k
        go own touched None e found = absurd (false≢true e)
        go own touched (Some other) e found =
            let same = same_cell-is other (slot_at all k).cell e in
            ap (λ (b : Bool). if b then found_number all (record { net = n; cell = other })
            else None) (ap (touches g.arch g.grid pin) same ∙ touched)
            ∙ found (record { net = n; cell = other })
            (λ j. record { net = own.1 j; cell = sym same j })

    -- the row of the slots that are found along the sides of the pin's place
    pub touched-all : (row : List ℕ) → IsGathered row on_sides
        → row ≡ touched_slots g all n pin
    touched-all row h =
        gathered-is row on_sides (touched_slots g all n pin) h
        (rising-filter (λ s. touches g.arch g.grid pin (slot_at all s).cell) (slots_in all n)
        (rising-slots all n)) to-touched from-touched

    -- the row after the four sides
    pub four-sides : IsGathered (with_found (with_found (with_found (with_found [] (on_side Left))
        (on_side Right)) (on_side Bottom)) (on_side Top)) on_sides
    four-sides =
        let left : List ℕ = with_found [] (on_side Left) in
        let right : List ℕ = with_found left (on_side Right) in
        let bottom : List ℕ = with_found right (on_side Bottom) in
        let one = gathered-more [] [] (on_side Left) gathered-none in
        let two = gathered-more left (option_to_list (on_side Left)) (on_side Right) one in
        let three = gathered-more right (option_to_list (on_side Left)
        ++ option_to_list (on_side Right)) (on_side Bottom) two in
        gathered-more bottom (option_to_list (on_side Left) ++ option_to_list (on_side Right)
        ++ option_to_list (on_side Bottom)) (on_side Top) three
