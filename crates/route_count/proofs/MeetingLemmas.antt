-- Where trees meet, and how that is found.
use Rattle.std.proofs.Common.{◌≡◌, ◌≢◌, ℕ, suc, ◌+◌, ◌*◌, ◌<◌, ◌≤◌, Bool, true, false, Option, Some, None, List, [], length, get_or, take, length-set, refl, sym, ap, subst, ◌∙◌, inl, inr, arith, All, AllPairs}
use Rattle.std.specs.Prelude.{◌==◌, not, slice_set, IsTrue}
use Rattle.std.specs.List.{list_any}
use Rattle.std.proofs.lemmas.Bool.{cases_lt, false≢true}
use Rattle.std.proofs.lemmas.Bool.Decides.{Decides-eqb}
use Rattle.std.proofs.lemmas.List.{get_or-set_other, get_or-set_same, get_or-take, get_or_default, length-take}
use Rattle.list_laws.proofs.Members.{In-list_any, In-range, from_In-range, list_any-from_In}
use Rattle.list_laws.proofs.Places.{none_is_not_some, some_is}
use Rattle.fpga_types.specs.CellNumbers.{cell_count, number_of_cell}
use Rattle.fpga_types.specs.Fabric.{is_cell}
use Rattle.fpga_types.specs.Given.{IsGiven}
use Rattle.fpga_types.specs.Problem.{RoutingProblem}
use Rattle.fpga_types.specs.Size.{Size}
use Rattle.fpga_types.specs.Slots.{NO_SLOT, slot_at, slots}
use Rattle.fpga_types.specs.declared.problem.Slot.{Slot}
use Rattle.fpga_types.proofs.CellLemmas.{number-alone, number-within}
use Rattle.fpga_types.proofs.MeetingLemmas.{both_true}
use Rattle.route_encode.specs.Encoding.{below}
use Rattle.route_encode.proofs.CompeteLemmas.{differs}
use Rattle.problem_facts.proofs.CellCountLemmas.{cases-eq}
use Rattle.problem_facts.proofs.CellMeets.{cell-pair}
use Rattle.problem_facts.proofs.Rivals.{rivals-in}
use Rattle.problem_facts.specs.Crowd.{IsCrowd, tree_of}
use Rattle.problem_facts.specs.Trees.{is_meeting_slot, is_tree_in, meet, roots_of}
use Rattle.sat_count.specs.declared.limits.TheConstants.{COUNTED_LIMIT}
use Rattle.route_count.specs.Crowded.{slots_of_cell}
use Rattle.problem_facts.specs.Leads.{TreesState, root_at}
use Rattle.route_count.specs.Meetings.{AreFound, AreNoted, ArePlaces, AreTaken, AreUnknown, DoMeet, IsMeeting, IsNoted, KeepsOthers, meeting_at, number_at}
use Rattle.route_count.specs.declared.meetings.Meeting.{Meeting}
use Rattle.problem_facts.proofs.LeadLemmas.{root-first}

-- ---- the rows of which each two trees meet

pub pairs-take : (R : ℕ → ℕ → Type 0) (n : ℕ) (row : List ℕ) → AllPairs R row
    → AllPairs R (take n row)
pairs-take R n row pairs i j d before low =
    let count = length-take n row in
    let few : j < n = omega (arith, low, count) in
    let inside : j < length row = omega (arith, low, count) in
    subst (λ (y : ℕ). R (get_or (take n row) i d) y) (sym (get_or-take n row j d few))
    (subst (λ (x : ℕ). R x (get_or row j d))
    (sym (get_or-take n row i d (omega (arith, before, few)))) (pairs i j d before inside))

-- slots of one cell, each a tree by itself
pub cell-meets : (p : RoutingProblem) → IsGiven p → (number : ℕ)
    → DoMeet p.route.grid (slots p.route) (roots_of [] (length (slots p.route)))
    (slots_of_cell p number)
cell-meets p given number i j d before low =
    let row : List ℕ = slots_of_cell p number in
    let n : ℕ = length (slots p.route) in
    let rivals = rivals-in p given number in
    let first : i < length row = omega (arith, before, low) in
    let itself : (s : ℕ) → s < n → get_or (roots_of [] n) s 0 ≡ s =
    λ s inside. root-first [] n s inside refl in
    let met = cell-pair p given (roots_of [] n)
    (λ s inside. ap (λ (r : ℕ). (slot_at (slots p.route) r).net) (itself s inside))
    number i j before low in
    let at_i : get_or (roots_of [] n) (get_or row i 0) 0 ≡ get_or row i d =
    itself (get_or row i 0) (rivals.within i first) ∙ sym (get_or_default row i d 0 first) in
    let at_j : get_or (roots_of [] n) (get_or row j 0) 0 ≡ get_or row j d =
    itself (get_or row j 0) (rivals.within j low) ∙ sym (get_or_default row j d 0 low) in
    subst (λ (a : ℕ). meet p.route.grid (slots p.route) (roots_of [] n) (get_or row j d) a ≡ true)
    at_i
    (subst (λ (b : ℕ). meet p.route.grid (slots p.route) (roots_of [] n) b
    (get_or (roots_of [] n) (get_or row i 0) 0) ≡ true) at_j met)

-- the first of them, one more than there are tracks
pub cell-row-meets : (p : RoutingProblem) → IsGiven p → (number width : ℕ) (roots row : List ℕ)
    → roots ≡ roots_of [] (length (slots p.route)) → row ≡ take (suc width) (slots_of_cell p number)
    → DoMeet p.route.grid (slots p.route) roots row
cell-row-meets p given number width roots row are is =
    let alone : List ℕ = roots_of [] (length (slots p.route)) in
    subst (λ (xs : List ℕ). DoMeet p.route.grid (slots p.route) xs row) (sym are)
    (subst (λ (ys : List ℕ). DoMeet p.route.grid (slots p.route) alone ys) (sym is)
    (pairs-take (λ a b. meet p.route.grid (slots p.route) alone b a ≡ true) (suc width)
    (slots_of_cell p number) (cell-meets p given number)))

pub crowd-row-meets : (p : RoutingProblem) (crowd : List ℕ) → IsCrowd p crowd → (width : ℕ)
    (roots row : List ℕ) → roots ≡ tree_of p → row ≡ take (suc width) crowd
    → DoMeet p.route.grid (slots p.route) roots row
crowd-row-meets p crowd known width roots row are is =
    subst (λ (xs : List ℕ). DoMeet p.route.grid (slots p.route) xs row) (sym are)
    (subst (λ (ys : List ℕ). DoMeet p.route.grid (slots p.route) (tree_of p) ys) (sym is)
    (pairs-take (λ a b. meet p.route.grid (slots p.route) (tree_of p) b a ≡ true) (suc width)
    crowd known.met))

-- ---- tables

module _ (row : List ℕ) (places : List (Option ℕ)) (at : ℕ) (differ : AllPairs (λ s t. s ≢ t) row)
    (inside : at < length row) (low : get_or row at 0 < length places)
    (before : ArePlaces row at places) where
  pub places-more : ArePlaces row (at + 1) (slice_set places (get_or row at 0) (Some at))
  places-more = record {
    there = λ k few. elim (cases_lt k at) [
      | inl earlier ↦
          get_or-set_other places (get_or row at 0) (get_or row k 0) (Some at) None
          (differ k at 0 earlier inside)
          ∙ before.there k earlier
      | inr not_earlier ↦
          (let same : at ≡ k = omega (arith, few, not_earlier) in
          subst (λ (m : ℕ). get_or (slice_set places (get_or row at 0) (Some at)) (get_or row m 0)
          None ≡ Some m) same
          (get_or-set_same places (get_or row at 0) (Some at) None low))
    ];
    alone = λ s k room is. elim (cases-eq s (get_or row at 0)) [
      | inl same ↦
          (let now : Some at ≡ Some k =
          sym (get_or-set_same places (get_or row at 0) (Some at) None low)
          ∙ ap (λ (m : ℕ). get_or (slice_set places (get_or row at 0) (Some at)) m None) (sym same)
          ∙ is in
          let one : at ≡ k = some_is now in (
            omega (arith, one),
            ap (λ (m : ℕ). get_or row m 0) (sym one) ∙ sym same,
          ))
      | inr other ↦
          (let was = before.alone s k
          (omega (arith, room, length-set places (get_or row at 0) (Some at)))
          (sym (get_or-set_other places (get_or row at 0) s (Some at) None other) ∙ is) in (
            omega (arith, was.0),
            was.1,
          ))
    ];
  }

module _ (grid : Size) (all : List Slot) (t : TreesState) (root s : ℕ) (taken : List (Option ℕ))
    (before : AreTaken grid all t root s taken) where
  pub taken-other : root_at t s ≢ root → AreTaken grid all t root (s + 1) taken
  taken-other other = record {
    there = λ k few of_tree. elim (cases_lt k s) [
      | inl earlier ↦ before.there k earlier of_tree
      | inr not_earlier ↦
          (let same : k ≡ s = omega (arith, few, not_earlier) in
          absurd (other (subst (λ (m : ℕ). root_at t m ≡ root) same of_tree)))
    ];
    alone = λ number k room is. let was = before.alone number k room is in (
      omega (arith, was.0),
      was.1,
      was.2,
    );
  }

  pub taken-more : root_at t s ≡ root → number_at grid all s < length taken
      → AreTaken grid all t root (s + 1) (slice_set taken (number_at grid all s) (Some s))
  taken-more own low = record {
    there = λ k few of_tree. elim (cases-eq (number_at grid all k) (number_at grid all s)) [
      | inl same ↦
          (λ e. none_is_not_some (sym (subst (λ (m : ℕ). get_or now m None ≡ None) same e)
          ∙ get_or-set_same taken (number_at grid all s) (Some s) None low))
      | inr other ↦
          (elim (cases_lt k s) [
            | inl earlier ↦
                (λ e. before.there k earlier of_tree
                (sym (get_or-set_other taken (number_at grid all s) (number_at grid all k) (Some s)
                None other) ∙ e))
            | inr not_earlier ↦
                (let same : k ≡ s = omega (arith, few, not_earlier) in
                absurd (other (ap (number_at grid all) same)))
          ])
    ];
    alone = λ number k room is. elim (cases-eq number (number_at grid all s)) [
      | inl same ↦
          (let one : s ≡ k = some_is
          (sym (get_or-set_same taken (number_at grid all s) (Some s) None low)
          ∙ subst (λ (m : ℕ). get_or now m None ≡ Some k) same is) in (
            omega (arith, one),
            subst (λ (m : ℕ). root_at t m ≡ root) one own,
            ap (number_at grid all) (sym one) ∙ sym same,
          ))
      | inr other ↦
          (let was = before.alone number k
          (omega (arith, room, length-set taken (number_at grid all s) (Some s)))
          (sym (get_or-set_other taken (number_at grid all s) number (Some s) None other) ∙ is) in (
            omega (arith, was.0),
            was.1,
            was.2,
          ))
    ];
  }
    where
      now : List (Option ℕ)
      now = slice_set taken (number_at grid all s) (Some s)

-- ---- what is noted

module _ (grid : Size) (all : List Slot) (t : TreesState) (taken : List (Option ℕ)) where
  -- a slot more that is not of the tree, or has no cell that is taken
  noted-skip : (root s : ℕ) (o : Option Meeting)
      → (root_at t s ≡ root → get_or taken (number_at grid all s) None ≡ None)
      → IsNoted grid all t taken root s o → IsNoted grid all t taken root (s + 1) o
  noted-skip root s None skip noted = λ k few own. elim (cases_lt k s) [
    | inl earlier ↦ noted k earlier own
    | inr not_earlier ↦
        (let same : s ≡ k = omega (arith, few, not_earlier) in
        subst (λ (m : ℕ). get_or taken (number_at grid all m) None ≡ None) same
        (skip (subst (λ (m : ℕ). root_at t m ≡ root) (sym same) own)))
  ]
  noted-skip root s (Some m) skip noted = (omega (arith, noted.0), noted.1, noted.2)

  module _ (row : List ℕ) (places : List (Option ℕ)) (at s : ℕ) (found : List (Option Meeting))
      (few : at ≤ length row) (are : ArePlaces row (length row) places)
      (noted : AreNoted grid all t taken row at s found) where
    -- the slot is of no tree before
    pub noted-none : ((lower : ℕ) → lower < at → get_or places (root_at t s) None ≢ Some lower)
        → AreNoted grid all t taken row at (s + 1) found
    noted-none none lower low =
        noted-skip (get_or row lower 0) s (meeting_at found lower at) (λ own.
        absurd (none lower low
        (ap (λ (m : ℕ). get_or places m None) own ∙ are.there lower (omega (arith, low, few)))))
        (noted lower low)

    -- its cell is not taken
    pub noted-free : get_or taken (number_at grid all s) None ≡ None
        → AreNoted grid all t taken row at (s + 1) found
    noted-free free lower low =
        noted-skip (get_or row lower 0) s (meeting_at found lower at) (λ own. free)
        (noted lower low)

    -- it is
    module _ (place higher : ℕ) (room : at * COUNTED_LIMIT + place < length found)
        (low_place : place < at) (low_at : at < COUNTED_LIMIT)
        (low_root : root_at t s < length places)
        (there : get_or places (root_at t s) None ≡ Some place)
        (is_taken : get_or taken (number_at grid all s) None ≡ Some higher) where
      abbrev now : List (Option Meeting)
      now = slice_set found (at * COUNTED_LIMIT + place)
          (Some (record { lower = s; higher = higher }))

      pub noted-more : AreNoted grid all t taken row at (s + 1) now
      noted-more lower low = elim (cases-eq lower place) [
        | inl same ↦
            (let here : meeting_at now lower at ≡ Some (record { lower = s; higher = higher }) =
            ap (λ (m : ℕ). meeting_at now m at) same
            ∙ get_or-set_same found (at * COUNTED_LIMIT + place)
            (Some (record { lower = s; higher = higher })) None room in
            let own : get_or row lower 0 ≡ root_at t s =
            ap (λ (m : ℕ). get_or row m 0) same
            ∙ (are.alone (root_at t s) place low_root there).1 in
            subst (λ (o : Option Meeting). IsNoted grid all t taken (get_or row lower 0) (s + 1) o)
            (sym here) (omega arith, sym own, is_taken))
        | inr other ↦
            (let as_was : meeting_at now lower at ≡ meeting_at found lower at =
            get_or-set_other found (at * COUNTED_LIMIT + place) (at * COUNTED_LIMIT + lower)
            (Some (record { lower = s; higher = higher })) None
            (λ e. other (omega (arith, e))) in
            subst (λ (o : Option Meeting). IsNoted grid all t taken (get_or row lower 0) (s + 1) o)
            (sym as_was)
            (noted-skip (get_or row lower 0) s (meeting_at found lower at) (λ own.
            let mine : get_or places (root_at t s) None ≡ Some lower =
            ap (λ (m : ℕ). get_or places m None) own
            ∙ are.there lower (omega (arith, low, few)) in
            absurd (other (some_is (sym mine ∙ there)))) (noted lower low)))
      ]

      pub others-kept : KeepsOthers at found now
      others-kept lower higher_at low other =
          get_or-set_other found (at * COUNTED_LIMIT + place) (higher_at * COUNTED_LIMIT + lower)
          (Some (record { lower = s; higher = higher })) None
          (λ e. other (omega (arith, e, low, low_place, low_at)))

-- ---- what is found

module _ (grid : Size) (all : List Slot) (t : TreesState)
    (cells : All (λ slot. IsTrue (is_cell grid slot.cell)) all) where
  -- what is noted of trees that meet is where they do
  found-there : (a b : ℕ) (taken : List (Option ℕ)) (o : Option Meeting)
      → length taken ≡ cell_count grid → meet grid all t.roots b a ≡ true
      → AreTaken grid all t b (length all) taken → IsNoted grid all t taken a (length all) o
      → (m : Meeting) × (o ≡ Some m) × IsMeeting all t a b m
  found-there a b taken None size met is noted =
      let parts = both_true (not ((slot_at all b).net == (slot_at all a).net)) _ met in
      let first = In-list_any (is_meeting_slot grid all t.roots b a) (below (length all)) parts.1 in
      let s : ℕ = first.0 in
      let s_low : s < length all =
      omega (arith, (from_In-range 0 (length all) s first.1).1) in
      let of_s = both_true (root_at t s == b) _ first.2 in
      let number : ℕ = number_at grid all s in
      let second = In-list_any (is_tree_in grid all t.roots a number) (below (length all)) of_s.1 in
      let r : ℕ = second.0 in
      let r_low : r < length all =
      omega (arith, (from_In-range 0 (length all) r second.1).1) in
      let of_r = both_true (root_at t r == a) _ second.2 in
      let root_s : root_at t s ≡ b = (Decides-eqb (root_at t s) b).0 of_s.0 in
      let root_r : root_at t r ≡ a = (Decides-eqb (root_at t r) a).0 of_r.0 in
      let same : number_at grid all r ≡ number =
      (Decides-eqb (number_at grid all r) number).0 of_r.1 in
      absurd (is.there s s_low root_s
      (ap (λ (m : ℕ). get_or taken m None) (sym same) ∙ noted r r_low root_r))
  found-there a b taken (Some m) size met is noted =
      let parts = both_true (not ((slot_at all b).net == (slot_at all a).net)) _ met in
      let there = cells m.lower NO_SLOT noted.0 in
      let within : number_at grid all m.lower < cell_count grid =
      number-within grid (slot_at all m.lower).cell.axis (slot_at all m.lower).cell.x
      (slot_at all m.lower).cell.y there in
      let other = is.alone (number_at grid all m.lower) m.higher (omega (arith, within, size))
      noted.2 in (
        m,
        refl,
        record {
          lower = noted.0;
          higher = other.0;
          of_lower = noted.1;
          of_higher = other.1;
          cells = sym (number-alone grid (slot_at all m.lower).cell there
              (slot_at all m.higher).cell (cells m.higher NO_SLOT other.0) other.2);
          nets = λ e. not-both ((slot_at all b).net == (slot_at all a).net) parts.0
              ((Decides-eqb (slot_at all b).net (slot_at all a).net).1 (sym e));
        },
      )
    where
      not-both : (b : Bool) → not b ≡ true → b ≡ true → ⊥
      not-both true h g = false≢true h
      not-both false h g = false≢true g

  -- a place more
  pub found-more : (row : List ℕ) (at : ℕ) (old new : List (Option Meeting))
      (taken : List (Option ℕ)) → DoMeet grid all t.roots row → at < length row
      → length row ≤ COUNTED_LIMIT → length taken ≡ cell_count grid
      → AreTaken grid all t (get_or row at 0) (length all) taken → KeepsOthers at old new
      → AreNoted grid all t taken row at (length all) new → AreFound all t row at old
      → AreFound all t row (at + 1) new
  found-more row at old new taken meets low few size is others noted found lower higher
      order before =
      elim (cases_lt higher at) [
        | inl earlier ↦
            (let was = found lower higher order earlier in
            let as_was : meeting_at new lower higher ≡ meeting_at old lower higher =
            others lower higher (omega (arith, order, earlier, low, few))
            (λ e. absurd (omega (arith, e, earlier))) in (
              (λ e. was.0 (sym as_was ∙ e)),
              (λ m e. was.1 m (sym as_was ∙ e)),
            ))
        | inr not_earlier ↦
            (let same : at ≡ higher = omega (arith, before, not_earlier) in
            let there = found-there (get_or row lower 0) (get_or row at 0) taken
            (meeting_at new lower at) size (meets lower at 0 (omega (arith, order, same)) low) is
            (noted lower (omega (arith, order, same))) in
            subst (λ (n : ℕ). (meeting_at new lower n ≢ None)
            × ((m : Meeting) → meeting_at new lower n ≡ Some m
            → IsMeeting all t (get_or row lower 0) (get_or row n 0) m)) same (
              (λ e. none_is_not_some (sym e ∙ there.1)),
              (λ m e.
                  subst (λ (k : Meeting). IsMeeting all t (get_or row lower 0) (get_or row at 0) k)
                  (some_is (sym there.1 ∙ e)) there.2),
            ))
      ]

pub unknown-more : (at : ℕ) (old new : List (Option Meeting)) → KeepsOthers at old new
    → AreUnknown at old → AreUnknown (at + 1) new
unknown-more at old new others unknown lower higher low from few =
    others lower higher low (λ e. absurd (omega (arith, e, from)))
    ∙ unknown lower higher low (omega (arith, from)) few

-- nothing is found of no places
pub none-found : (all : List Slot) (t : TreesState) (row : List ℕ)
    (found : List (Option Meeting)) → AreFound all t row 0 found
none-found all t row found lower higher order none = absurd (omega (arith, none))

-- nothing is known at first
pub none-known : (found : List (Option Meeting)) → length found ≡ COUNTED_LIMIT * COUNTED_LIMIT
    → All (λ meeting. meeting ≡ None) found → AreUnknown 0 found
none-known found size none lower higher low from few =
    none (higher * COUNTED_LIMIT + lower) None (omega (arith, size, low, few))
