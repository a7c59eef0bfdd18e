-- What is gathered is a crowd.
use Rattle.std.proofs.Common.{◌≡◌, ℕ, ◌+◌, ◌<◌, ◌≤◌, Bool, true, false, cond, Some, List, [], ◌∷◌, ◌++◌, length, length-append, get_or, suc, refl, sym, ap, subst, ◌∙◌, inl, inr, arith, All}
use Rattle.std.specs.Prelude.{◌==◌, ◌&&◌, nat_le, nat_lt, min, find, map, slice_index}
use Rattle.std.specs.List.{list_all}
use Rattle.std.proofs.lemmas.Bool.{cases_lt}
use Rattle.std.proofs.lemmas.Bool.Decides.{nat_tests}
use Rattle.std.proofs.lemmas.List.{get_or-map, length-map, map-append}
use Rattle.std.proofs.lemmas.List.Elements.{All-get_or, All-push}
use Rattle.std.proofs.lemmas.List.Quantifiers.{all_pairs_push}
use Rattle.list_laws.proofs.Members.{In, In-all, In-append_cases, In-append_right, In-get, In-range, all-from_In, contains-In, find-In, from_In-filter, from_In-map, from_In-range}
use Rattle.fpga_types.specs.CellNumbers.{cell_count, number_of_cell}
use Rattle.fpga_types.specs.Given.{IsGiven}
use Rattle.fpga_types.specs.Problem.{RoutingProblem}
use Rattle.fpga_types.specs.Size.{Size}
use Rattle.fpga_types.specs.Slots.{slot_at, slots, steps}
use Rattle.fpga_types.specs.declared.limits.TheConstants.{SLOT_LIMIT}
use Rattle.fpga_types.specs.declared.problem.Slot.{Slot}
use Rattle.fpga_types.proofs.MeetingLemmas.{both_true}
use Rattle.route_encode.specs.Encoding.{below}
use Rattle.route_encode.proofs.RivalLemmas.{range-append}
use Rattle.problem_facts.specs.Crowd.{AreMeeting, IsCrowd, IsGatheredFrom, gathered, gathered_from, joined_by, longer, tree_of}
use Rattle.problem_facts.specs.Fullest.{has_most, slots_in}
use Rattle.problem_facts.specs.Gathering.{AreWhole}
use Rattle.problem_facts.specs.Trees.{AreRooted, meet}
use Rattle.problem_facts.specs.declared.limits.TheConstants.{CROWD_LIMIT}
use Rattle.problem_facts.proofs.CellMeets.{cell-pair}
use Rattle.problem_facts.proofs.GatherLemmas.{all-more, gathered-full}
use Rattle.problem_facts.proofs.LeadLemmas.{root-root}
use Rattle.problem_facts.proofs.SlotCells.{all-there}
use Rattle.problem_facts.proofs.TrackLaws.{root-alike, steps-in-nets}
use Rattle.problem_facts.proofs.TreeLemmas.{length-roots, roots-within}

passes : (p : ℕ → Bool) (xs : List ℕ) (x : ℕ) → list_all p xs ≡ true → In xs x → p x ≡ true
passes p [] x h i = absurd i
passes p (y ∷ ys) x h (inl e) = ap p (sym e) ∙ (both_true (p y) (list_all p ys) h).0
passes p (y ∷ ys) x h (inr i) = passes p ys x (both_true (p y) (list_all p ys) h).1 i

none : (P : ℕ → Type 0) → All P []
none P k d low = absurd (omega (arith, low))

-- ---- gathering, whatever meets

module _ (meets : ℕ → ℕ → Bool) where
  one-more : (taken : List ℕ) (tree : ℕ) → AreMeeting meets taken
      → list_all (meets tree) taken ≡ true → AreMeeting meets (taken ++ tree ∷ [])
  one-more taken tree h all =
      all_pairs_push (λ earlier later. meets later earlier ≡ true) taken tree h
      (λ k d low. passes (meets tree) taken (get_or taken k d) all (In-get taken k d low))

  joined-meet : (taken : List ℕ) (tree : ℕ) → AreMeeting meets taken
      → AreMeeting meets (joined_by meets taken tree)
  joined-meet taken tree h =
      go (list_all (meets tree) taken) (nat_lt (length taken) CROWD_LIMIT) refl
    where
      go : (b c : Bool) → list_all (meets tree) taken ≡ b
          → AreMeeting meets (cond (b && c) (taken ++ tree ∷ []) taken)
      go true true e = one-more taken tree h e
      go true false e = h
      go false c e = h

  gathered-meet : (taken trees : List ℕ) → AreMeeting meets taken
      → AreMeeting meets (gathered meets taken trees)
  gathered-meet taken [] h = h
  gathered-meet taken (tree ∷ trees) h =
      gathered-meet (joined_by meets taken tree) trees (joined-meet taken tree h)

  -- they are no more than there is room for
  gathered-few : (taken trees : List ℕ) → length taken ≤ CROWD_LIMIT
      → length (gathered meets taken trees) ≤ CROWD_LIMIT
  gathered-few taken [] few = few
  gathered-few taken (tree ∷ trees) few =
      gathered-few (joined_by meets taken tree) trees
      (go (list_all (meets tree) taken) (nat_lt (length taken) CROWD_LIMIT) refl)
    where
      is-below : (a : ℕ) → nat_lt a CROWD_LIMIT ≡ true → a < CROWD_LIMIT
      is-below a h = grind (arith, nat_tests)

      go : (b c : Bool) → nat_lt (length taken) CROWD_LIMIT ≡ c
          → length (cond (b && c) (taken ++ tree ∷ []) taken) ≤ CROWD_LIMIT
      go true true e =
          omega (arith, is-below (length taken) e, length-append taken (tree ∷ []))
      go true false e = few
      go false c e = few

  -- and no fewer than before
  gathered-grows : (taken trees : List ℕ) → length taken ≤ length (gathered meets taken trees)
  gathered-grows taken [] = omega arith
  gathered-grows taken (tree ∷ trees) =
      let more = gathered-grows (joined_by meets taken tree) trees in
      let joined = go (list_all (meets tree) taken && nat_lt (length taken) CROWD_LIMIT) in
      omega (arith, more, joined)
    where
      go : (b : Bool) → length taken ≤ length (cond b (taken ++ tree ∷ []) taken)
      go true = omega (arith, length-append taken (tree ∷ []))
      go false = omega arith

  -- trees of which each meets those before it are all taken, as far as there is room
  gathered-long : (xs more taken : List ℕ) → length taken ≤ CROWD_LIMIT
      → ((k : ℕ) → k < length xs → list_all (meets (get_or xs k 0)) taken ≡ true)
      → ((i j : ℕ) → i < j → j < length xs → meets (get_or xs j 0) (get_or xs i 0) ≡ true)
      → min (length taken + length xs) CROWD_LIMIT ≤ length (gathered meets taken (xs ++ more))
  gathered-long [] more taken few each pairs =
      let grows = gathered-grows taken more in omega (arith, grows)
  gathered-long (x ∷ xs) more taken few each pairs = elim (cases_lt (length taken) CROWD_LIMIT) [
    | inl room ↦
        (let here : list_all (meets x) taken ≡ true = each 0 (omega arith) in
        let joins : joined_by meets taken x ≡ taken ++ x ∷ [] =
        rw (here, is-room (length taken) room) refl in
        let size = length-append taken (x ∷ []) in
        let rest = gathered-long xs more (taken ++ x ∷ []) (omega (arith, room, size))
        (λ k low. all-more meets (get_or xs k 0) x taken
        ∙ both (list_all (meets (get_or xs k 0)) taken) (meets (get_or xs k 0) x)
        (each (suc k) (omega (arith, low))) (pairs 0 (suc k) (omega arith) (omega (arith, low))))
        (λ i j before low. pairs (suc i) (suc j) (omega (arith, before)) (omega (arith, low))) in
        subst (λ (ys : List ℕ). min (length taken + suc (length xs)) CROWD_LIMIT
        ≤ length (gathered meets ys (xs ++ more))) (sym joins) (omega (arith, rest, size)))
    | inr full ↦
        (let same = ap length (gathered-full meets (x ∷ (xs ++ more)) taken
        (omega (arith, full))) in omega (arith, same, full))
  ]
    where
      is-room : (n : ℕ) → n < CROWD_LIMIT → nat_lt n CROWD_LIMIT ≡ true
      is-room n h = grind (arith, nat_tests)

      both : (a b : Bool) → a ≡ true → b ≡ true → (a && b) ≡ true
      both a b h g = rw (h, g) refl

  module _ (P : ℕ → Type 0) where
    joined-all : (taken : List ℕ) (tree : ℕ) → All P taken → P tree
        → All P (joined_by meets taken tree)
    joined-all taken tree h own =
        go (list_all (meets tree) taken && nat_lt (length taken) CROWD_LIMIT)
      where
        go : (b : Bool) → All P (cond b (taken ++ tree ∷ []) taken)
        go true = All-push P taken tree h own
        go false = h

    gathered-all : (trees taken : List ℕ) → All P taken → ((tree : ℕ) → In trees tree → P tree)
        → All P (gathered meets taken trees)
    gathered-all [] taken h each = h
    gathered-all (tree ∷ trees) taken h each =
        gathered-all trees (joined_by meets taken tree)
        (joined-all taken tree h (each tree (inl refl))) (λ t i. each t (inr i))

-- ---- the slots that are gone over

-- the numbers below one more
pub below-more : (k : ℕ) → below (k + 1) ≡ below k ++ k ∷ []
below-more k =
    range-append 0 k 1
    ∙ (let e : 0 + k ≡ k = omega arith in ap (λ (m : ℕ). below k ++ m ∷ []) e)

-- they are all slots, some twice
front-low : (front : List ℕ) (count : ℕ) → All (λ s. s < count) front → (s : ℕ)
    → In (front ++ below count) s → s < count
front-low front count low s i = elim (In-append_cases front (below count) s i) as
    (λ _. s < count) [
      | inl own ↦ In-all (λ t. t < count) front s low own
      | inr any ↦ (let r = from_In-range 0 count s any in omega (arith, r.1))
    ]

pub slots-whole : (all : List Slot) (roots front : List ℕ) → length roots ≡ length all
    → All (λ s. s < length all) front → AreWhole roots (front ++ below (length all))
slots-whole all roots front each low = record {
  within = all-from_In (λ s. s < length roots) rest (λ s i.
      let inside = front-low front (length all) low s i in omega (arith, inside, each));
  whole = λ s t here inside same. contains-In rest t
      (In-append_right front (below (length all)) t
      (In-range 0 (length all) t (omega arith) (omega (arith, inside, each))));
}
  where
    rest : List ℕ
    rest = front ++ below (length all)

-- those of a cell are slots
pub slots-low : (grid : Size) (all : List Slot) (cell : ℕ)
    → All (λ s. s < length all) (slots_in grid all cell)
slots-low grid all cell = all-from_In (λ s. s < length all) (slots_in grid all cell) (λ s i.
    let kept = from_In-filter (λ n. number_of_cell grid (slot_at all n).cell == cell)
    (below (length all)) s i in
    let low = from_In-range 0 (length all) s kept.0 in
    omega (arith, low.1))

-- ---- the longer one

module _ (grid : Size) (all : List Slot) (roots : List ℕ) (cell : ℕ) (own first : List ℕ)
    (own_is : own ≡ slots_in grid all cell) (first_is : first ≡ gathered_from grid all roots own)
  where
    pub is-first : IsGatheredFrom grid all roots cell first
    is-first = record {
      front = own;
      within = subst (λ (ss : List ℕ). All (λ s. s < length all) ss) (sym own_is)
          (slots-low grid all cell);
      same = first_is;
      many =
          let size : length first ≡ length (gathered_from grid all roots (slots_in grid all cell)) =
          ap length (first_is ∙ ap (gathered_from grid all roots) own_is) in
          omega (arith, size);
    }

    pub is-longer : (found second : List ℕ) → All (λ s. s < length all) found
        → second ≡ gathered_from grid all roots found
        → IsGatheredFrom grid all roots cell (longer first second)
    is-longer found second low second_is = go (nat_lt (length first) (length second)) refl
      where
        is-below : (a b : ℕ) → nat_lt a b ≡ true → a < b
        is-below a b h = grind (arith, nat_tests)

        go : (b : Bool) → nat_lt (length first) (length second) ≡ b
            → IsGatheredFrom grid all roots cell (cond b second first)
        go true e = record {
          front = found;
          within = low;
          same = second_is;
          many =
              let rises = is-below (length first) (length second) e in
              omega (arith, rises, is-first.many);
        }
        go false e = is-first

-- the slots of a problem, each with the one that stands for its tree
pub are-rooted : (p : RoutingProblem) → IsGiven p → length (slots p.route) ≤ SLOT_LIMIT
    → AreRooted p.route.grid (slots p.route) (tree_of p)
are-rooted p given few = record {
  few = few;
  there = all-there p.route given.route;
  each = length-roots (steps p.route) (length (slots p.route));
  within = roots-within (steps p.route) (length (slots p.route));
}

-- ---- what is gathered of a problem

module _ (p : RoutingProblem) where
  abbrev all : List Slot
  all = slots p.route

  abbrev grid : Size
  grid = p.route.grid

  abbrev roots : List ℕ
  roots = tree_of p

  abbrev n : ℕ
  n = length all

  trees-all : (P : ℕ → Type 0) → ((s : ℕ) → s < n → P (slice_index roots s)) → (front : List ℕ)
      → All (λ s. s < n) front → All P (gathered_from grid all roots front)
  trees-all P own front low =
      gathered-all (meet grid all roots) P (map (slice_index roots) (front ++ below n)) [] (none P)
      (λ tree i. let m = from_In-map (slice_index roots) (front ++ below n) tree i in
      subst P m.2 (own m.0 (front-low front n low m.0 m.1)))

  root-low : (s : ℕ) → s < n → slice_index roots s < n
  root-low s low = All-get_or (λ root. root < n) roots s 0
      (omega (arith, low, length-roots (steps p.route) n)) (roots-within (steps p.route) n)

  -- as many as the cell has slots
  long-from : IsGiven p → (cell : ℕ)
      → min (length (slots_in grid all cell)) CROWD_LIMIT
      ≤ length (gathered_from grid all roots (slots_in grid all cell))
  long-from given cell =
      let row : List ℕ = slots_in grid all cell in
      let trees : List ℕ = map (slice_index roots) row in
      let size : length trees ≡ length row = length-map row (slice_index roots) in
      let parts : map (slice_index roots) (row ++ below n)
      ≡ trees ++ map (slice_index roots) (below n) =
      map-append (slice_index roots) row (below n) in
      let long = gathered-long (meet grid all roots) trees (map (slice_index roots) (below n)) []
      (omega arith) (λ k low. refl) (λ i j before low.
      let high : j < length row = omega (arith, low, size) in
      let first : i < length row = omega (arith, before, high) in
      let at_i : get_or trees i 0 ≡ slice_index roots (get_or row i 0) =
      get_or-map (slice_index roots) row i 0 0 first in
      let at_j : get_or trees j 0 ≡ slice_index roots (get_or row j 0) =
      get_or-map (slice_index roots) row j 0 0 high in
      subst (λ (a : ℕ). meet grid all roots (get_or trees j 0) a ≡ true) (sym at_i)
      (subst (λ (b : ℕ). meet grid all roots b (slice_index roots (get_or row i 0)) ≡ true)
      (sym at_j)
      (cell-pair p given roots (λ s low.
      root-alike (λ m. (slot_at all m).net) (steps p.route) (steps-in-nets p.route) n s low)
      cell i j before high))) in
      subst (λ (ys : List ℕ). min (length row) CROWD_LIMIT
      ≤ length (gathered (meet grid all roots) [] ys)) (sym parts)
      (omega (arith, long, size))

  pub is-crowd : IsGiven p → (cell : ℕ)
      → find (has_most grid all) (below (cell_count grid)) ≡ Some cell → (crowd : List ℕ)
      → IsGatheredFrom grid all roots cell crowd → IsCrowd p crowd
  is-crowd given cell first crowd h = record {
    few = subst (λ (ys : List ℕ). length ys ≤ CROWD_LIMIT) (sym h.same)
        (gathered-few (meet grid all roots) []
        (map (slice_index roots) (h.front ++ below n)) (omega arith));
    within = subst (λ (ys : List ℕ). All (λ s. s < n) ys) (sym h.same)
        (trees-all (λ s. s < n) root-low h.front h.within);
    firsts = subst (λ (ys : List ℕ). All (λ s. slice_index roots s ≡ s) ys) (sym h.same)
        (trees-all (λ s. slice_index roots s ≡ s) (λ s low. root-root (steps p.route) n s low)
        h.front h.within);
    met = subst (λ (ys : List ℕ). AreMeeting (meet grid all roots) ys) (sym h.same)
        (gathered-meet (meet grid all roots) []
        (map (slice_index roots) (h.front ++ below n))
        (λ i j d before low. absurd (omega (arith, low))));
    many = λ number low.
        let most = find-In (has_most grid all) (below (cell_count grid)) cell first in
        let fewer = passes (λ other. nat_le (length (slots_in grid all other))
        (length (slots_in grid all cell))) (below (cell_count grid)) number most.1
        (In-range 0 (cell_count grid) number (omega arith) (omega (arith, low))) in
        let less = at-most (length (slots_in grid all number)) (length (slots_in grid all cell))
        fewer in
        let long = long-from given cell in
        omega (arith, less, long, h.many);
  }
    where
      at-most : (a b : ℕ) → nat_le a b ≡ true → a ≤ b
      at-most a b e = grind (arith, nat_tests)
