-- How trees are gathered: each that meets all taken ones is taken, and slots of others fall away.
use Rattle.std.proofs.Common.{◌≡◌, ℕ, ◌+◌, ◌<◌, ◌≤◌, Bool, true, false, cond, List, [], ◌∷◌, ◌++◌, length, length-append, get_or, refl, sym, ap, subst, ◌∙◌, inl, inr, arith, All}
use Rattle.std.specs.Prelude.{◌==◌, ◌&&◌, nat_lt, not, filter, map, slice_index, slice_index_or}
use Rattle.std.specs.List.{list_all, list_any}
use Rattle.std.proofs.lemmas.Bool.Decides.{Decides-eqb, nat_tests}
use Rattle.std.proofs.lemmas.List.{get_or-drop}
use Rattle.std.proofs.lemmas.List.Filters.{FiltersInPlace, length-filter_both}
use Rattle.std.proofs.lemmas.List.Folds.{list_all-append}
use Rattle.list_laws.proofs.Members.{In, In-all, In-contains, In-filter, In-list_any, In-range, all-from_In, contains-In, from_In-filter, from_In-range, list_any-from_In}
use Rattle.fpga_types.specs.CellNumbers.{cell_count, number_of_cell}
use Rattle.fpga_types.specs.Size.{Size}
use Rattle.fpga_types.specs.Slots.{NO_SLOT, slot_at}
use Rattle.fpga_types.specs.declared.grid.Cell.{Cell}
use Rattle.fpga_types.specs.declared.problem.Slot.{Slot}
use Rattle.fpga_types.proofs.CellLemmas.{number-within}
use Rattle.fpga_types.proofs.MeetingLemmas.{both_true}
use Rattle.route_encode.specs.Encoding.{below}
use Rattle.problem_facts.specs.Crowd.{gathered, joined_by}
use Rattle.problem_facts.specs.Gathering.{AreGathered, AreHeld, AreMarked, AreWhole, is_kept, is_touching}
use Rattle.problem_facts.specs.Trees.{AreRooted, has_cell, is_meeting_slot, is_tree_in, meet}
use Rattle.problem_facts.specs.declared.limits.TheConstants.{CROWD_LIMIT}

-- ---- tests of lists

-- what stands from a place on stands there
pub in-place-at : (p : ℕ → Bool) (xs ys : List ℕ) (k i d : ℕ) → FiltersInPlace p xs ys k i
    → get_or ys i d ≡ get_or xs i d
in-place-at p xs ys k i d h =
    let e : i + 0 ≡ i = omega arith in
    sym (get_or-drop i ys 0 d ∙ ap (λ (n : ℕ). get_or ys n d) e)
    ∙ ap (λ (zs : List ℕ). get_or zs 0 d) h.rest
    ∙ get_or-drop i xs 0 d ∙ ap (λ (n : ℕ). get_or xs n d) e

pub filter-alike : (p q : ℕ → Bool) (xs : List ℕ) → ((x : ℕ) → In xs x → p x ≡ q x)
    → filter p xs ≡ filter q xs
filter-alike p q [] h = refl
filter-alike p q (x ∷ xs) h =
    rw (h x (inl refl), filter-alike p q xs (λ y i. h y (inr i))) refl

any-alike : (p q : ℕ → Bool) (xs : List ℕ) → ((x : ℕ) → In xs x → p x ≡ q x)
    → list_any p xs ≡ list_any q xs
any-alike p q [] h = refl
any-alike p q (x ∷ xs) h =
    rw (h x (inl refl), any-alike p q xs (λ y i. h y (inr i))) refl

pub map-filter : (f : ℕ → ℕ) (p : ℕ → Bool) (xs : List ℕ)
    → map f (filter (λ x. p (f x)) xs) ≡ filter p (map f xs)
map-filter f p [] = refl
map-filter f p (x ∷ xs) = go (p (f x)) (map-filter f p xs)
  where
    go : (b : Bool) → map f (filter (λ y. p (f y)) xs) ≡ filter p (map f xs)
        → map f (cond b (x ∷ filter (λ y. p (f y)) xs) (filter (λ y. p (f y)) xs))
        ≡ cond b (f x ∷ filter p (map f xs)) (filter p (map f xs))
    go true e = ap (λ (ys : List ℕ). f x ∷ ys) e
    go false e = e

same-bool : (a b : Bool) → (a ≡ true → b ≡ true) → (b ≡ true → a ≡ true) → a ≡ b
same-bool true b h g = sym (h refl)
same-bool false true h g = g refl
same-bool false false h g = refl

-- ---- whole trees

module _ (roots rest : List ℕ) (whole : AreWhole roots rest) where
  in-low : (s : ℕ) → In rest s → s < length roots
  in-low s i = In-all (λ (t : ℕ). t < length roots) rest s whole.within i

  -- a test that only slots of a tree pass that is there passes at one of these where it passes at
  -- one of all
  whole-any : (s : ℕ) → In rest s → (f : ℕ → Bool)
      → ((t : ℕ) → f t ≡ true → slice_index roots t ≡ slice_index roots s)
      → list_any f rest ≡ list_any f (below (length roots))
  whole-any s i f same =
      same-bool (list_any f rest) (list_any f (below (length roots)))
      (λ h. let r = In-list_any f rest h in
      list_any-from_In f (below (length roots)) r.0
      (In-range 0 (length roots) r.0 (omega arith) (omega (arith, in-low r.0 r.1))) r.2)
      (λ h. let r = In-list_any f (below (length roots)) h in
      let low = (from_In-range 0 (length roots) r.0 r.1).1 in
      list_any-from_In f rest r.0
      (In-contains rest r.0 (whole.whole s r.0 (contains-In rest s i) (omega (arith, low))
      (same r.0 r.2))) r.2)

  -- slots that stay by their trees are whole trees
  pub whole-filter : (q : ℕ → Bool)
      → AreWhole roots (filter (λ s. q (slice_index roots s)) rest)
  whole-filter q = record {
    within = all-from_In (λ s. s < length roots) (filter test rest) (λ s i.
        in-low s (from_In-filter test rest s i).0);
    whole = λ s t here low same.
        let i = from_In-filter test rest s (In-contains (filter test rest) s here) in
        let j = In-contains rest t (whole.whole s t (contains-In rest s i.0) low same) in
        contains-In (filter test rest) t (In-filter test rest t j (ap q same ∙ i.1));
  }
    where
      test : ℕ → Bool
      test s = q (slice_index roots s)

module _ (grid : Size) (all : List Slot) (roots : List ℕ) (trees : AreRooted grid all roots) where
  -- the number of a slot's cell is that of a cell
  pub cell-low : (s : ℕ) → s < length all
      → number_of_cell grid (slot_at all s).cell < cell_count grid
  cell-low s low =
      let cell : Cell = (slot_at all s).cell in
      number-within grid cell.axis cell.x cell.y (trees.there s NO_SLOT low)

  -- a tree does not meet itself
  itself : (tree : ℕ) → meet grid all roots tree tree ≡ false
  itself tree =
      let e : ((slot_at all tree).net == (slot_at all tree).net) ≡ true =
      (Decides-eqb (slot_at all tree).net (slot_at all tree).net).1 refl in rw e refl

  module _ (first : ℕ) (more : List ℕ) (whole : AreWhole roots (first ∷ more)) where
    abbrev rest : List ℕ
    rest = first ∷ more

    abbrev tree : ℕ
    tree = slice_index roots first

    module _ (held marked : List Bool) (size : length held ≡ cell_count grid)
        (few : length marked ≡ length all)
        (holds : AreHeld grid all roots tree rest held)
        (marks : AreMarked grid all roots held rest marked) where
      low : (s : ℕ) → In rest s → s < length all
      low s i = omega (arith, in-low roots rest whole s i, trees.each)

      cell-held : (t : ℕ) → In rest t
          → slice_index_or held (number_of_cell grid (slot_at all t).cell) false
          ≡ has_cell grid all roots tree (number_of_cell grid (slot_at all t).cell)
      cell-held t i =
          let number : ℕ = number_of_cell grid (slot_at all t).cell in
          holds number (omega (arith, cell-low t (low t i), size))
          ∙ whole-any roots rest whole first (inl refl) (is_tree_in grid all roots tree number)
          (λ u h. (Decides-eqb (slice_index roots u) tree).0
          (both_true (slice_index roots u == tree)
          (number_of_cell grid (slot_at all u).cell == number) h).0)
          ∙ ap (λ (n : ℕ). list_any (is_tree_in grid all roots tree number) (below n)) trees.each

      -- what is kept are the slots of trees that meet this one
      kept-meets : (s : ℕ) → In rest s → is_kept all roots marked (slot_at all tree).net s
          ≡ meet grid all roots (slice_index roots s) tree
      kept-meets s i =
          let root : ℕ = slice_index roots s in
          let root_low : root < length marked =
          omega (arith, trees.within s 0 (omega (arith, low s i, trees.each)), few) in
          ap (λ (b : Bool). not ((slot_at all root).net == (slot_at all tree).net) && b)
          (marks root root_low
          ∙ any-alike (is_touching grid all roots held root)
          (is_meeting_slot grid all roots root tree) rest
          (λ t j. ap (λ (b : Bool). slice_index roots t == root && b) (cell-held t j))
          ∙ whole-any roots rest whole s i (is_meeting_slot grid all roots root tree)
          (λ u h. (Decides-eqb (slice_index roots u) root).0
          (both_true (slice_index roots u == root)
          (has_cell grid all roots tree (number_of_cell grid (slot_at all u).cell)) h).0)
          ∙ ap (λ (n : ℕ). list_any (is_meeting_slot grid all roots root tree) (below n))
          trees.each)

      pub kept-are : filter (is_kept all roots marked (slot_at all tree).net) rest
          ≡ filter (λ s. meet grid all roots (slice_index roots s) tree) rest
      kept-are = filter-alike (is_kept all roots marked (slot_at all tree).net)
          (λ s. meet grid all roots (slice_index roots s) tree) rest kept-meets

    -- the first falls away
    pub first-falls : filter (λ s. meet grid all roots (slice_index roots s) tree) rest
        ≡ filter (λ s. meet grid all roots (slice_index roots s) tree) more
    first-falls = rw (itself tree) refl

    pub fewer : length (filter (λ s. meet grid all roots (slice_index roots s) tree) rest)
        < length rest
    fewer =
        let count = length-filter_both (λ s. meet grid all roots (slice_index roots s) tree)
        (λ s. not (meet grid all roots (slice_index roots s) tree)) (λ s. refl) more in
        omega (arith, count, ap length first-falls)

-- ---- one tree more, of slots that are left

module _ (grid : Size) (all : List Slot) (roots : List ℕ) (trees : AreRooted grid all roots)
    (tree : ℕ) where
  abbrev meets_tree : ℕ → Bool
  meets_tree s = meet grid all roots (slice_index roots s) tree

  pub kept-of : (rest : List ℕ) → AreWhole roots rest → 0 < length rest
      → tree ≡ slice_index roots (slice_index rest 0) → (held marked : List Bool)
      → length held ≡ cell_count grid → length marked ≡ length all
      → AreHeld grid all roots tree rest held → AreMarked grid all roots held rest marked
      → filter (is_kept all roots marked (slot_at all tree).net) rest ≡ filter meets_tree rest
  kept-of [] whole some is held marked size few holds marks = absurd (omega (arith, some))
  kept-of (first ∷ more) whole some is held marked size few holds marks =
      subst (λ (t : ℕ). filter (is_kept all roots marked (slot_at all t).net) (first ∷ more)
      ≡ filter (λ s. meet grid all roots (slice_index roots s) t) (first ∷ more)) (sym is)
      (kept-are grid all roots trees first more whole held marked size few
      (subst (λ (t : ℕ). AreHeld grid all roots t (first ∷ more) held) is holds) marks)

  pub fewer-of : (rest : List ℕ) → AreWhole roots rest → 0 < length rest
      → tree ≡ slice_index roots (slice_index rest 0)
      → length (filter meets_tree rest) < length rest
  fewer-of [] whole some is = absurd (omega (arith, some))
  fewer-of (first ∷ more) whole some is =
      subst (λ (t : ℕ). length (filter (λ s. meet grid all roots (slice_index roots s) t)
      (first ∷ more)) < length (first ∷ more)) (sym is)
      (fewer grid all roots trees first more whole)

-- ---- gathering

module _ (meets : ℕ → ℕ → Bool) where
  pub all-more : (x y : ℕ) (taken : List ℕ)
      → list_all (meets x) (taken ++ y ∷ []) ≡ (list_all (meets x) taken && meets x y)
  all-more x y taken =
      list_all-append (meets x) taken (y ∷ [])
      ∙ ap (λ (b : Bool). list_all (meets x) taken && b) (and-true (meets x y))
    where
      and-true : (b : Bool) → (b && true) ≡ b
      and-true true = refl
      and-true false = refl

  -- where there is no room, none joins
  pub gathered-full : (xs taken : List ℕ) → CROWD_LIMIT ≤ length taken
      → gathered meets taken xs ≡ taken
  gathered-full [] taken full = refl
  gathered-full (x ∷ xs) taken full =
      let none : joined_by meets taken x ≡ taken =
      ap (λ (b : Bool). cond b (taken ++ x ∷ []) taken) (shut (list_all (meets x) taken)) in
      rw none (gathered-full xs taken full)
    where
      no-room : (n : ℕ) → CROWD_LIMIT ≤ n → nat_lt n CROWD_LIMIT ≡ false
      no-room n h = grind (arith, nat_tests)

      shut : (b : Bool) → (b && nat_lt (length taken) CROWD_LIMIT) ≡ false
      shut true = no-room (length taken) full
      shut false = refl

  -- those that don't meet a taken one may be left out
  gathered-filter : (q : ℕ → Bool) (xs taken : List ℕ)
      → ((x : ℕ) → q x ≡ false → list_all (meets x) taken ≡ false)
      → gathered meets taken (filter q xs) ≡ gathered meets taken xs
  gathered-filter q [] taken h = refl
  gathered-filter q (x ∷ xs) taken h =
      go (q x) refl (gathered-filter q xs taken h)
      (gathered-filter q xs (joined_by meets taken x) still)
    where
      still-at : (b : Bool) (y : ℕ) → q y ≡ false
          → list_all (meets y) (cond b (taken ++ x ∷ []) taken) ≡ false
      still-at true y e = all-more y x taken ∙ ap (λ (c : Bool). c && meets y x) (h y e)
      still-at false y e = h y e

      still : (y : ℕ) → q y ≡ false → list_all (meets y) (joined_by meets taken x) ≡ false
      still y e = still-at (list_all (meets x) taken && nat_lt (length taken) CROWD_LIMIT) y e

      go : (b : Bool) → q x ≡ b
          → gathered meets taken (filter q xs) ≡ gathered meets taken xs
          → gathered meets (joined_by meets taken x) (filter q xs)
          ≡ gathered meets (joined_by meets taken x) xs
          → gathered meets taken (cond b (x ∷ filter q xs) (filter q xs))
          ≡ gathered meets (joined_by meets taken x) xs
      go true e left_out taken_in = taken_in
      go false e left_out taken_in =
          let none : joined_by meets taken x ≡ taken =
          ap (λ (b : Bool). cond (b && nat_lt (length taken) CROWD_LIMIT) (taken ++ x ∷ []) taken)
          (h x e) in
          rw none left_out

  -- one that meets all taken ones is taken, and what does not meet it is left out
  pub gathered-next : (roots more taken : List ℕ) (first : ℕ) → length taken < CROWD_LIMIT
      → list_all (meets (slice_index roots first)) taken ≡ true
      → gathered meets (taken ++ slice_index roots first ∷ [])
      (map (slice_index roots) (filter (λ s. meets (slice_index roots s)
      (slice_index roots first)) more))
      ≡ gathered meets taken (map (slice_index roots) (first ∷ more))
  gathered-next roots more taken first room all_met =
      let tree : ℕ = slice_index roots first in
      let next : List ℕ = taken ++ tree ∷ [] in
      let joins : joined_by meets taken tree ≡ next =
      rw (all_met, is-room (length taken) room) refl in
      ap (gathered meets next) (map-filter (slice_index roots) (λ x. meets x tree) more)
      ∙ gathered-filter (λ x. meets x tree) (map (slice_index roots) more) next
      (λ x e. all-more x tree taken ∙ ap (λ (b : Bool). list_all (meets x) taken && b) e
      ∙ and-false (list_all (meets x) taken))
      ∙ ap (λ (ys : List ℕ). gathered meets ys (map (slice_index roots) more)) (sym joins)
    where
      is-room : (n : ℕ) → n < CROWD_LIMIT → nat_lt n CROWD_LIMIT ≡ true
      is-room n h = grind (arith, nat_tests)

      and-false : (b : Bool) → (b && false) ≡ false
      and-false true = refl
      and-false false = refl

  -- what is left meets the taken ones, and the one that is taken next
  pub all-met-next : (roots rest taken : List ℕ) (tree : ℕ)
      → All (λ s. list_all (meets (slice_index roots s)) taken ≡ true) rest
      → All (λ s. list_all (meets (slice_index roots s)) (taken ++ tree ∷ []) ≡ true)
      (filter (λ s. meets (slice_index roots s) tree) rest)
  all-met-next roots rest taken tree h =
      all-from_In (λ s. list_all (meets (slice_index roots s)) (taken ++ tree ∷ []) ≡ true)
      (filter (λ s. meets (slice_index roots s) tree) rest) (λ s i.
      let j = from_In-filter (λ s. meets (slice_index roots s) tree) rest s i in
      let old = In-all (λ s. list_all (meets (slice_index roots s)) taken ≡ true) rest s h j.0 in
      all-more (slice_index roots s) tree taken ∙ rw (old, j.1) refl)

module _ (grid : Size) (all : List Slot) (roots : List ℕ) (trees : AreRooted grid all roots)
    (start : List ℕ) where
  abbrev meets_at : ℕ → ℕ → Bool
  meets_at = meet grid all roots

  pub gather-start : AreWhole roots start → AreGathered meets_at roots start [] start
  gather-start whole = record {
    room = omega arith;
    same = refl;
    met = λ k d low. refl;
    trees = whole;
  }

  -- the tree of the first slot is taken, and the slots of trees that meet it are left
  pub gather-step : (taken rest left : List ℕ) (tree : ℕ)
      → AreGathered meets_at roots start taken rest → length taken < CROWD_LIMIT
      → 0 < length rest → tree ≡ slice_index roots (slice_index rest 0)
      → left ≡ filter (λ s. meet grid all roots (slice_index roots s) tree) rest
      → AreGathered meets_at roots start (taken ++ tree ∷ []) left
  gather-step taken [] left tree h room some is left_is = absurd (omega (arith, some))
  gather-step taken (first ∷ more) left tree h room some is left_is =
      subst (λ (xs : List ℕ). AreGathered meets_at roots start (taken ++ tree ∷ []) xs)
      (sym left_is)
      (subst (λ (t : ℕ). AreGathered meets_at roots start (taken ++ t ∷ [])
      (filter (λ s. meet grid all roots (slice_index roots s) t) (first ∷ more))) (sym is)
      (record {
        room = omega (arith, room, length-append taken (slice_index roots first ∷ []));
        same = ap (λ (xs : List ℕ). gathered meets_at (taken ++ slice_index roots first ∷ [])
            (map (slice_index roots) xs))
            (first-falls grid all roots trees first more h.trees)
            ∙ gathered-next meets_at roots more taken first room (h.met 0 0 (omega arith))
            ∙ h.same;
        met = all-met-next meets_at roots (first ∷ more) taken (slice_index roots first) h.met;
        trees = whole-filter roots (first ∷ more) h.trees
            (λ x. meet grid all roots x (slice_index roots first));
      }))

  pub gather-empty : (taken rest : List ℕ) → AreGathered meets_at roots start taken rest
      → length rest ≡ 0 → taken ≡ gathered meets_at [] (map (slice_index roots) start)
  gather-empty taken [] h none = h.same
  gather-empty taken (first ∷ more) h none = absurd (omega (arith, none))

  pub gather-full : (taken rest : List ℕ) → AreGathered meets_at roots start taken rest
      → CROWD_LIMIT ≤ length taken
      → taken ≡ gathered meets_at [] (map (slice_index roots) start)
  gather-full taken rest h full =
      sym (gathered-full meets_at (map (slice_index roots) rest) taken full) ∙ h.same
