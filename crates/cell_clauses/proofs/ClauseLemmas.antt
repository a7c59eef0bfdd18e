-- Values that agree with the facts of a routing make each clause true; where the routing is of some
-- nets, all but those that demand something of another.
use Rattle.std.proofs.Common.{◌≡◌, ℕ, suc, ◌+◌, ◌<◌, ◌≤◌, Bool, true, false, List, [], ◌∷◌, ◌++◌, All, length, refl, sym, ap, ◌∙◌, ◌⊎◌, inl, inr, subst, arith, length-append}
use Rattle.std.specs.Prelude.{◌&&◌, IsTrue, filter, flat_map, if◌then◌else◌, map, nat_lt, not}
use Rattle.std.specs.List.{enumerate_from}
use Rattle.std.proofs.lemmas.Bool.Decides.{Decides-ltb}
use Rattle.std.proofs.lemmas.List.Elements.{filter-append}
use Rattle.list_laws.proofs.Members.{In, In-all, In-filter, In-map, all-from_In, any-from_In}
use Rattle.list_laws.proofs.Ranges.{range-push}
use Rattle.fpga_types.specs.Terminals.{same_terminal}
use Rattle.fpga_types.specs.Touching.{touches}
use Rattle.fpga_types.specs.declared.grid.Cell.{Cell}
use Rattle.fpga_types.specs.declared.grid.PinAt.{PinAt}
use Rattle.fpga_types.proofs.MeetingLemmas.{both_true}
use Rattle.route_bound.specs.Corners.{has_corner_out}
use Rattle.route_bound.specs.Lying.{Cells, pins_at}
use Rattle.route_encode.proofs.Models.{in-below, not-true, of-below, to-map, to-rows, true-here}
use Rattle.sat_clause.specs.Formula.{IsTrueClause, makes_true}
use Rattle.sat_clause.specs.Literal.{Clause}
use Rattle.sat_clause.specs.declared.literal.Lit.{Lit}
use Rattle.cell_clauses.specs.Clauses.{apart_clauses, below, cell_clauses, count_clauses, enters_by, enters_clauses, enters_some, held_clauses, is_cell_in, is_reached, is_within, leaves_clauses, meets, more_than, not_both, pair_clauses, step_clauses, support_clauses, tally_clauses, uses_some}
use Rattle.cell_clauses.specs.Demands.{demands}
use Rattle.cell_clauses.specs.Frames.{Frame}
use Rattle.cell_clauses.specs.Places.{entry_place, has, lacks, pin_count, pin_number, tally_place, use_place}
use Rattle.cell_clauses.specs.declared.window.Arrival.{Arrival}
use Rattle.cell_clauses.specs.declared.window.WindowNet.{WindowNet}
use Rattle.cell_clauses.proofs.DemandLemmas.{enters-demanded, uses-demanded}
use Rattle.cell_clauses.proofs.RowLemmas.{all-both, all-if, all-more, all-one}
use Rattle.cell_clauses.proofs.ValueLemmas.{below-true, entry-value, entry-within, has-true, tally, tally-value, tally-within, unless, use-value, use-within, value, values}

module _ (f : Frame) (uses entry : ℕ → ℕ → Bool) where
  -- net k uses one of the window's cells that are in the set
  pub record UsesSome (k : ℕ) (set : Cells) : Type 0 where
    pub cell : ℕ
    pub there : cell < length f.cells
    pub of : is_cell_in f set cell ≡ true
    pub used : uses k cell ≡ true

  -- what nets use and come by, as in a routing of the nets at some places
  pub record AreFacts (mine : ℕ → Bool) : Type 0 where
    pub nets : (z : ℕ × WindowNet) → In (enumerate_from 0 f.nets) z → z.0 < length f.nets
    pub cells : (z : ℕ × Cell) → In (enumerate_from 0 f.cells) z → z.0 < length f.cells
    pub arrivals : (z : ℕ × Arrival) → In (enumerate_from 0 f.arrivals) z
        → (z.0 < length f.arrivals) × (z.1.net < length f.nets)
    pub pins : (z : ℕ × Arrival) (pin : PinAt) → In (pins_at f.arch z.1.at) pin
        → pin_number pin < pin_count f
    pub leaves : (z : ℕ × WindowNet) → In (enumerate_from 0 f.nets) z → mine z.0 ≡ true
        → is_within f z.1.driver ≡ true → UsesSome z.0 (is_reached f z.1.driver)
    pub enters : (z : ℕ × Arrival) → In (enumerate_from 0 f.arrivals) z → mine z.1.net ≡ true
        → (pin : PinAt) × In (pins_at f.arch z.1.at) pin × (entry z.0 (pin_number pin) ≡ true)
    pub by : (z : ℕ × Arrival) (pin : PinAt) → In (enumerate_from 0 f.arrivals) z
        → is_within f z.1.at ≡ true → In (pins_at f.arch z.1.at) pin
        → entry z.0 (pin_number pin) ≡ true → UsesSome z.1.net (touches f.arch f.grid pin)
    pub apart : (y z : ℕ × Arrival) (number : ℕ) → In (enumerate_from 0 f.arrivals) y
        → In (enumerate_from 0 f.arrivals) z → y.0 < z.0 → same_terminal y.1.at z.1.at ≡ true
        → entry y.0 number ≡ true → entry z.0 number ≡ true → ⊥
    pub held : (y : ℕ × WindowNet) (z : ℕ × Cell) → In (enumerate_from 0 f.nets) y
        → In (enumerate_from 0 f.cells) z → has_corner_out f.corners z.1 ≡ false
        → is_reached f y.1.driver z.1 ≡ false → uses y.0 z.0 ≡ true → UsesSome y.0 (meets f z.1)
    pub few : (k c : ℕ) → k < length f.nets → c < length f.cells
        → tally f uses entry (k + 1) c ≤ f.width

  module _ (mine : ℕ → Bool) (facts : AreFacts mine) where
    abbrev vs : List Bool
    vs = values f uses entry

    abbrev IsTrueLit : Lit → Type 0
    IsTrueLit l = IsTrue (makes_true vs l)

    abbrev Holds : Clause → Type 0
    Holds clause = IsTrueClause vs clause

    -- the clause demands something of another net
    pub record DemandsMore (clause : Clause) : Type 0 where
      pub place : ℕ
      pub there : place < length f.nets
      pub other : mine place ≡ false
      pub demanded : demands f place clause ≡ true

    abbrev pub Serves : Clause → Type 0
    Serves clause = Holds clause ⊎ DemandsMore clause

    serve : (clauses : List Clause) → All Holds clauses → All Serves clauses
    serve clauses h = all-from_In Serves clauses (λ clause i. inl (In-all Holds clauses clause h i))

    some-true : (k : ℕ) (set : Cells) → k < length f.nets → UsesSome k set
        → Holds (uses_some f k set)
    some-true k set net u =
        let cells = filter (is_cell_in f set) (below (length f.cells)) in
        any-from_In IsTrueLit (uses_some f k set) (has (use_place f k u.cell))
        (In-map (λ c. has (use_place f k c)) cells u.cell
        (In-filter (is_cell_in f set) (below (length f.cells)) u.cell
        (in-below (length f.cells) u.cell u.there) u.of))
        (has-true f uses entry (use_place f k u.cell)
        (use-within f uses entry k u.cell net u.there)
        (use-value f uses entry k u.cell net u.there ∙ u.used))

    leaves-some-true : (z : ℕ × WindowNet) → In (enumerate_from 0 f.nets) z
        → is_within f z.1.driver ≡ true → Serves (uses_some f z.0 (is_reached f z.1.driver))
    leaves-some-true z i w = go (mine z.0) refl
      where
        go : (t : Bool) → mine z.0 ≡ t → Serves (uses_some f z.0 (is_reached f z.1.driver))
        go true e = inl (some-true z.0 (is_reached f z.1.driver) (facts.nets z i)
            (facts.leaves z i e w))
        go false e = inr (record {
          place = z.0;
          there = facts.nets z i;
          other = e;
          demanded = uses-demanded f z.0 (is_reached f z.1.driver);
        })

    leaves-true : (z : ℕ × WindowNet) → In (enumerate_from 0 f.nets) z
        → All Serves (leaves_clauses f z)
    leaves-true z i =
        all-if Serves (is_within f z.1.driver) (uses_some f z.0 (is_reached f z.1.driver) ∷ [])
        (λ w. all-one Serves (uses_some f z.0 (is_reached f z.1.driver)) (leaves-some-true z i w))

    enters-one-true : (z : ℕ × Arrival) → In (enumerate_from 0 f.arrivals) z
        → mine z.1.net ≡ true → Holds (enters_some f z)
    enters-one-true z i own =
        let e = facts.enters z i own in
        let low = facts.pins z e.0 e.1 in
        any-from_In IsTrueLit (enters_some f z) (has (entry_place f z.0 (pin_number e.0)))
        (In-map (λ pin. has (entry_place f z.0 (pin_number pin))) (pins_at f.arch z.1.at) e.0 e.1)
        (has-true f uses entry (entry_place f z.0 (pin_number e.0))
        (entry-within f uses entry z.0 (pin_number e.0) (facts.arrivals z i).0 low)
        (entry-value f uses entry z.0 (pin_number e.0) (facts.arrivals z i).0 low ∙ e.2))

    enters-some-true : (z : ℕ × Arrival) → In (enumerate_from 0 f.arrivals) z
        → Serves (enters_some f z)
    enters-some-true z i = go (mine z.1.net) refl
      where
        go : (t : Bool) → mine z.1.net ≡ t → Serves (enters_some f z)
        go true e = inl (enters-one-true z i e)
        go false e = inr (record {
          place = z.1.net;
          there = (facts.arrivals z i).1;
          other = e;
          demanded = enters-demanded f z i (facts.pins z);
        })

    enters-by-true : (z : ℕ × Arrival) (pin : PinAt) → In (enumerate_from 0 f.arrivals) z
        → is_within f z.1.at ≡ true → In (pins_at f.arch z.1.at) pin → Holds (enters_by f z pin)
    enters-by-true z pin i w j =
        let there = facts.arrivals z i in
        let low = facts.pins z pin j in
        unless f uses entry (entry_place f z.0 (pin_number pin))
        (uses_some f z.1.net (touches f.arch f.grid pin))
        (entry-within f uses entry z.0 (pin_number pin) there.0 low)
        (λ e. some-true z.1.net (touches f.arch f.grid pin) there.1
        (facts.by z pin i w j (sym (entry-value f uses entry z.0 (pin_number pin) there.0 low) ∙ e)))

    enters-true : (z : ℕ × Arrival) → In (enumerate_from 0 f.arrivals) z
        → All Serves (enters_clauses f z)
    enters-true z i =
        all-if Serves (is_within f z.1.at)
        (enters_some f z ∷ map (enters_by f z) (pins_at f.arch z.1.at))
        (λ w. all-more Serves (enters_some f z) (map (enters_by f z) (pins_at f.arch z.1.at))
        (enters-some-true z i)
        (to-map Serves (enters_by f z) (pins_at f.arch z.1.at)
        (λ pin j. inl (enters-by-true z pin i w j))))

    -- two arrivals at one sink
    module _ (y z : ℕ × Arrival) (i : In (enumerate_from 0 f.arrivals) y)
        (j : In (enumerate_from 0 f.arrivals) z) where
      not-both-true : y.0 < z.0 → same_terminal y.1.at z.1.at ≡ true → (pin : PinAt)
          → In (pins_at f.arch y.1.at) pin → Holds (not_both f y.0 z.0 pin)
      not-both-true before same pin p =
          let n : ℕ = pin_number pin in
          let low = facts.pins y pin p in
          let first = entry-within f uses entry y.0 n (facts.arrivals y i).0 low in
          let second = entry-within f uses entry z.0 n (facts.arrivals z j).0 low in
          unless f uses entry (entry_place f y.0 n) (lacks (entry_place f z.0 n) ∷ []) first
          (λ e. unless f uses entry (entry_place f z.0 n) [] second
          (λ g. absurd (facts.apart y z n i j before same
          (sym (entry-value f uses entry y.0 n (facts.arrivals y i).0 low) ∙ e)
          (sym (entry-value f uses entry z.0 n (facts.arrivals z j).0 low) ∙ g))))

      pair-true : All Holds (pair_clauses f y z)
      pair-true =
          all-if Holds (nat_lt y.0 z.0 && same_terminal y.1.at z.1.at)
          (map (not_both f y.0 z.0) (pins_at f.arch y.1.at))
          (λ w. let both = both_true (nat_lt y.0 z.0) (same_terminal y.1.at z.1.at) w in
          to-map Holds (not_both f y.0 z.0) (pins_at f.arch y.1.at)
          (λ pin p. not-both-true ((Decides-ltb y.0 z.0).0 both.0) both.1 pin p))

    apart-true : (y : ℕ × Arrival) → In (enumerate_from 0 f.arrivals) y
        → All Holds (apart_clauses f y)
    apart-true y i = to-rows Holds (pair_clauses f y) (enumerate_from 0 f.arrivals)
        (λ z j. pair-true y z i j)

    held-true : (y : ℕ × WindowNet) (z : ℕ × Cell) → In (enumerate_from 0 f.nets) y
        → In (enumerate_from 0 f.cells) z → All Holds (held_clauses f y z)
    held-true y z i j =
        let clause : Clause = lacks (use_place f y.0 z.0) ∷ uses_some f y.0 (meets f z.1) in
        all-if Holds (not (has_corner_out f.corners z.1) && not (is_reached f y.1.driver z.1))
        (clause ∷ [])
        (λ w. let both = both_true (not (has_corner_out f.corners z.1))
        (not (is_reached f y.1.driver z.1)) w in
        let inside = not-true (has_corner_out f.corners z.1) both.0 in
        let off = not-true (is_reached f y.1.driver z.1) both.1 in
        all-one Holds clause
        (unless f uses entry (use_place f y.0 z.0) (uses_some f y.0 (meets f z.1))
        (use-within f uses entry y.0 z.0 (facts.nets y i) (facts.cells z j))
        (λ e. some-true y.0 (meets f z.1) (facts.nets y i)
        (facts.held y z i j inside off
        (sym (use-value f uses entry y.0 z.0 (facts.nets y i) (facts.cells z j)) ∙ e)))))

    support-true : (y : ℕ × WindowNet) → In (enumerate_from 0 f.nets) y
        → All Holds (support_clauses f y)
    support-true y i = to-rows Holds (held_clauses f y) (enumerate_from 0 f.cells)
        (λ z j. held-true y z i j)

    -- a net and a cell
    module _ (k c : ℕ) (net : k < length f.nets) (cell : c < length f.cells) where
      abbrev many : ℕ → ℕ
      many n = tally f uses entry n c

      grows : below (k + 1) ≡ below k ++ k ∷ []
      grows =
          let more : k + 1 ≡ suc k = omega arith in
          let same : 0 + k ≡ k = omega arith in
          ap below more ∙ range-push 0 k ∙ ap (λ m. below k ++ m ∷ []) same

      step : many (k + 1) ≡ many k + length (filter (λ i. uses i c) (k ∷ []))
      step = ap (λ ks. length (filter (λ i. uses i c) ks)) grows
          ∙ ap length (filter-append (λ i. uses i c) (below k) (k ∷ []))
          ∙ length-append (filter (λ i. uses i c) (below k)) (filter (λ i. uses i c) (k ∷ []))

      counted : uses k c ≡ true → many (k + 1) ≡ many k + 1
      counted e =
          let one : length (filter (λ i. uses i c) (k ∷ [])) ≡ 1 = rw e refl in
          omega (arith, step, one)

      not-fewer : many k ≤ many (k + 1)
      not-fewer = omega (arith, step)

      more-true : (j : ℕ) → j < many (k + 1) → Holds (more_than f (k + 1) c j)
      more-true j low =
          let few = facts.few k c net cell in
          let within : j < f.width = omega (arith, low, few) in
          let later : k + 1 < length f.nets + 1 = omega (arith, net) in
          subst (λ (t : Bool). Holds (if t then has (tally_place f (k + 1) c j) ∷ [] else []))
          (sym (below-true j f.width within))
          (true-here vs (has (tally_place f (k + 1) c j)) []
          (has-true f uses entry (tally_place f (k + 1) c j)
          (tally-within f uses entry (k + 1) c j later cell within)
          (tally-value f uses entry (k + 1) c j later cell within
          ∙ below-true j (many (k + 1)) low)))

      first-true : Holds (lacks (use_place f k c) ∷ more_than f (k + 1) c 0)
      first-true =
          unless f uses entry (use_place f k c) (more_than f (k + 1) c 0)
          (use-within f uses entry k c net cell)
          (λ e. more-true 0
          (omega (arith, counted (sym (use-value f uses entry k c net cell) ∙ e))))

      step-true : (j : ℕ) → j < f.width → All Holds (step_clauses f k c j)
      step-true j within =
          let now : k < length f.nets + 1 = omega (arith, net) in
          let later : k + 1 < length f.nets + 1 = omega (arith, net) in
          let place = tally-within f uses entry k c j now cell within in
          let is : value f uses entry (tally_place f k c j) ≡ true → j < many k =
          (λ e. (Decides-ltb j (many k)).0
          (sym (tally-value f uses entry k c j now cell within) ∙ e)) in
          let stays : Holds (lacks (tally_place f k c j) ∷ has (tally_place f (k + 1) c j) ∷ []) =
          unless f uses entry (tally_place f k c j) (has (tally_place f (k + 1) c j) ∷ []) place
          (λ e. true-here vs (has (tally_place f (k + 1) c j)) []
          (has-true f uses entry (tally_place f (k + 1) c j)
          (tally-within f uses entry (k + 1) c j later cell within)
          (tally-value f uses entry (k + 1) c j later cell within
          ∙ below-true j (many (k + 1)) (omega (arith, is e, not-fewer))))) in
          let rises : Holds (lacks (use_place f k c) ∷ lacks (tally_place f k c j)
          ∷ more_than f (k + 1) c (j + 1)) =
          unless f uses entry (use_place f k c)
          (lacks (tally_place f k c j) ∷ more_than f (k + 1) c (j + 1))
          (use-within f uses entry k c net cell)
          (λ u. unless f uses entry (tally_place f k c j) (more_than f (k + 1) c (j + 1)) place
          (λ e. more-true (j + 1)
          (omega (arith, is e, counted (sym (use-value f uses entry k c net cell) ∙ u))))) in
          all-more Holds (lacks (tally_place f k c j) ∷ has (tally_place f (k + 1) c j) ∷ [])
          ((lacks (use_place f k c) ∷ lacks (tally_place f k c j)
          ∷ more_than f (k + 1) c (j + 1)) ∷ []) stays
          (all-one Holds (lacks (use_place f k c) ∷ lacks (tally_place f k c j)
          ∷ more_than f (k + 1) c (j + 1)) rises)

      tally-true : All Holds (tally_clauses f k c)
      tally-true =
          all-more Holds (lacks (use_place f k c) ∷ more_than f (k + 1) c 0)
          (flat_map (step_clauses f k c) (below f.width)) first-true
          (to-rows Holds (step_clauses f k c) (below f.width)
          (λ j i. step-true j (of-below f.width j i)))

    count-true : (k : ℕ) → In (below (length f.nets)) k → All Holds (count_clauses f k)
    count-true k i = to-rows Holds (tally_clauses f k) (below (length f.cells))
        (λ c j. tally-true k c (of-below (length f.nets) k i) (of-below (length f.cells) c j))

    -- each clause is true but those
    pub each-serves : All Serves (cell_clauses f)
    each-serves =
        all-both Serves (flat_map (leaves_clauses f) (enumerate_from 0 f.nets)
        ++ flat_map (enters_clauses f) (enumerate_from 0 f.arrivals)
        ++ flat_map (apart_clauses f) (enumerate_from 0 f.arrivals)
        ++ flat_map (support_clauses f) (enumerate_from 0 f.nets))
        (flat_map (count_clauses f) (below (length f.nets)))
        (all-both Serves (flat_map (leaves_clauses f) (enumerate_from 0 f.nets)
        ++ flat_map (enters_clauses f) (enumerate_from 0 f.arrivals)
        ++ flat_map (apart_clauses f) (enumerate_from 0 f.arrivals))
        (flat_map (support_clauses f) (enumerate_from 0 f.nets))
        (all-both Serves (flat_map (leaves_clauses f) (enumerate_from 0 f.nets)
        ++ flat_map (enters_clauses f) (enumerate_from 0 f.arrivals))
        (flat_map (apart_clauses f) (enumerate_from 0 f.arrivals))
        (all-both Serves (flat_map (leaves_clauses f) (enumerate_from 0 f.nets))
        (flat_map (enters_clauses f) (enumerate_from 0 f.arrivals))
        (to-rows Serves (leaves_clauses f) (enumerate_from 0 f.nets) leaves-true)
        (to-rows Serves (enters_clauses f) (enumerate_from 0 f.arrivals) enters-true))
        (to-rows Serves (apart_clauses f) (enumerate_from 0 f.arrivals)
        (λ z i. serve (apart_clauses f z) (apart-true z i))))
        (to-rows Serves (support_clauses f) (enumerate_from 0 f.nets)
        (λ z i. serve (support_clauses f z) (support-true z i))))
        (to-rows Serves (count_clauses f) (below (length f.nets))
        (λ k i. serve (count_clauses f k) (count-true k i)))
