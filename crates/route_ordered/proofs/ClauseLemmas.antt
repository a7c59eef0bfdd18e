-- The clauses of a row of slots say that it comes to the groups of tracks in their order, and have
-- a model together with those of a problem exactly where these have one.
use Rattle.std.proofs.Common.{◌≡◌, ℕ, zero, suc, ◌-◌, ◌<◌, Bool, true, false, cond, List, [], length, get_or, take, refl, sym, subst, ◌∙◌, inl, inr, arith, All}
use Rattle.std.specs.Prelude.{◌==◌, ◌↔◌, Contains, drop, flat_map, map}
use Rattle.std.specs.List.{enumerate_from}
use Rattle.std.proofs.lemmas.Bool.{false≢true}
use Rattle.std.proofs.lemmas.Bool.Decides.{Decides-eqb}
use Rattle.std.proofs.lemmas.List.{get_or-take, get_or_default, length-take}
use Rattle.std.proofs.lemmas.List.Elements.{All-append, All-nil}
use Rattle.std.proofs.lemmas.Option.{get_or_from_slice_get, slice_get_within}
use Rattle.list_laws.proofs.Members.{In, In-any, In-append_cases, In-contains, In-flat_map, In-get, In-map, any-from_In, contains-In, from_In-flat_map, from_In-map}
use Rattle.list_laws.proofs.Numbered.{In-enumerate, from_In-enumerate}
use Rattle.fpga_types.specs.Fits.{Fits}
use Rattle.fpga_types.specs.Problem.{RoutingProblem}
use Rattle.fpga_types.specs.declared.arch.Pattern.{Pattern}
use Rattle.fpga_types.specs.declared.route.RouteText.{RouteText}
use Rattle.sat_clause.specs.Formula.{IsTrueClause, IsUnsat, Satisfies}
use Rattle.sat_clause.specs.Literal.{Clause}
use Rattle.route_encode.specs.Bits.{bits}
use Rattle.route_encode.specs.Encoding.{below, cnf_of, has, place_of}
use Rattle.route_encode.specs.Exact.{IsLegalRouting}
use Rattle.route_encode.specs.Good.{IsRoutingOf}
use Rattle.route_encode.specs.Said.{says}
use Rattle.route_encode.proofs.BitLemmas.{length-bits, place-inside, says-bits}
use Rattle.route_encode.proofs.CompeteLemmas.{differs}
use Rattle.route_encode.proofs.Models.{IsTrueLit, in-below, of-below, of-both, of-map, of-rows, to-map, to-rows, unless, unless-had}
use Rattle.route_encode.proofs.ProblemExactness.{bits-say-legal, models-say-legal}
use Rattle.problem_facts.specs.Groups.{group_count, is_exchangeable, track_group}
use Rattle.route_ordered.specs.Ordered.{AreInOrder, AreSlots, ClausesSayOrder, IsUsed, OrderedSaysUnroutable, group_clauses, only_behind, ordered_cnf, precedence, slot_clauses}
use Rattle.route_ordered.proofs.GroupLemmas.{In-later, in-within}
use Rattle.route_ordered.proofs.OrderLemmas.{nothing_changes}

-- what is among the first elements stands at a place before
from-front : (row : List ℕ) (i e : ℕ) → In (take i row) e
    → (j : ℕ) × (j < i) × (get_or row j 0 ≡ e)
from-front row i e h =
    let c = contains-In (take i row) e h in
    let count = length-take i row in
    let low : c.0 < i = omega (arith, c.1, count) in
    let inside : c.0 < length row = omega (arith, c.1, count) in
    (c.0, low, sym (get_or-take i row c.0 0 low) ∙ get_or_default (take i row) c.0 0 e c.1 ∙ c.2)

pub to-front : (row : List ℕ) (i j : ℕ) → j < i → i < length row → In (take i row) (get_or row j 0)
to-front row i j before low =
    subst (λ (e : ℕ). In (take i row) e) (get_or-take i row j 0 before)
    (In-get (take i row) j 0 (omega (arith, before, low, length-take i row)))

module _ (pattern : Pattern) (width : ℕ) (earlier : List ℕ) (s : ℕ) where
  abbrev group : ℕ → List ℕ
  group p = track_group pattern width p

  -- the clauses of a group behind another
  abbrev behind : (p q : ℕ) → List Clause
  behind p q = map (only_behind width earlier (group p) s) (group q)

  abbrev first_part : ℕ → List Clause
  first_part p = cond (p == 0) [] (behind (p - 1) p)

  next-part : (p : ℕ) → first_part (suc p) ≡ behind p (suc p)
  next-part p =
      let e : suc p - 1 ≡ p = omega arith in
      let f : (suc p == 0) ≡ false = differs (suc p) 0 (λ g. omega (arith, g)) in rw (f, e) refl

  -- a clause of the slot says that it has some track only behind some group
  abbrev IsBehind : Clause → Type 0
  IsBehind clause = (q t : ℕ) × (q < group_count pattern width) × (t < width)
      × (only_behind width earlier (group q) s t ≡ clause)

  first-behind : (clause : Clause) (p : ℕ) → p < group_count pattern width
      → In (first_part p) clause → IsBehind clause
  first-behind clause zero low here = absurd here
  first-behind clause (suc p) low here =
      let made = from_In-map (only_behind width earlier (group p) s) (group (suc p)) clause
      (subst (λ (cs : List Clause). In cs clause) (next-part p) here) in (
        p,
        made.0,
        omega (arith, low),
        in-within pattern width (suc p) made.0 (low, made.1),
        made.2,
      )

  pub slot-clause : (clause : Clause) → In (slot_clauses pattern width earlier s) clause
      → IsBehind clause
  slot-clause clause i =
      let of_group = from_In-flat_map (group_clauses pattern width earlier s)
      (below (group_count pattern width)) clause i in
      let q : ℕ = of_group.0 in
      let low = of-below (group_count pattern width) q of_group.1 in
      elim (In-append_cases (first_part q)
      (map (only_behind width earlier (group q) s) (drop 1 (group q))) clause of_group.2) [
        | inl first ↦ first-behind clause q low first
        | inr turn ↦
            (let made = from_In-map (only_behind width earlier (group q) s) (drop 1 (group q))
            clause turn in (
              q,
              made.0,
              low,
              in-within pattern width q made.0 (low, In-later (group q) made.0 made.1),
              made.2,
            ))
      ]

-- the values say the tracks of the slots of a row, which are below the width, and no others of them
pub record AreShown (width : ℕ) (row tracks : List ℕ) (values : List Bool) : Type 0 where
  pub within : (i : ℕ) → i < length row → get_or tracks (get_or row i 0) 0 < width
  pub own : (i : ℕ) → i < length row
      → says values width (get_or row i 0) (get_or tracks (get_or row i 0) 0) ≡ true
  pub is : (i t : ℕ) → i < length row → t < width → says values width (get_or row i 0) t ≡ true
      → t ≡ get_or tracks (get_or row i 0) 0
  pub valued : (i t : ℕ) → i < length row → t < width
      → place_of width (get_or row i 0) t < length values

module _ (pattern : Pattern) (width : ℕ) (row tracks : List ℕ) (values : List Bool)
    (shown : AreShown width row tracks values) where
  abbrev track : ℕ → ℕ
  track s = get_or tracks s 0

  module _ (i : ℕ) (low : i < length row) where
    abbrev s : ℕ
    s = get_or row i 0

    abbrev earlier : List ℕ
    earlier = take i row

    -- a clause says that where the slot has the track, the group is used before
    used-from : (q t : ℕ) → q < group_count pattern width → t < width
        → IsTrueClause values (only_behind width earlier (track_group pattern width q) s t)
        → t ≡ track s → IsUsed tracks row i (track_group pattern width q)
    used-from q t low_q inside h e =
        let rest : Clause =
        flat_map (λ e. map (has width e) (track_group pattern width q)) earlier in
        let had : says values width s t ≡ true =
        subst (λ (u : ℕ). says values width s u ≡ true) (sym e) (shown.own i low) in
        let some = In-any (IsTrueLit values) rest (unless values width s t rest h had) in
        let of_slot = from_In-flat_map (λ e. map (has width e) (track_group pattern width q))
        earlier some.0 some.1 in
        let of_track = from_In-map (has width of_slot.0) (track_group pattern width q) some.0
        of_slot.2 in
        let at = from-front row i of_slot.0 of_slot.1 in
        let true_lit : says values width of_slot.0 of_track.0 ≡ true =
        subst (IsTrueLit values) (sym of_track.2) some.2 in
        let here : of_slot.0 ≡ get_or row at.0 0 = sym at.2 in
        let is : of_track.0 ≡ track (get_or row at.0 0) =
        shown.is at.0 of_track.0 (omega (arith, at.1, low))
        (in-within pattern width q of_track.0 (low_q, of_track.1))
        (subst (λ (n : ℕ). says values width n of_track.0 ≡ true) here true_lit) in (
          at.0,
          at.1,
          contains-In (track_group pattern width q) (track (get_or row at.0 0))
              (subst (λ (u : ℕ). In (track_group pattern width q) u) is of_track.1),
        )

    used-to : (q t : ℕ) → q < group_count pattern width → t < width
        → (t ≡ track s → IsUsed tracks row i (track_group pattern width q))
        → IsTrueClause values (only_behind width earlier (track_group pattern width q) s t)
    used-to q t low_q inside h =
        let rest : Clause =
        flat_map (λ e. map (has width e) (track_group pattern width q)) earlier in
        unless-had values width s t rest (shown.valued i t low inside) (λ had.
        let r = h (shown.is i t low inside had) in
        let e : ℕ = get_or row r.0 0 in
        any-from_In (IsTrueLit values) rest (has width e (track e))
        (In-flat_map (λ e. map (has width e) (track_group pattern width q)) earlier e
        (has width e (track e)) (to-front row i r.0 r.1 low)
        (In-map (has width e) (track_group pattern width q) (track e)
        (In-contains (track_group pattern width q) (track e) r.2)))
        (shown.own r.0 (omega (arith, r.1, low))))

    abbrev IsTrueAll : List Clause → Type 0
    IsTrueAll clauses = All (IsTrueClause values) clauses

    -- the clauses of this slot
    order-from : IsTrueAll (slot_clauses pattern width earlier s)
        → ((q : ℕ) → suc q < group_count pattern width
        → Contains (track_group pattern width (suc q)) (track s)
        → IsUsed tracks row i (track_group pattern width q))
        × ((q : ℕ) → q < group_count pattern width
        → Contains (drop 1 (track_group pattern width q)) (track s)
        → IsUsed tracks row i (track_group pattern width q))
    order-from h = (
      (λ q low_q here.
          let inside : track s < width = shown.within i low in
          let all = of-rows (IsTrueClause values) (group_clauses pattern width earlier s)
          (below (group_count pattern width)) h (suc q)
          (in-below (group_count pattern width) (suc q) low_q) in
          let parts = of-both (IsTrueClause values) (first_part pattern width earlier s (suc q))
          (map (only_behind width earlier (track_group pattern width (suc q)) s)
          (drop 1 (track_group pattern width (suc q)))) all in
          let first = subst IsTrueAll (next-part pattern width earlier s q) parts.0 in
          used-from q (track s) (omega (arith, low_q)) inside
          (of-map (IsTrueClause values) (only_behind width earlier (track_group pattern width q) s)
          (track_group pattern width (suc q)) first (track s)
          (In-contains (track_group pattern width (suc q)) (track s) here)) refl),
      (λ q low_q here.
          let inside : track s < width = shown.within i low in
          let all = of-rows (IsTrueClause values) (group_clauses pattern width earlier s)
          (below (group_count pattern width)) h q
          (in-below (group_count pattern width) q low_q) in
          let parts = of-both (IsTrueClause values) (first_part pattern width earlier s q)
          (map (only_behind width earlier (track_group pattern width q) s)
          (drop 1 (track_group pattern width q))) all in
          used-from q (track s) low_q inside
          (of-map (IsTrueClause values) (only_behind width earlier (track_group pattern width q) s)
          (drop 1 (track_group pattern width q)) parts.1 (track s)
          (In-contains (drop 1 (track_group pattern width q)) (track s) here)) refl),
    )

    module _ (order : AreInOrder pattern width row tracks) where
      turns-to : (q : ℕ) → q < group_count pattern width
          → IsTrueAll (map (only_behind width earlier (track_group pattern width q) s)
          (drop 1 (track_group pattern width q)))
      turns-to q low_q =
          to-map (IsTrueClause values) (only_behind width earlier (track_group pattern width q) s)
          (drop 1 (track_group pattern width q)) (λ t here.
          used-to q t low_q (in-within pattern width q t
          (low_q, In-later (track_group pattern width q) t here))
          (λ e. order.turns i q low low_q (contains-In (drop 1 (track_group pattern width q))
          (track s) (subst (λ (u : ℕ). In (drop 1 (track_group pattern width q)) u) e here))))

      first-to : (q : ℕ) → q < group_count pattern width
          → IsTrueAll (first_part pattern width earlier s q)
      first-to zero low_q = All-nil (IsTrueClause values)
      first-to (suc q) low_q =
          subst IsTrueAll (sym (next-part pattern width earlier s q))
          (to-map (IsTrueClause values)
          (only_behind width earlier (track_group pattern width q) s)
          (track_group pattern width (suc q)) (λ t here.
          used-to q t (omega (arith, low_q)) (in-within pattern width (suc q) t (low_q, here))
          (λ e. order.groups i q low low_q (contains-In (track_group pattern width (suc q))
          (track s) (subst (λ (u : ℕ). In (track_group pattern width (suc q)) u) e here)))))

      pub order-to : IsTrueAll (slot_clauses pattern width earlier s)
      order-to = to-rows (IsTrueClause values) (group_clauses pattern width earlier s)
          (below (group_count pattern width)) (λ q here.
          let low_q = of-below (group_count pattern width) q here in
          All-append (IsTrueClause values) (first_part pattern width earlier s q)
          (map (only_behind width earlier (track_group pattern width q) s)
          (drop 1 (track_group pattern width q))) (first-to q low_q) (turns-to q low_q))

  -- what the clauses of a slot at a place are
  abbrev at_place : ℕ × ℕ → List Clause
  at_place at = slot_clauses pattern width (take at.0 row) at.1

  numbered : (i : ℕ) → i < length row → In (enumerate_from 0 row) (i, get_or row i 0)
  numbered i low =
      subst (λ (n : ℕ). In (enumerate_from 0 row) (n, get_or row i 0)) (omega arith)
      (In-enumerate 0 row i 0 low)

  pub say-order : All (IsTrueClause values) (precedence pattern width row)
      ↔ AreInOrder pattern width row tracks
  say-order = (
    (λ h. record {
      groups = λ i q low low_q here.
          (order-from i low (of-rows (IsTrueClause values) at_place (enumerate_from 0 row) h
          (i, get_or row i 0) (numbered i low))).0 q low_q here;
      turns = λ i q low low_q here.
          (order-from i low (of-rows (IsTrueClause values) at_place (enumerate_from 0 row) h
          (i, get_or row i 0) (numbered i low))).1 q low_q here;
    }),
    (λ order. to-rows (IsTrueClause values) at_place (enumerate_from 0 row) (λ at here.
        let r = from_In-enumerate 0 row at here in
        let place : r.0 ≡ at.0 = omega (arith, r.1) in
        at-slot at r.0 place (get_or_from_slice_get row r.0 at.1 0 r.2)
        (slice_get_within row r.0 at.1 r.2) order)),
  )
    where
      at-slot : (at : ℕ × ℕ) (i : ℕ) → i ≡ at.0 → get_or row i 0 ≡ at.1 → i < length row
          → AreInOrder pattern width row tracks
          → All (IsTrueClause values) (at_place at)
      at-slot at i place slot low order =
          subst (λ (z : ℕ × ℕ). All (IsTrueClause values) (at_place z))
          (λ j. (place j, slot j)) (order-to i low order)

-- the bits of a legal routing show its tracks
bits-shown : (width : ℕ) (p : RoutingProblem) (row tracks : List ℕ) → AreSlots p row
    → IsLegalRouting width p tracks → AreShown width row tracks (bits width tracks)
bits-shown width p row tracks there legal = record {
  within = λ i low. legal.within (get_or row i 0) 0 (in-range i low);
  own = λ i low.
      let t : ℕ = get_or tracks (get_or row i 0) 0 in
      said i t low (legal.within (get_or row i 0) 0 (in-range i low)) ∙ (Decides-eqb t t).1 refl;
  is = λ i t low inside h.
      (Decides-eqb t (get_or tracks (get_or row i 0) 0)).0 (sym (said i t low inside) ∙ h);
  valued = λ i t low inside. omega (
    arith,
    place-inside (length tracks) width (get_or row i 0) t (in-range i low) inside,
    length-bits width tracks,
  );
}
  where
    in-range : (i : ℕ) → i < length row → get_or row i 0 < length tracks
    in-range i low = omega (arith, there i 0 low, legal.each)

    said : (i t : ℕ) → i < length row → t < width
        → says (bits width tracks) width (get_or row i 0) t
        ≡ (t == get_or tracks (get_or row i 0) 0)
    said i t low inside = says-bits width tracks (get_or row i 0) t
        (λ k here. legal.within k 0 here) (in-range i low) inside

pub clauses_say : (width : ℕ) (p : RoutingProblem) (row : List ℕ) → AreSlots p row
    → ClausesSayOrder width p row
clauses_say width p row there tracks legal =
    say-order p.arch.pattern width row tracks (bits width tracks)
    (bits-shown width p row tracks there legal)

-- ---- models

-- what satisfies the clauses with the order satisfies those without
pub without-order : (width : ℕ) (p : RoutingProblem) (row : List ℕ) (values : List Bool)
    → Satisfies values (ordered_cnf width p row) → Satisfies values (cnf_of width p)
without-order width p row values h = record {
  one_each = h.one_each;
  each_clause = (of-both (IsTrueClause values) (cnf_of width p).clauses
      (cond (is_exchangeable width p) (precedence p.arch.pattern width row) []) h.each_clause).0;
}

-- what satisfies those without satisfies all where the clauses of the row are true too, if there
-- are any
with-order : (width : ℕ) (p : RoutingProblem) (row : List ℕ) (values : List Bool)
    → Satisfies values (cnf_of width p)
    → (is_exchangeable width p ≡ true
    → All (IsTrueClause values) (precedence p.arch.pattern width row))
    → Satisfies values (ordered_cnf width p row)
with-order width p row values h more = record {
  one_each = h.one_each;
  each_clause = All-append (IsTrueClause values) (cnf_of width p).clauses
      (cond (is_exchangeable width p) (precedence p.arch.pattern width row) []) h.each_clause
      (go (is_exchangeable width p) more);
}
  where
    go : (b : Bool) → (b ≡ true → All (IsTrueClause values) (precedence p.arch.pattern width row))
        → All (IsTrueClause values) (cond b (precedence p.arch.pattern width row) [])
    go true all = all refl
    go false all = All-nil (IsTrueClause values)

module _ (width : ℕ) (p : RoutingProblem) (row : List ℕ) (fits : Fits p)
    (there : AreSlots p row) where
  -- where there is a legal routing, there are values that satisfy all clauses
  ordered-model : (tracks : List ℕ) → IsLegalRouting width p tracks
      → (values : List Bool) × Satisfies values (ordered_cnf width p row)
  ordered-model tracks legal = go (is_exchangeable width p) refl
    where
      go : (b : Bool) → is_exchangeable width p ≡ b
          → (values : List Bool) × Satisfies values (ordered_cnf width p row)
      go true e =
          let r = (nothing_changes width p row fits e there).0 (tracks, legal) in (
            bits width r.0,
            with-order width p row (bits width r.0)
                ((bits-say-legal width p fits r.0 r.1.each).1 r.1)
                (λ full. (clauses_say width p row there r.0 r.1).1 r.2),
          )
      go false e = (
        bits width tracks,
        with-order width p row (bits width tracks)
            ((bits-say-legal width p fits tracks legal.each).1 legal)
            (λ f. absurd (false≢true (sym e ∙ f))),
      )

  -- where the clauses with the order have no model, there is no routing
  pub no-ordered : IsUnsat (ordered_cnf width p row) → (found : RouteText)
      → ¬ IsRoutingOf width p found
  no-ordered none found good = let r = ordered-model _ good.legal in none r.0 r.1

  pub unsat-is-unroutable : OrderedSaysUnroutable width p row
  unsat-is-unroutable = (
    (λ none tracks legal. let r = ordered-model tracks legal in none r.0 r.1),
    (λ none values h.
        let r = models-say-legal width p fits values (without-order width p row values h) in
        none r.0 r.1),
  )

pub unsat_unroutable : (width : ℕ) (p : RoutingProblem) (row : List ℕ) → Fits p → AreSlots p row
    → OrderedSaysUnroutable width p row
unsat_unroutable width p row fits there = unsat-is-unroutable width p row fits there
