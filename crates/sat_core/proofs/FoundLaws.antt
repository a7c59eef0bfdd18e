-- What an analysis comes to, by ids: its clause is asserting, and follows from the reasons that are
-- used and the false clause.
use Rattle.std.specs.Prelude.{nat_le, option_map}
use Rattle.std.proofs.Common.{inl, inr, ◌⊎◌, ◌≡◌, ◌≢◌, ◌<◌, ◌≤◌, ◌+◌, ◌-◌, ℕ, zero, suc, ℤ, pos, Bool, true, false, List, [], ◌∷◌, ◌++◌, length, get_or, Option, None, Some, slice_get, take, Contains, All, refl, sym, ap, ◌∙◌, subst, arith}
use Rattle.std.proofs.lemmas.Bool.{both_ways, cases_eq, cases_lt, le-leb}
use Rattle.std.proofs.lemmas.List.Elements.{All-cons, All-contains, All-contains_itself, All-nil, All-weaker, Contains-push, Contains-push_cases, Contains-append_left}
use Rattle.list_laws.proofs.Places.{some_is}
use Rattle.sat_clause.specs.declared.literal.Lit.{Lit}
use Rattle.sat_clause.specs.Learned.{IsFresh, IsRelevant, IsSimple, SameLiterals}
use Rattle.sat_clause.specs.Literal.{Clause, IsLiteral, IsWithin, is_among, negation, variable}
use Rattle.sat_clause.specs.Live.{Live, clause_at}
use Rattle.sat_clause.specs.Rup.{rup}
use Rattle.sat_clause.specs.Trail.{IsOpen}
use Rattle.sat_clause.proofs.LiteralLaws.{among_here, among_more, variable_negation}
use Rattle.sat_clause.proofs.ReadingLaws.{all_conflict}
use Rattle.sat_arena.specs.declared.clause_ref.ClauseRef.{ClauseRef}
use Rattle.sat_watch.specs.declared.entry.TrailEntry.{TrailEntry}
use Rattle.sat_watch.specs.Levels.{upto}
use Rattle.sat_watch.specs.Trail.{AreWithin, IsOnce, falses, place_in}
use Rattle.sat_watch.specs.Watched.{AreFalse, is_false}
use Rattle.sat_watch.specs.Watches.{Attached, HasLevels, WatchState, id_at, is_attached, lits_at}
use Rattle.sat_watch.proofs.PlaceLemmas.{place_entry}
use Rattle.sat_core.specs.Analysis.{HasCurrent, IsAt, IsFalsePlace, IsKnown, IsReasonPlace, reason_lits}
use Rattle.sat_core.specs.Kept.{HasOnce}
use Rattle.sat_core.specs.ClauseList.{ClauseListState}
use Rattle.sat_core.specs.Levels.{AreAccounted, AreNeeded, Assigned, IsAccounted, IsAsserting, IsDerived, IsFalseFrom, IsMarked, IsPropagatedTrail, StandsInReason, level_of, marked_ids}
use Rattle.sat_core.specs.Marks.{IsMet, IsUsed, MarkState}
use Rattle.sat_core.specs.Reading.{IsFound}
use Rattle.sat_core.specs.SearchStore.{EndsAsserting, IsLearnedClause, IsSearchStore, assigned, assigned_in, live_of, search_value}
use Rattle.sat_core.proofs.AttachLaws.{contains_assigned}
use Rattle.sat_core.proofs.DistinctLaws.{pairs_push}
use Rattle.sat_core.proofs.KeptLaws.{none_zero}
use Rattle.sat_core.proofs.LearnedLaws.{asserting_is_fresh, derived_follows}
use Rattle.sat_core.proofs.ReadingLemmas.{hints_in_order, marks_of, other_place}
use Rattle.sat_core.proofs.RelevantLaws.{derived_relevant}
use Rattle.sat_core.proofs.SameLaws.{same_itself}
use Rattle.sat_core.proofs.SearchLaws.{propagated_trail}
use Rattle.sat_core.proofs.TrailPlaces.{IsCaused, at_cases, at_contains, at_newest, at_older, at_one, at_within, caused_at, false_placed, level_most, place_negates, reason_below}
use Rattle.sat_core.proofs.UseLaws.{analysis_on}
use Rattle.sat_core.proofs.WatchLaws.{lit_cases, single_found, value_found}

zero_or : (n : ℕ) → (n ≡ 0) ⊎ (1 ≤ n)
zero_or n = elim (cases_eq n 0) [ inl none ↦ inl none | inr some ↦ inr (omega (arith, some)) ]

nil_from_none : (c : Clause) → ((l : Lit) → Contains c l → ⊥) → c ≡ []
nil_from_none [] none = refl
nil_from_none (l ∷ ls) none = absurd (none l (zero, omega arith, refl))

-- MARKED ENTRIES

module _ (ks : List Attached) (used : List Bool) where
  marked_index : (trail : List TrailEntry) (p : ℕ) (e : TrailEntry) → IsAt trail p e →
      get_or used p false ≡ true → (k : ℕ) × (slice_get (assigned_in ks trail) k
      ≡ Some (assigned ks e)) × (slice_get (marks_of used trail) k ≡ Some true)
      × (p + suc k ≡ length trail)
  marked_index [] p e at is = absurd (omega (arith, at_within [] p e at))
  marked_index (x ∷ older) p e at is = elim (at_cases x older p e at) [
    | inl last ↦ (
      zero,
      ap (λ (y : TrailEntry). Some (assigned ks y)) last.1,
      ap Some (subst (λ (n : ℕ). get_or used n false ≡ true) last.0 is),
      omega (arith, last.0),
    )
    | inr later ↦ (let rest = marked_index older p e later is in
        (suc rest.0, rest.1, rest.2, omega (arith, rest.3)))
  ]

  index_marked : (trail : List TrailEntry) (x : Assigned) (k : ℕ) →
      slice_get (assigned_in ks trail) k ≡ Some x →
      slice_get (marks_of used trail) k ≡ Some true → (p : ℕ) × (e : TrailEntry)
      × IsAt trail p e × (get_or used p false ≡ true) × (assigned ks e ≡ x)
      × (p + suc k ≡ length trail)
  index_marked [] x k at mark = cc
  index_marked (e ∷ older) x zero at mark =
      (length older, e, at_newest e older, some_is mark, some_is at, omega arith)
  index_marked (e ∷ older) x (suc k) at mark =
      let rest = index_marked older x k at mark in (
        rest.0,
        rest.1,
        at_older e older rest.0 rest.1 rest.2,
        rest.3,
        rest.4,
        omega (arith, rest.5),
      )

  pub marked_at : (trail : List TrailEntry) (p : ℕ) (e : TrailEntry) → IsAt trail p e →
      get_or used p false ≡ true →
      IsMarked (assigned_in ks trail) (marks_of used trail) (assigned ks e)
  marked_at trail p e at is = let k = marked_index trail p e at is in (k.0, k.1, k.2)

  pub at_marked : (trail : List TrailEntry) (x : Assigned) →
      IsMarked (assigned_in ks trail) (marks_of used trail) x →
      (p : ℕ) × (e : TrailEntry) × IsAt trail p e × (get_or used p false ≡ true)
      × (assigned ks e ≡ x)
  at_marked trail x (k, at, mark) =
      let p = index_marked trail x k at mark in (p.0, p.1, p.2, p.3, p.4)

take_front : {X : Type 0} (xs : List X) (k n : ℕ) (x : X) → n < k → slice_get xs n ≡ Some x →
    slice_get (take k xs) n ≡ Some x
take_front [] k n x lt at = cc
take_front (y ∷ ys) zero n x lt at = absurd (omega (arith, lt))
take_front (y ∷ ys) (suc k) zero x lt at = at
take_front (y ∷ ys) (suc k) (suc n) x lt at = take_front ys k n x (omega (arith, lt)) at

-- WHAT IS FOUND

module _ {i a t id back : ℕ} {s : ClauseListState} {w : WatchState} {lits clause : Clause}
    {hints : List ℤ} (store : IsSearchStore i a t s w) (once : IsOnce w.trail)
    (within : AreWithin w.vars w.trail) (levels : HasLevels w.clauses w.level w.trail)
    (holds : IsPropagatedTrail (s.clauses ++ live_of w.clauses) w.vars
    (assigned_in w.clauses w.trail)) (found : IsFound w lits id clause hints back) where
  abbrev entries : List Assigned
  entries = assigned_in w.clauses w.trail

  abbrev clauses : Live
  clauses = s.clauses ++ live_of w.clauses

  abbrev m : MarkState
  m = found.s

  abbrev marks : List Bool
  marks = marks_of (found.s).used w.trail

  on : (p : ℕ) → IsMet m p → p < length w.trail
  on = analysis_on found.analysed.analysis

  -- a literal of the clause is of the point or of a lower level
  literal_from : (l : Lit) → Contains clause l → (p : ℕ) × (e : TrailEntry) × IsAt w.trail p e
      × (negation e.lit ≡ l) × IsMet m p × (IsUsed m p → ⊥)
  literal_from l has = by (zero_or w.level)
    where
      lower_from : Contains (found.learned_clause).lower l → (p : ℕ) × (e : TrailEntry)
          × IsAt w.trail p e × (negation e.lit ≡ l) × IsMet m p × (IsUsed m p → ⊥)
      lower_from in_lower =
          let q = (found.learned_clause).learned.inside l in_lower in
          (q.0, q.1, q.4, q.5, found.marks.met q.0 q.2, q.3.0)

      by : (w.level ≡ 0) ⊎ (1 ≤ w.level) → (p : ℕ) × (e : TrailEntry) × IsAt w.trail p e
          × (negation e.lit ≡ l) × IsMet m p × (IsUsed m p → ⊥)
      by (inl none) =
          lower_from (subst (λ (c : Clause). Contains c l) (found.learned_clause.zero none) has)
      by (inr some) =
          let ends = found.learned_clause.more some in
          let point = found.analysed.current some in
          elim (Contains-push_cases (found.learned_clause).lower (negation (ends.0).lit) l
          (subst (λ (c : Clause). Contains c l) ends.2 has)) [
            | inl lower ↦ lower_from lower
            | inr here ↦ (found.point, ends.0, ends.1, here, point.met, point.kept)
          ]

  -- what was met is used or stands in the clause
  stands : (p : ℕ) (e : TrailEntry) → IsAt w.trail p e → IsMet m p →
      IsUsed m p ⊎ Contains clause (negation e.lit)
  stands p e at met = by (get_or (found.s).used p false) refl
    where
      kept : (IsUsed m p → ⊥) → Contains clause (negation e.lit)
      kept unused = elim (zero_or w.level) [
        | inl none ↦
            let low = level_most w.clauses w.level w.trail p e levels at in
            absurd (unused (found.analysed.zero p met (e, at, omega (arith, low, none))))
        | inr some ↦ by_place some (cases_eq p found.point)
      ]
        where
          by_place : 1 ≤ w.level → (p ≡ found.point) ⊎ (p ≢ found.point) →
              Contains clause (negation e.lit)
          by_place some (inl here) =
              let ends = found.learned_clause.more some in
              let one : ends.0 ≡ e = at_one w.trail p ends.0 e
              (subst (λ (n : ℕ). IsAt w.trail n ends.0) (sym here) ends.1) at in
              subst (λ (c : Clause). Contains c (negation e.lit)) (sym ends.2)
              (subst (λ (x : TrailEntry). Contains ((found.learned_clause).lower
              ++ negation (ends.0).lit ∷ []) (negation x.lit)) one
              (Contains-push (found.learned_clause).lower (negation (ends.0).lit)))
          by_place some (inr other) =
              let ends = found.learned_clause.more some in
              subst (λ (c : Clause). Contains c (negation e.lit)) (sym ends.2)
              (Contains-append_left (found.learned_clause).lower (negation (ends.0).lit ∷ [])
              (negation e.lit) ((found.learned_clause).learned.whole p e
              (found.marks.listed p met) (unused, other) at))

      by : (b : Bool) → get_or (found.s).used p false ≡ b →
          IsUsed m p ⊎ Contains clause (negation e.lit)
      by true is = inl is
      by false is = inr (kept (both_ways _ is))

  -- so each literal that was met is accounted for by the older entries
  accounted : (trail : List TrailEntry) → ((p : ℕ) (e : TrailEntry) → p < length trail →
      IsAt w.trail p e → IsAt trail p e) → (l : Lit) (p : ℕ) → p < length trail →
      is_false w.trail l ≡ true → place_in w.trail l ≡ Some p → IsMet m p →
      IsAccounted clause (assigned_in w.clauses trail) (marks_of (found.s).used trail) l
  accounted trail lower l p lt is at met =
      let e = place_entry w.trail l p at in
      let same : negation (e.0).lit ≡ l = place_negates w.trail l p e.0 once is at e.1 in
      elim (stands p e.0 e.1 met) [
        | inl used ↦ inr (
          assigned w.clauses e.0,
          marked_at w.clauses (found.s).used trail p e.0 (lower p e.0 lt e.1) used,
          same,
        )
        | inr has ↦ inl (subst (Contains clause) same has)
      ]

  accounts : (trail : List TrailEntry) → ((p : ℕ) (e : TrailEntry) → IsAt trail p e →
      IsAt w.trail p e) → ((p : ℕ) (e : TrailEntry) → p < length trail → IsAt w.trail p e →
      IsAt trail p e) →
      AreAccounted clauses clause (assigned_in w.clauses trail) (marks_of (found.s).used trail)
  accounts [] raise lower = tt
  accounts (e ∷ older) raise lower =
      by (get_or (found.s).used (length older) false) refl
      (accounts older (λ p f at. raise p f (at_older e older p f at)) down)
    where
      down : (p : ℕ) (f : TrailEntry) → p < length older → IsAt w.trail p f → IsAt older p f
      down p f lt at = elim (at_cases e older p f (lower p f (omega (arith, lt)) at)) [
        | inl last ↦ absurd (omega (arith, lt, last.0))
        | inr later ↦ later
      ]

      here : IsAt w.trail (length older) e
      here = raise (length older) e (at_newest e older)

      others : (r : ClauseRef) → e.reason ≡ Some r → IsUsed m (length older) → (x : Clause) →
          SameLiterals x (lits_at w.clauses r) →
          All (λ l. (l ≡ e.lit) ⊎ IsAccounted clause (assigned_in w.clauses older)
          (marks_of (found.s).used older) l) x
      others r some used x same =
          All-weaker (Contains x) (λ l. (l ≡ e.lit) ⊎ IsAccounted clause
          (assigned_in w.clauses older) (marks_of (found.s).used older) l)
          (λ l has. by_literal l (All-contains (Contains (lits_at w.clauses r)) x l same.0 has)
          (lit_cases l e.lit)) x (All-contains_itself x)
        where
          cause : IsCaused w.clauses w.trail (length older) e (Some r)
          cause = subst (IsCaused w.clauses w.trail (length older) e) some
              (caused_at w.clauses w.level w.trail (length older) e levels once here)

          by_literal : (l : Lit) → Contains (lits_at w.clauses r) l → (l ≡ e.lit) ⊎ (l ≢ e.lit) →
              (l ≡ e.lit) ⊎ IsAccounted clause (assigned_in w.clauses older)
              (marks_of (found.s).used older) l
          by_literal l has (inl same) = inl same
          by_literal l has (inr other) =
              let q = cause.2 l has other in
              let from : IsReasonPlace w (length older) q.0 = (
                e,
                here,
                (
                  l,
                  subst (λ (o : Option ClauseRef). Contains (reason_lits w.clauses o) l)
                      (sym some) has,
                  q.3,
                  q.2,
                ),
              ) in
              inr (accounted older down l q.0 q.1 q.3 q.2
              (found.analysed.analysis.whole (length older) q.0 used from))

      by : (b : Bool) → get_or (found.s).used (length older) false ≡ b →
          AreAccounted clauses clause (assigned_in w.clauses older)
          (marks_of (found.s).used older) →
          AreAccounted clauses clause (assigned_in w.clauses (e ∷ older))
          (b ∷ marks_of (found.s).used older)
      by false is rest = rest
      by true is rest =
          let reason = found.analysed.analysis.reasons (length older) is in
          let r : ClauseRef = reason.0 in
          let one : reason.1.0 ≡ e = at_one w.trail (length older) reason.1.0 e reason.1.1 here in
          let some : e.reason ≡ Some r =
          ap (λ (x : TrailEntry). x.reason) (sym one) ∙ reason.1.2 in
          let cause : IsCaused w.clauses w.trail (length older) e (Some r) =
          subst (IsCaused w.clauses w.trail (length older) e) some
          (caused_at w.clauses w.level w.trail (length older) e levels once here) in
          let x = value_found store.keeps r cause.0 in (
            (
              id_at w.clauses r,
              x.0,
              ap (option_map (id_at w.clauses)) some,
              x.1,
              others r some is x.0 x.2,
            ),
            rest,
          )

  -- no used entry is of a variable of the clause
  apart : (x : Assigned) → IsMarked entries marks x → IsOpen clause x.lit
  apart x marked =
      let e = at_marked w.clauses (found.s).used w.trail x marked in
      All-weaker (Contains clause) (λ (l : Lit). variable l ≢ variable x.lit)
      (λ l has same.
      let q = literal_from l has in
      other_place w.trail q.0 e.0 q.1 e.1 once q.2 e.2
      (λ one. q.5 (subst (IsUsed m) (sym one) e.3))
      (sym (variable_negation (q.1).lit) ∙ ap variable q.3 ∙ same
      ∙ ap (λ (y : Assigned). variable y.lit) (sym e.4))) clause (All-contains_itself clause)

  module _ (x : Clause) (at : clause_at clauses id ≡ Some x) (same : SameLiterals x lits)
      (false_all : AreFalse w.trail lits) where
    derived : IsDerived clauses entries x clause marks
    derived = record {
      ends = All-weaker (Contains x) (IsAccounted clause entries marks)
          (λ l has.
          let in_lits = All-contains (Contains lits) x l same.0 has in
          let is = All-contains (λ (n : Lit). is_false w.trail n ≡ true) lits l false_all in_lits in
          let p = false_placed w.trail l is in
          let e = place_entry w.trail l p.0 p.1 in
          accounted w.trail (λ q f lt there. there) l p.0 (at_within w.trail p.0 e.0 e.1) is p.1
          (found.analysed.analysis.begun p.0 (l, in_lits, is, p.1))) x (All-contains_itself x);
      accounted = accounts w.trail (λ p e there. there) (λ p e lt there. there);
      apart = apart;
    }

    -- what was met stands in the false clause, or in the reason of a newer used entry
    IsNewer : ℕ → Lit → Type 0
    IsNewer q l = (p : ℕ) × (f : TrailEntry) × (n : ℕ) × (c : Clause) × (q < p)
        × IsAt w.trail p f × IsUsed m p × (option_map (id_at w.clauses) f.reason ≡ Some n)
        × (clause_at clauses n ≡ Some c) × Contains c l

    source_of : (q : ℕ) (e : TrailEntry) → IsAt w.trail q e → IsMet m q →
        Contains x (negation e.lit) ⊎ IsNewer q (negation e.lit)
    unfolding IsNewer
    source_of q e there met = elim (found.analysed.analysis.sources q met) [
      | inl (l, has, is, place) ↦
          inl (subst (Contains x) (sym (place_negates w.trail l q e once is place there))
          (All-contains (Contains x) lits l same.1 has))
      | inr (p, used, (f, at_p, from)) ↦ inr (newer p used f at_p from)
    ]
      where
        newer : (p : ℕ) → IsUsed m p → (f : TrailEntry) → IsAt w.trail p f →
            IsFalsePlace w.trail (reason_lits w.clauses f.reason) q →
            IsNewer q (negation e.lit)
        newer p used f at_p from =
            let reason = found.analysed.analysis.reasons p used in
            let r : ClauseRef = reason.0 in
            let one : reason.1.0 ≡ f = at_one w.trail p reason.1.0 f reason.1.1 at_p in
            let some : f.reason ≡ Some r =
            ap (λ (y : TrailEntry). y.reason) (sym one) ∙ reason.1.2 in
            let cause : IsCaused w.clauses w.trail p f (Some r) =
            subst (IsCaused w.clauses w.trail p f) some
            (caused_at w.clauses w.level w.trail p f levels once at_p) in
            let c = value_found store.keeps r cause.0 in
            let here : IsFalsePlace w.trail (lits_at w.clauses r) q =
            subst (λ (o : Option ClauseRef). IsFalsePlace w.trail (reason_lits w.clauses o) q) some
            from in
            let neg = place_negates w.trail here.0 q e once here.2 here.3 there in (
              p,
              f,
              id_at w.clauses r,
              c.0,
              reason_below w levels once within p q (f, at_p, from),
              at_p,
              used,
              ap (option_map (id_at w.clauses)) some,
              c.1,
              subst (Contains c.0) (sym neg) (All-contains (Contains c.0) (lits_at w.clauses r)
                  here.0 c.2.1 here.1),
            )

    needed : AreNeeded clauses x entries marks
    unfolding IsNewer
    needed k y y_at mark =
        let q = index_marked w.clauses (found.s).used w.trail y k y_at mark in
        let met = found.analysed.analysis.used_met q.0 q.3 in
        subst (λ (z : Assigned). Contains x (negation z.lit) ⊎ StandsInReason clauses
        (take k entries) (take k marks) (negation z.lit)) q.4
        (elim (source_of q.0 q.1 q.2 met) [
          | inl here ↦ inl here
          | inr (p, f, n, c, below, at_p, used, why, c_at, has) ↦
              (let j = marked_index w.clauses (found.s).used w.trail p f at_p used in
              let lt : j.0 < k = omega (arith, j.3, q.5, below) in
              inr (
                assigned w.clauses f,
                n,
                c,
                (
                  j.0,
                  take_front entries k j.0
                      (assigned w.clauses f) lt j.1,
                  take_front marks k j.0 true lt j.2,
                ),
                why,
                c_at,
                has,
              ))
        ])

    shown : All (λ l. Contains x l ⊎ StandsInReason clauses entries marks l) clause
    unfolding IsNewer
    shown = All-weaker (Contains clause)
        (λ l. Contains x l ⊎ StandsInReason clauses entries marks l)
        (λ l has.
        let q = literal_from l has in
        subst (λ (k : Lit). Contains x k ⊎ StandsInReason clauses entries marks k) q.3
        (elim (source_of q.0 q.1 q.2 q.4) [
          | inl here ↦ inl here
          | inr (p, f, n, c, below, at_p, used, why, c_at, in_c) ↦
              inr (
                assigned w.clauses f,
                n,
                c,
                marked_at w.clauses (found.s).used w.trail p f at_p used,
                why,
                c_at,
                in_c,
              )
        ])) clause (All-contains_itself clause)

    hints_are : hints ≡ marked_ids entries marks ++ pos id ∷ []
    hints_are =
        found.learned_clause.hints_are ∙ ap (λ (ids : List ℤ). ids ++ pos id ∷ [])
        (sym (hints_in_order w m found.marks found.rising
        (All-weaker (Contains m.places) (λ (p : ℕ). p < length w.trail)
        (λ p has. on p (found.marks.met p has)) m.places (All-contains_itself m.places))))

    follows : rup clauses clause hints ≡ None
    follows =
        ap (rup clauses clause) hints_are
        ∙ derived_follows clauses (none_zero (suc (i + a)) clauses store.below) clause entries
        marks id x holds.once holds.caused at derived

    relevant : IsRelevant clauses clause hints
    relevant =
        subst (IsRelevant clauses clause) (sym hints_are)
        (derived_relevant clauses (none_zero (suc (i + a)) clauses store.below) clause entries
        marks id x holds.once holds.caused at derived needed shown)

    -- AT THE CURRENT LEVEL

    false_from : (p : ℕ) (e : TrailEntry) → IsAt w.trail p e →
        IsFalseFrom entries e.level (negation e.lit)
    false_from p e there = (
      assigned w.clauses e,
      contains_assigned w.clauses w.trail e (at_contains w.trail p e there),
      refl,
      refl,
    )

    module _ (some : 1 ≤ w.level) where
      ends : (e : TrailEntry) × IsAt w.trail found.point e
          × (clause ≡ (found.learned_clause).lower ++ negation e.lit ∷ [])
      ends = found.learned_clause.more some

      abbrev first : Lit
      first = negation (ends.0).lit

      current : w.level ≡ level_of entries
      current = store.leveled.current

      -- a lower literal's level
      lower_level : (p : ℕ) (e : TrailEntry) → IsMet m p → (IsUsed m p → ⊥) → p ≢ found.point →
          IsAt w.trail p e → (1 ≤ e.level) × (e.level < w.level)
      lower_level p e met unused other there =
          let most = level_most w.clauses w.level w.trail p e levels there in
          let not_zero : e.level ≢ 0 =
          λ none. unused (found.analysed.zero p met (e, there, none)) in
          let not_here : e.level ≢ w.level =
          λ is. unused ((found.analysed.current some).others p met (e, there, is) other) in
          (omega (arith, not_zero), omega (arith, most, not_here))

      first_current : (ends.0).level ≡ level_of entries
      first_current =
          let at_level = (found.analysed.current some).current in
          let one : at_level.0 ≡ ends.0 =
          at_one w.trail found.point at_level.0 ends.0 at_level.1 ends.1 in
          ap (λ (y : TrailEntry). y.level) (sym one) ∙ at_level.2 ∙ current

      asserts : IsAsserting entries (level_of entries) back first clause
      asserts = record {
        has = subst (λ (c : Clause). Contains c first) (sym ends.2)
            (Contains-push (found.learned_clause).lower first);
        last = subst (λ (n : ℕ). IsFalseFrom entries n first) first_current
            (false_from found.point ends.0 ends.1);
        below = elim (zero_or back) [
          | inl none ↦ omega (arith, none, some, current)
          | inr one ↦
              let q = (found.learned_clause).learned.highest one in
              let level = lower_level q.0 q.1 (found.marks.met q.0 q.2) q.3.0 q.3.1 q.4 in
              omega (arith, level.1, q.5, current)
        ];
        lower = All-weaker (Contains clause) (λ l. (l ≡ first) ⊎ ((j : ℕ) × (1 ≤ j) × (j ≤ back)
            × IsFalseFrom entries j l))
            (λ l has. elim (Contains-push_cases (found.learned_clause).lower first l
            (subst (λ (c : Clause). Contains c l) ends.2 has)) [
              | inl in_lower ↦
                  let q = (found.learned_clause).learned.inside l in_lower in
                  let level = lower_level q.0 q.1 (found.marks.met q.0 q.2) q.3.0 q.3.1 q.4 in
                  inr (
                    (q.1).level,
                    level.0,
                    (found.learned_clause).learned.most q.0 q.1 q.2 q.3 q.4,
                    subst (IsFalseFrom entries (q.1).level) q.5 (false_from q.0 q.1 q.4),
                  )
              | inr here ↦ inl (sym here)
            ]) clause (All-contains_itself clause);
        highest = λ one.
            let q = (found.learned_clause).learned.highest one in (
              negation (q.1).lit,
              subst (λ (c : Clause). Contains c (negation (q.1).lit)) (sym ends.2)
                  (Contains-append_left (found.learned_clause).lower (first ∷ [])
                  (negation (q.1).lit) ((found.learned_clause).learned.whole q.0 q.1 q.2 q.3 q.4)),
              subst (λ (n : ℕ). IsFalseFrom entries n (negation (q.1).lit)) q.5
                  (false_from q.0 q.1 q.4),
            );
      }

      pub ends_asserting : EndsAsserting entries back clause
      ends_asserting = ((found.learned_clause).lower, first, ends.2, asserts)

      pub fresh : IsFresh clauses clause
      fresh = asserting_is_fresh clauses entries (level_of entries) back first clause holds.once
          asserts holds.propagated

      once_with : HasOnce clause
      once_with = subst HasOnce (sym ends.2)
          (pairs_push (λ (b c : Lit). variable b ≢ variable c) (found.learned_clause).lower first
          (found.learned_clause).learned.once
          (All-weaker (Contains (found.learned_clause).lower)
          (λ (l : Lit). variable l ≢ variable first) (λ l has eq.
          let q = (found.learned_clause).learned.inside l has in
          other_place w.trail q.0 found.point q.1 ends.0 once q.4 ends.1 q.3.1
          (sym (variable_negation (q.1).lit) ∙ ap variable q.5 ∙ eq
          ∙ variable_negation (ends.0).lit)) (found.learned_clause).lower
          (All-contains_itself (found.learned_clause).lower)))

    -- at level 0 nothing is left
    pub none_left : w.level ≡ 0 → clause ≡ []
    none_left none = nil_from_none clause (λ l has.
        let q = literal_from l has in
        let low = level_most w.clauses w.level w.trail q.0 q.1 levels q.2 in
        q.5 (found.analysed.zero q.0 q.4 (q.1, q.2, omega (arith, low, none))))

    once_all : HasOnce clause
    once_all = elim (zero_or w.level) [
      | inl none ↦ subst HasOnce (sym (none_left none))
          (λ j k d below inside. absurd (omega (arith, inside)))
      | inr some ↦ once_with some
    ]

    simple : IsSimple w.vars clause
    simple = record {
      within = All-weaker (Contains clause) (IsWithin w.vars)
          (λ l has.
          let q = literal_from l has in
          let e_in = All-contains (λ (y : TrailEntry). IsWithin w.vars y.lit) w.trail q.1 within
          (at_contains w.trail q.0 q.1 q.2) in
          let eq : variable l ≡ variable (q.1).lit =
          ap variable (sym q.3) ∙ variable_negation (q.1).lit in
          (omega (arith, eq, e_in.0), omega (arith, eq, e_in.1))) clause
          (All-contains_itself clause);
      once = once_all;
    }

    pub learned_found : IsLearnedClause (search_value i a s w) clause hints back
    learned_found = record {
      none = λ zero_level. none_left (store.leveled.current ∙ zero_level);
      asserts = λ some. ends_asserting (omega (arith, some, store.leveled.current));
      derived = (id, x, marks, at, hints_are, derived);
      simple = simple;
      literals = All-weaker (IsWithin w.vars) IsLiteral
          (λ l inside. (inside.0, omega (arith, inside.1, store.few_vars))) clause simple.within;
      follows = follows;
      relevant = relevant;
      fresh = λ some. elim (zero_or w.level) [
        | inl none ↦ absurd (some (none_left none))
        | inr one ↦ fresh one
      ];
      trail = holds;
    }

-- a single clause that is false
pub single_learned : {i a t id back : ℕ} {s : ClauseListState} {w : WatchState}
    {lits clause : Clause} {hints : List ℤ} → IsSearchStore i a t s w →
    IsFound w lits id clause hints back → clause_at s.clauses id ≡ Some lits →
    AreFalse w.trail lits → IsLearnedClause (search_value i a s w) clause hints back
single_learned {id} {s} {w} {lits} store found at false_all =
    let known = found.analysed.known in
    learned_found store known.once known.within known.levels
    (propagated_trail store known.once known.within known.levels known.propagated) found lits
    (single_found s.clauses w.clauses id lits at) (same_itself lits) false_all

-- an attached one
pub attached_learned : {i a t back : ℕ} {s : ClauseListState} {w : WatchState} {clause : Clause}
    {hints : List ℤ} → IsSearchStore i a t s w → (c : ClauseRef) → is_attached w.clauses c ≡ true →
    AreFalse w.trail (lits_at w.clauses c) →
    IsFound w (lits_at w.clauses c) (id_at w.clauses c) clause hints back →
    IsLearnedClause (search_value i a s w) clause hints back
attached_learned store c attached false_all found =
    let known = found.analysed.known in
    let x = value_found store.keeps c attached in
    learned_found store known.once known.within known.levels
    (propagated_trail store known.once known.within known.levels known.propagated) found x.0 x.1 x.2
    false_all

-- A FALSE CLAUSE

find_open : (set : List Lit) (lits : Clause) → All (λ n. is_among set n ≡ true) lits
    ⊎ ((l : Lit) × Contains lits l × (is_among set l ≡ false))
find_open set [] = inl (All-nil (λ (n : Lit). is_among set n ≡ true))
find_open set (l ∷ ls) = by (is_among set l) refl (find_open set ls)
  where
    by : (b : Bool) → is_among set l ≡ b → (All (λ n. is_among set n ≡ true) ls
        ⊎ ((k : Lit) × Contains ls k × (is_among set k ≡ false))) →
        All (λ n. is_among set n ≡ true) (l ∷ ls)
        ⊎ ((k : Lit) × Contains (l ∷ ls) k × (is_among set k ≡ false))
    by false is rest = inr (l, (zero, omega arith, refl), is)
    by true is (inl all) = inl (All-cons (λ (n : Lit). is_among set n ≡ true) l ls is all)
    by true is (inr (k, (n, inside, same), out)) =
        inr (k, (suc n, omega (arith, inside), same), out)

-- what is read at a level
in_upto : (j : ℕ) (trail : List TrailEntry) (p : ℕ) (e : TrailEntry) → IsAt trail p e →
    e.level ≤ j → is_among (falses (upto j trail)) (negation e.lit) ≡ true
in_upto j [] p e at low = absurd (omega (arith, at_within [] p e at))
in_upto j (x ∷ older) p e at low = elim (at_cases x older p e at) [
  | inl last ↦
      let x_low : nat_le x.level j ≡ true =
      le-leb x.level j (subst (λ (y : TrailEntry). y.level ≤ j) (sym last.1) low) in
      rw x_low (subst (λ (y : TrailEntry). is_among (negation x.lit ∷ falses (upto j older))
      (negation y.lit) ≡ true) last.1 (among_here (falses (upto j older)) (negation x.lit)))
  | inr later ↦ by (nat_le x.level j) refl (in_upto j older p e later low)
]
  where
    by : (b : Bool) → nat_le x.level j ≡ b →
        is_among (falses (upto j older)) (negation e.lit) ≡ true →
        is_among (falses (upto j (x ∷ older))) (negation e.lit) ≡ true
    by true is rest = rw is (among_more (falses (upto j older)) (negation x.lit) (negation e.lit)
        rest)
    by false is rest = rw is rest

-- a clause that is false now was not so at the level below
pub current_literal : (w : WatchState) (c : ClauseRef) → is_attached w.clauses c ≡ true →
    AreFalse w.trail (lits_at w.clauses c) → IsKnown w → HasCurrent w (lits_at w.clauses c)
current_literal w c attached false_all known some =
    elim (find_open (falses (upto (w.level - 1) w.trail)) (lits_at w.clauses c)) [
      | inl all ↦
          absurd ((known.propagated.below (w.level - 1) (omega (arith, some)) c
          attached).no_conflict (all_conflict (falses (upto (w.level - 1) w.trail))
          (lits_at w.clauses c) all))
      | inr (l, has, out) ↦
          let is = All-contains (λ (n : Lit). is_false w.trail n ≡ true) (lits_at w.clauses c) l
          false_all has in
          let p = false_placed w.trail l is in
          let e = place_entry w.trail l p.0 p.1 in
          let same : negation (e.0).lit ≡ l =
          place_negates w.trail l p.0 e.0 known.once is p.1 e.1 in
          let most = level_most w.clauses w.level w.trail p.0 e.0 known.levels e.1 in
          let current : (e.0).level ≡ w.level = elim (cases_lt (w.level - 1) (e.0).level) [
            | inl above ↦ omega (arith, above, most, some)
            | inr low ↦ absurd (both_ways _ out (subst (λ (n : Lit). is_among
                (falses (upto (w.level - 1) w.trail)) n ≡ true) same
                (in_upto (w.level - 1) w.trail p.0 e.0 e.1 low)))
          ] in
          (p.0, (l, has, is, p.1), (e.0, e.1, current))
    ]
