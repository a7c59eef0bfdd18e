-- What is learned, entry by entry, and the hints in the order of the trail.
use Rattle.std.specs.Prelude.{flat_map, max, option_map}
use Rattle.std.proofs.Common.{inl, inr, ◌⊎◌, ◌≡◌, ◌≢◌, ◌<◌, ◌≤◌, ◌+◌, ◌==◌, ℕ, zero, suc, ℤ, Bool, true, false, List, [], ◌∷◌, ◌++◌, length, get_or, reverse, Some, Contains, All, AllPairs, refl, sym, ap, ◌∙◌, subst, arith, append_assoc}
use Rattle.std.proofs.lemmas.Bool.{cases_eq, cases_lt, eq-eqb, eqb-true, false_from_ne_true}
use Rattle.std.proofs.lemmas.List.{append-nil}
use Rattle.std.proofs.lemmas.List.Elements.{All-contains, All-contains_itself, All-head, All-nil, All-weaker, Contains-append_left, Contains-push, Contains-push_cases}
use Rattle.std.proofs.lemmas.Option.{get_or_from_slice_get}
use Rattle.list_laws.proofs.Places.{some_is}
use Rattle.sat_clause.specs.declared.literal.Lit.{Lit}
use Rattle.sat_clause.specs.Literal.{Clause, negation, variable}
use Rattle.sat_clause.proofs.LiteralLaws.{variable_negation}
use Rattle.sat_watch.specs.declared.entry.TrailEntry.{TrailEntry}
use Rattle.sat_watch.specs.Trail.{IsOnce, place_in}
use Rattle.sat_watch.specs.Watches.{Attached, WatchState, id_at}
use Rattle.sat_watch.proofs.PlaceLemmas.{none_placed}
use Rattle.sat_core.specs.Analysis.{IsAt}
use Rattle.sat_core.specs.Levels.{marked_ids, marked_reason}
use Rattle.sat_core.specs.Marks.{AreMarks, MarkState}
use Rattle.sat_core.specs.Reading.{AreLearned, IsLower, entry_at, hint_at}
use Rattle.sat_core.specs.SearchStore.{assigned_in}
use Rattle.sat_core.proofs.DistinctLaws.{pairs_push}
use Rattle.sat_core.proofs.TrailPlaces.{at_cases, at_newest, at_older, at_one, at_within, no_entry}

-- ENTRIES OF DIFFERENT VARIABLES

-- an entry stands at the place of its variable
pub at_placed : (trail : List TrailEntry) (p : ℕ) (e : TrailEntry) (l : Lit) → IsOnce trail →
    IsAt trail p e → variable e.lit ≡ variable l → place_in trail l ≡ Some p
at_placed [] p e l once at same = absurd (omega (arith, at_within [] p e at))
at_placed (x ∷ older) p e l once at same = elim (at_cases x older p e at) [
  | inl last ↦
      rw (eq-eqb (variable x.lit) (variable l) (ap (λ (y : TrailEntry). variable y.lit) last.1
      ∙ same)) (ap Some (sym last.0))
  | inr later ↦ (let rest = at_placed older p e l once.1 later same in
      by (variable x.lit == variable l) refl rest)
]
  where
    by : (b : Bool) → (variable x.lit == variable l) ≡ b → place_in older l ≡ Some p →
        place_in (x ∷ older) l ≡ Some p
    by true here rest = absurd (none_placed older x.lit l p once.0
        (sym (eqb-true (variable x.lit) (variable l) here)) rest)
    by false other rest = rw other rest

pub other_place : (trail : List TrailEntry) (p q : ℕ) (e f : TrailEntry) → IsOnce trail →
    IsAt trail p e → IsAt trail q f → p ≢ q → variable e.lit ≢ variable f.lit
other_place trail p q e f once at at' other same =
    other (some_is (sym (at_placed trail p e f.lit once at same)
    ∙ at_placed trail q f f.lit once at' refl))

-- LITERALS

module _ (w : WatchState) (s : MarkState) (point : ℕ) where
  pub learned_none : (places : List ℕ) → ((p : ℕ) → Contains places p → ⊥) →
      AreLearned w s point places [] 0
  learned_none places none = record {
    inside = λ l has. absurd (omega (arith, has.1));
    whole = λ p e has. absurd (none p has);
    once = λ i j d below within. absurd (omega (arith, within));
    most = λ p e has. absurd (none p has);
    highest = λ some. absurd (omega (arith, some));
  }

  module _ (front : List ℕ) (p : ℕ) (clause : Clause) (back : ℕ)
      (learned : AreLearned w s point front clause back) where
    -- a place that is not learned
    pub learned_skip : (IsLower s point p → ⊥) →
        AreLearned w s point (front ++ p ∷ []) clause back
    learned_skip not = record {
      inside = λ l has.
          let q = learned.inside l has in
          (q.0, q.1, Contains-append_left front (p ∷ []) q.0 q.2, q.3, q.4, q.5);
      whole = λ q e has lower at. elim (Contains-push_cases front p q has) [
        | inl before ↦ learned.whole q e before lower at
        | inr here ↦ absurd (not (subst (IsLower s point) (sym here) lower))
      ];
      once = learned.once;
      most = λ q e has lower at. elim (Contains-push_cases front p q has) [
        | inl before ↦ learned.most q e before lower at
        | inr here ↦ absurd (not (subst (IsLower s point) (sym here) lower))
      ];
      highest = λ some.
          let q = learned.highest some in
          (q.0, q.1, Contains-append_left front (p ∷ []) q.0 q.2, q.3, q.4, q.5);
    }

    -- one that is
    pub learned_push : (e : TrailEntry) (now : ℕ) → IsOnce w.trail → IsAt w.trail p e →
        IsLower s point p → All (λ q. q < p) front → now ≡ max back e.level →
        AreLearned w s point (front ++ p ∷ []) (clause ++ negation e.lit ∷ []) now
    learned_push e now once at lower below is = record {
      inside = λ l has. elim (Contains-push_cases clause (negation e.lit) l has) [
        | inl before ↦
            let q = learned.inside l before in
            (q.0, q.1, Contains-append_left front (p ∷ []) q.0 q.2, q.3, q.4, q.5)
        | inr here ↦ (p, e, Contains-push front p, lower, at, here)
      ];
      whole = λ q f has q_lower at'. elim (Contains-push_cases front p q has) [
        | inl before ↦ Contains-append_left clause (negation e.lit ∷ []) (negation f.lit)
            (learned.whole q f before q_lower at')
        | inr here ↦
            let one : e ≡ f = at_one w.trail p e f at
            (subst (λ (n : ℕ). IsAt w.trail n f) (sym here) at') in
            subst (λ (x : TrailEntry). Contains (clause ++ negation e.lit ∷ []) (negation x.lit))
            one (Contains-push clause (negation e.lit))
      ];
      once = pairs_push (λ (a b : Lit). variable a ≢ variable b) clause (negation e.lit)
          learned.once
          (All-weaker (Contains clause) (λ (m : Lit). variable m ≢ variable (negation e.lit))
          (λ m has same.
          let q = learned.inside m has in
          let lt = All-contains (λ (n : ℕ). n < p) front q.0 below q.2 in
          other_place w.trail q.0 p q.1 e once q.4 at (λ eq. omega (arith, lt, eq))
          (sym (variable_negation (q.1).lit) ∙ ap variable q.5 ∙ same ∙ variable_negation e.lit))
          clause (All-contains_itself clause));
      most = λ q f has q_lower at'. elim (Contains-push_cases front p q has) [
        | inl before ↦ (let low = learned.most q f before q_lower at' in omega (arith, low, is))
        | inr here ↦
            let one : e ≡ f = at_one w.trail p e f at
            (subst (λ (n : ℕ). IsAt w.trail n f) (sym here) at') in
            let level : e.level ≡ f.level = ap (λ (x : TrailEntry). x.level) one in
            omega (arith, level, is)
      ];
      highest = λ some. elim (cases_lt back e.level) [
        | inl higher ↦ (p, e, Contains-push front p, lower, at, omega (arith, higher, is))
        | inr low ↦
            let q = learned.highest (omega (arith, some, low, is)) in (
              q.0,
              q.1,
              Contains-append_left front (p ∷ []) q.0 q.2,
              q.3,
              q.4,
              omega (arith, q.5, low, is),
            )
      ];
    }

-- HINTS

-- what so many numbers make from this one on
abbrev ids_from : (ℕ → List ℤ) → (b n : ℕ) → List ℤ
ids_from f b zero = []
ids_from f b (suc n) = f b ++ ids_from f (suc b) n

ids_last : (f : ℕ → List ℤ) (b n : ℕ) → ids_from f b (suc n) ≡ ids_from f b n ++ f (b + n)
ids_last f b zero = let same : b + 0 ≡ b = omega arith in append-nil (f b) ∙ ap f (sym same)
ids_last f b (suc n) =
    let same : suc b + n ≡ b + suc n = omega arith in
    ap (λ (ids : List ℤ). f b ++ ids) (ids_last f (suc b) n)
    ∙ sym (append_assoc (f b) (ids_from f (suc b) n) (f (suc b + n)))
    ∙ ap (λ (k : ℕ). (f b ++ ids_from f (suc b) n) ++ f k) same

-- rising numbers make the same, where no other makes anything
ids_rising : (f : ℕ → List ℤ) (b n : ℕ) (ps : List ℕ) → AllPairs (λ x y. x < y) ps →
    All (λ p. b ≤ p) ps → All (λ p. p < b + n) ps →
    ((p : ℕ) → b ≤ p → (Contains ps p → ⊥) → f p ≡ []) → ids_from f b n ≡ flat_map f ps
ids_rising f b zero [] rise low high none = refl
ids_rising f b zero (p ∷ ps) rise low high none =
    let lt = All-head (λ (q : ℕ). q < b + 0) p ps high in
    let le = All-head (λ (q : ℕ). b ≤ q) p ps low in absurd (omega (arith, lt, le))
ids_rising f b (suc n) [] rise low high none =
    ap (λ (ids : List ℤ). ids ++ ids_from f (suc b) n)
    (none b (omega arith) (λ has. omega (arith, has.1)))
    ∙ ids_rising f (suc b) n [] rise (All-nil (λ (q : ℕ). suc b ≤ q))
    (All-nil (λ (q : ℕ). q < suc b + n)) (λ p le out. none p (omega (arith, le)) out)
ids_rising f b (suc n) (p ∷ ps) rise low high none = elim (cases_eq b p) [
  | inl same ↦
      ap (λ (ids : List ℤ). f b ++ ids)
      (ids_rising f (suc b) n ps (λ i j d below within. rise (suc i) (suc j) d (omega arith)
      (omega arith))
      (λ k d within. (let up = rise 0 (suc k) d (omega arith) (omega arith) in
      omega (arith, up, same)))
      (λ k d within. (let lt = high (suc k) d (omega arith) in omega (arith, lt)))
      (λ q le out. none q (omega (arith, le))
      (λ has. elim (contains_cons p ps q has) [
        | inl here ↦ omega (arith, here, same, le)
        | inr later ↦ out later
      ])))
      ∙ ap (λ (k : ℕ). f k ++ flat_map f ps) same
  | inr other ↦
      let le = All-head (λ (q : ℕ). b ≤ q) p ps low in
      ap (λ (ids : List ℤ). ids ++ ids_from f (suc b) n)
      (none b (omega arith) (λ has. elim (contains_cons p ps b has) [
        | inl here ↦ other here
        | inr later ↦ (let up = All-contains (λ (q : ℕ). p < q) ps b
            (λ k d within. rise 0 (suc k) d (omega arith) (omega arith)) later in
            omega (arith, up, le))
      ]))
      ∙ ids_rising f (suc b) n (p ∷ ps) rise
      (λ k d within. by_place k d within le other)
      (λ k d within. (let lt = high k d within in omega (arith, lt)))
      (λ q le' out. none q (omega (arith, le')) out)
]
  where
    contains_cons : (x : ℕ) (xs : List ℕ) (y : ℕ) → Contains (x ∷ xs) y → (y ≡ x) ⊎ Contains xs y
    contains_cons x xs y (zero, within, is) = inl (sym is)
    contains_cons x xs y (suc k, within, is) = inr (k, omega (arith, within), is)

    by_place : (k d : ℕ) → k < length (p ∷ ps) → b ≤ p → b ≢ p → suc b ≤ get_or (p ∷ ps) k d
    by_place zero d within le other = omega (arith, le, other)
    by_place (suc k) d within le other =
        let up = rise 0 (suc k) d (omega arith) within in omega (arith, up, le)

-- marks of a trail's entries, by their places
abbrev pub marks_of : List Bool → List TrailEntry → List Bool
marks_of used [] = []
marks_of used (e ∷ older) = get_or used (length older) false ∷ marks_of used older

-- the marked ids are what the places make
marked_from : (ks : List Attached) (used : List Bool) (f : ℕ → List ℤ) (trail : List TrailEntry) →
    ((p : ℕ) (e : TrailEntry) → IsAt trail p e →
    f p ≡ marked_reason (get_or used p false) (option_map (id_at ks) e.reason)) →
    marked_ids (assigned_in ks trail) (marks_of used trail) ≡ ids_from f 0 (length trail)
marked_from ks used f [] is = refl
marked_from ks used f (e ∷ older) is =
    let zero_more : 0 + length older ≡ length older = omega arith in
    ap (λ (ids : List ℤ). ids
    ++ marked_reason (get_or used (length older) false) (option_map (id_at ks) e.reason))
    (marked_from ks used f older (λ p x at. is p x (at_older e older p x at)))
    ∙ ap (λ (ids : List ℤ). ids_from f 0 (length older) ++ ids)
    (sym (is (length older) e (at_newest e older)))
    ∙ ap (λ (k : ℕ). ids_from f 0 (length older) ++ f k) (sym zero_more)
    ∙ sym (ids_last f 0 (length older))

pub hints_in_order : (w : WatchState) (s : MarkState) → AreMarks s →
    AllPairs (λ a b. a < b) s.places → All (λ p. p < length w.trail) s.places →
    marked_ids (assigned_in w.clauses w.trail) (marks_of s.used w.trail)
    ≡ flat_map (hint_at w s) s.places
hints_in_order w s marks rise on =
    marked_from w.clauses s.used (hint_at w s) w.trail (λ p e at.
    ap (λ (x : TrailEntry). marked_reason (get_or s.used p false)
    (option_map (id_at w.clauses) x.reason))
    (get_or_from_slice_get (reverse w.trail) p e no_entry at))
    ∙ ids_rising (hint_at w s) 0 (length w.trail) s.places rise
    (λ k d within. omega arith)
    (λ k d within. (let lt = on k d within in omega (arith, lt)))
    (λ p le out. (let unused : get_or s.used p false ≡ false =
    false_from_ne_true _ (λ is. out (marks.listed p (marks.used_met p is))) in
    ap (λ (b : Bool). marked_reason b (option_map (id_at w.clauses) (entry_at w.trail p).reason))
    unused))
