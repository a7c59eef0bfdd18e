-- What the use of an entry's reason makes of an analysis, and of the way to the first unique
-- implication point.
use Rattle.std.proofs.Common.{inl, inr, ◌⊎◌, ◌≡◌, ◌<◌, ◌≤◌, ◌-◌, ◌++◌, ◌∷◌, [], ℕ, suc, true, false, List, length, get_or, slice_get, take, Contains, Some, sym, ap, ◌∙◌, subst, arith}
use Rattle.std.proofs.lemmas.Bool.{both_ways, cases_eq}
use Rattle.std.proofs.lemmas.List.{take-append-le}
use Rattle.std.proofs.lemmas.List.Elements.{Contains-push_cases}
use Rattle.std.proofs.lemmas.Option.{slice_get_within}
use Rattle.list_laws.proofs.Places.{take-get}
use Rattle.sat_clause.specs.Literal.{Clause}
use Rattle.sat_watch.specs.Watches.{WatchState}
use Rattle.sat_core.specs.Analysis.{AreOn, AreUsed, GoesOn, HasLevel, HasReason, HasSource, IsAnalysed, IsAnalysis, IsFalsePlace, IsKnown, IsLeast, IsNoPoint, IsPoint, IsReasonPlace, IsWalk, Uses, reason_lits}
use Rattle.sat_core.specs.Marks.{IsClean, IsMet, IsUsed, MarkState, Meets, with_places}
use Rattle.sat_core.proofs.MarksLaws.{mark_cases, mark_stays}
use Rattle.sat_watch.proofs.PlaceLemmas.{place_entry}
use Rattle.sat_core.proofs.TrailPlaces.{at_within, later_reason, level_one, level_rises, reason_below}

module _ {w : WatchState} {p : ℕ} {old new : MarkState} (uses : Uses w p old new) where
  between : MarkState
  between = uses.between

  pub uses_size : length new.met ≡ length old.met
  uses_size = ap (λ (s : MarkState). length s.met) uses.is ∙ uses.meets.size

  pub uses_met : (q : ℕ) → IsMet old q → IsMet new q
  uses_met q is = subst (λ (s : MarkState). IsMet s q) (sym uses.is) (uses.meets.kept q is)

  pub uses_reason : (q : ℕ) → IsReasonPlace w p q → IsMet new q
  uses_reason q is = subst (λ (s : MarkState). IsMet s q) (sym uses.is) (uses.meets.all q is)

  pub uses_only : (q : ℕ) → IsMet new q → IsMet old q ⊎ IsReasonPlace w p q
  uses_only q is = uses.meets.only q (subst (λ (s : MarkState). IsMet s q) uses.is is)

  pub uses_used : (q : ℕ) → IsUsed old q → IsUsed new q
  uses_used q is =
      subst (λ (s : MarkState). IsUsed s q) (sym uses.is)
      (mark_stays (uses.between).used p q
      (subst (λ (us : List _). get_or us q false ≡ true) (sym uses.meets.used) is))

  pub uses_cases : (q : ℕ) → IsUsed new q → IsUsed old q ⊎ (q ≡ p)
  uses_cases q is =
      elim (mark_cases (uses.between).used p q (subst (λ (s : MarkState). IsUsed s q) uses.is is)) [
        | inl before ↦ inl (subst (λ (us : List _). get_or us q false ≡ true) uses.meets.used
            before)
        | inr here ↦ inr here
      ]

  -- no unique implication point becomes one
  no_point_still : (conflict : Clause) (q : ℕ) → IsNoPoint w conflict old q →
      IsNoPoint w conflict new q
  no_point_still conflict q (place, below, current, from) = (
    place,
    below,
    current,
    elim from [
      | inl here ↦ inl here
      | inr newer ↦ inr (newer.0, newer.1, uses_used newer.0 newer.2, newer.3)
    ],
  )

  pub analysis_uses : {conflict : Clause} → IsMet old p → HasReason w.trail p →
      (1 ≤ w.level → HasLevel w.trail w.level p → IsNoPoint w conflict old p) →
      IsAnalysis w conflict old → IsAnalysis w conflict new
  analysis_uses {conflict} met reason no_point a = record {
    size = omega (arith, a.size, uses_size);
    begun = λ q is. uses_met q (a.begun q is);
    whole = λ r q used is. elim (uses_cases r used) [
      | inl before ↦ uses_met q (a.whole r q before is)
      | inr here ↦ uses_reason q (subst (λ (n : ℕ). IsReasonPlace w n q) here is)
    ];
    reasons = λ r used. elim (uses_cases r used) [
      | inl before ↦ a.reasons r before
      | inr here ↦ subst (HasReason w.trail) (sym here) reason
    ];
    used_met = λ r used. elim (uses_cases r used) [
      | inl before ↦ uses_met r (a.used_met r before)
      | inr here ↦ subst (IsMet new) (sym here) (uses_met p met)
    ];
    sources = λ q is. elim (uses_only q is) [
      | inl before ↦ source_still q (a.sources q before)
      | inr from ↦ inr (p, uses.here, from)
    ];
    no_point = λ r used some current. elim (uses_cases r used) [
      | inl before ↦ no_point_still conflict r (a.no_point r before some current)
      | inr here ↦ no_point_still conflict r (subst (IsNoPoint w conflict old) (sym here)
          (no_point some (subst (HasLevel w.trail w.level) here current)))
    ];
  }
    where
      source_still : (q : ℕ) → HasSource w conflict old q → HasSource w conflict new q
      source_still q (inl here) = inl here
      source_still q (inr from) = inr (from.0, uses_used from.0 from.1, from.2)

-- ON AND ON

pub goes_further : {w : WatchState} {a b c : MarkState} → GoesOn w a b → GoesOn w b c → GoesOn w a c
goes_further one two = record {
  size = two.size ∙ one.size;
  kept = λ conflict is. two.kept conflict (one.kept conflict is);
}

-- THE WAY DOWN

module _ {w : WatchState} {place least : ℕ} {old : MarkState} (walk : IsWalk w old place least)
    (below : least < place) where
  pub pass_reason : HasReason w.trail place
  pass_reason = later_reason w walk.known.levels walk.known.once least place walk.current below
      walk.within

  pub pass_no_point : {conflict : Clause} → IsAnalysis w conflict old →
      IsNoPoint w conflict old place
  pass_no_point a = (
    least,
    below,
    walk.current,
    elim (a.sources least walk.met) [
      | inl here ↦ inl here
      | inr from ↦ inr (from.0, walk.above from.0 from.1, from.1, from.2)
    ],
  )

  -- one that was not met
  pub walk_by : get_or old.met place false ≡ false → IsWalk w old (place - 1) least
  walk_by out = record {
    known = walk.known;
    size = walk.size;
    within = omega (arith, walk.within);
    down = omega (arith, below);
    met = walk.met;
    current = walk.current;
    lowest = walk.lowest;
    above = λ p is. let up = walk.above p is in omega (arith, up);
    passed = λ p up is current. elim (cases_eq p place) [
      | inl same ↦ absurd (both_ways _ out (subst (IsMet old) same is))
      | inr other ↦ walk.passed p (omega (arith, up, other)) is current
    ];
  }

  -- one whose reason is used
  pub walk_on : {new : MarkState} {now : ℕ} → Uses w place old new →
      IsLeast w.trail w.level (IsReasonPlace w place) least now →
      IsWalk w new (place - 1) now
  walk_on {new} {now} uses lower = record {
    known = walk.known;
    size = omega (arith, walk.size, uses_size uses);
    within = omega (arith, walk.within);
    down = omega (arith, lower.down, below);
    met = elim lower.is [
      | inl same ↦ subst (IsMet new) (sym same) (uses_met uses least walk.met)
      | inr found ↦ uses_reason uses now found.0
    ];
    current = elim lower.is [
      | inl same ↦ subst (HasLevel w.trail w.level) (sym same) walk.current
      | inr found ↦ found.1
    ];
    lowest = λ p is current. elim (uses_only uses p is) [
      | inl before ↦ (let low = walk.lowest p before current in omega (arith, low, lower.down))
      | inr from ↦ lower.lowest p from current
    ];
    above = λ p is. elim (uses_cases uses p is) [
      | inl before ↦ (let up = walk.above p before in omega (arith, up))
      | inr here ↦ omega (arith, here, below)
    ];
    passed = λ p up is current. elim (cases_eq p place) [
      | inl same ↦ subst (IsUsed new) (sym same) uses.here
      | inr other ↦ elim (uses_only uses p is) [
        | inl before ↦ uses_used uses p (walk.passed p (omega (arith, up, other)) before current)
        | inr from ↦ (let known = walk.known in
            let down = reason_below w known.levels known.once known.within place p from in
            absurd (omega (arith, up, down, other)))
      ]
    ];
  }

  -- what is kept where its reason is used
  pub walk_goes : {new : MarkState} → IsMet old place → Uses w place old new → GoesOn w old new
  walk_goes met uses = record {
    size = uses_size uses;
    kept = λ conflict a.
        analysis_uses uses met pass_reason (λ some current. pass_no_point a) a;
  }

-- where it ends
pub walk_ends : (w : WatchState) (s : MarkState) (least : ℕ) → IsWalk w s least least →
    IsPoint w s least
walk_ends w s least walk = record {
  met = walk.met;
  current = walk.current;
  kept = λ used. let up = walk.above least used in omega (arith, up);
  others = λ p is current other.
      let low = walk.lowest p is current in
      walk.passed p (omega (arith, low, other)) is current;
}

-- AT A LOWER LEVEL

-- the entry at the place has a reason, and is of a level below the current one
pub record IsLow (w : WatchState) (p : ℕ) : Type 0 where
  pub level : ℕ
  pub here : HasLevel w.trail level p
  pub reason : HasReason w.trail p
  pub under : 1 ≤ w.level → level < w.level

module _ {w : WatchState} {p : ℕ} {old new : MarkState} (known : IsKnown w) (low : IsLow w p)
    (met : IsMet old p) (uses : Uses w p old new) where
  pub lower_goes : GoesOn w old new
  lower_goes = record {
    size = uses_size uses;
    kept = λ conflict a. analysis_uses uses met low.reason
        (λ some current. let same = level_one w.trail low.level w.level p low.here current in
        let under = low.under some in absurd (omega (arith, under, same))) a;
  }

  pub lower_on : AreOn w.trail old → AreOn w.trail new
  lower_on on q is = elim (uses_only uses q is) [
    | inl before ↦ on q before
    | inr from ↦ (let below = reason_below w known.levels known.once known.within p q from in
        let lt = on p met in omega (arith, below, lt))
  ]

  -- what it meets is of no higher level
  lower_below : (q : ℕ) → IsReasonPlace w p q → 1 ≤ w.level → HasLevel w.trail w.level q → ⊥
  lower_below q from some (f, at, is) =
      let below = reason_below w known.levels known.once known.within p q from in
      let rise = level_rises w.clauses w.level w.trail q p f low.here.0 known.levels
      (omega (arith, below)) at low.here.1 in
      let under = low.under some in
      omega (arith, rise, under, is, low.here.2)

  pub lower_point : (point : ℕ) → 1 ≤ w.level → IsPoint w old point → IsPoint w new point
  lower_point point some is = record {
    met = uses_met uses point is.met;
    current = is.current;
    kept = λ used. elim (uses_cases uses point used) [
      | inl before ↦ is.kept before
      | inr here ↦ (let same = level_one w.trail low.level w.level p low.here
          (subst (HasLevel w.trail w.level) here is.current) in
          let under = low.under some in omega (arith, under, same))
    ];
    others = λ q q_met current other. elim (uses_only uses q q_met) [
      | inl before ↦ uses_used uses q (is.others q before current other)
      | inr from ↦ absurd (lower_below q from some current)
    ];
  }

-- the first places, with one more
module _ (w : WatchState) (i p : ℕ) (old : MarkState) (at : slice_get old.places i ≡ Some p) where
  front_grows : (added : List ℕ) →
      take (suc i) (old.places ++ added) ≡ take i old.places ++ p ∷ []
  front_grows added =
      let lt = slice_get_within old.places i p at in
      take-append-le (suc i) old.places added (omega (arith, lt)) ∙ take-get old.places i p at

  pub used_front : (P : ℕ → Type 0) (new : MarkState) (added : List ℕ) →
      new.places ≡ old.places ++ added → ((q : ℕ) → IsUsed old q → IsUsed new q) →
      (P p → IsUsed new p) → AreUsed P i old → AreUsed P (suc i) new
  used_front P new added places stays here front q has is =
      elim (Contains-push_cases (take i old.places) p q
      (subst (λ (ps : List ℕ). Contains ps q)
      (ap (take (suc i)) places ∙ front_grows added) has)) [
        | inl before ↦ stays q (front q before is)
        | inr same ↦ subst (IsUsed new) same (here (subst P (sym same) is))
      ]

-- THE BEGINNING

pub analysis_on : {w : WatchState} {conflict : Clause} {s : MarkState} → IsAnalysis w conflict s →
    AreOn w.trail s
analysis_on {w} {conflict} a place is = elim (a.sources place is) [
  | inl here ↦ on conflict here
  | inr from ↦ on (reason_lits w.clauses (from.2.0).reason) from.2.2
]
  where
    on : (lits : Clause) → IsFalsePlace w.trail lits place → place < length w.trail
    on lits (l, has, false_is, at) =
        let e = place_entry w.trail l place at in at_within w.trail place e.0 e.1

module _ {old new : MarkState} (w : WatchState) (conflict : Clause) (clean : IsClean old)
    (meets : Meets (IsFalsePlace w.trail conflict) old new) where
  none_used : (p : ℕ) → IsUsed new p → ⊥
  none_used p is = both_ways _ (clean.none_used p)
      (subst (λ (us : List _). get_or us p false ≡ true) meets.used is)

  met_from : (p : ℕ) → IsMet new p → IsFalsePlace w.trail conflict p
  met_from p is = elim (meets.only p is) [
    | inl before ↦ absurd (both_ways _ (clean.none_met p) before)
    | inr from ↦ from
  ]

  pub analysis_starts : w.vars ≤ length old.met → IsAnalysis w conflict new
  analysis_starts size = record {
    size = omega (arith, size, meets.size);
    begun = meets.all;
    whole = λ p place used is. absurd (none_used p used);
    reasons = λ p used. absurd (none_used p used);
    used_met = λ p used. absurd (none_used p used);
    sources = λ place is. inl (met_from place is);
    no_point = λ p used some current. absurd (none_used p used);
  }

  -- the least place of the current level, where there is one
  module _ {least : ℕ} (lower : IsLeast w.trail w.level (IsFalsePlace w.trail conflict)
      (length w.trail) least) (p : ℕ) (from : IsFalsePlace w.trail conflict p)
      (current : HasLevel w.trail w.level p) where
    least_found : IsFalsePlace w.trail conflict least × HasLevel w.trail w.level least
    least_found = elim lower.is [
      | inl top ↦ (let low = lower.lowest p from current in
          let lt = at_within w.trail p current.0 current.1 in absurd (omega (arith, low, lt, top)))
      | inr found ↦ found
    ]

    pub walk_starts : IsKnown w → w.vars ≤ length old.met →
        IsWalk w new (length w.trail - 1) least
    walk_starts known size =
        let lt = at_within w.trail least (least_found.1).0 (least_found.1).1 in
        record {
          known = known;
          size = omega (arith, size, meets.size);
          within = omega (arith, lt);
          down = omega (arith, lt);
          met = meets.all least least_found.0;
          current = least_found.1;
          lowest = λ q is here. lower.lowest q (met_from q is) here;
          above = λ q used. absurd (none_used q used);
          passed = λ q up is here. let lq = at_within w.trail q here.0 here.1 in
              absurd (omega (arith, up, lq));
        }

-- the order in which the places are listed doesn't matter
pub analysed_sorted : (w : WatchState) (conflict : Clause) (s : MarkState) (point : ℕ)
    (places : List ℕ) → IsAnalysed w conflict s point →
    IsAnalysed w conflict (with_places places s) point
analysed_sorted w conflict s point places is = record {
  known = is.known;
  analysis = record {
    size = is.analysis.size;
    begun = is.analysis.begun;
    whole = is.analysis.whole;
    reasons = is.analysis.reasons;
    used_met = is.analysis.used_met;
    sources = is.analysis.sources;
    no_point = is.analysis.no_point;
  };
  zero = is.zero;
  current = λ some. let at = is.current some in record {
    met = at.met;
    current = at.current;
    kept = at.kept;
    others = at.others;
  };
}
