-- What a walk over reasons has found: the places that need no literal in the clause.
use Rattle.std.proofs.Common.{inl, inr, ◌⊎◌, ◌≡◌, ◌<◌, ◌≤◌, ◌++◌, ◌∷◌, [], ◌∙◌, ℕ, suc, true, false, All, Contains, ap, Bool, List, length, length-append, set, get_or, refl, sym, subst, arith}
use Rattle.std.proofs.lemmas.Bool.{both_ways}
use Rattle.std.proofs.lemmas.List.Elements.{All-contains, All-contains_itself, All-weaker, Contains-append_left, Contains-push}
use Rattle.sat_watch.specs.declared.entry.TrailEntry.{TrailEntry}
use Rattle.sat_watch.specs.Watches.{WatchState}
use Rattle.sat_watch.proofs.PlaceLemmas.{place_entry}
use Rattle.sat_core.specs.Analysis.{AreOn, HasLevel, HasReason, IsAt, IsKnown, IsReasonPlace}
use Rattle.sat_core.specs.Implied.{AreImplied, IsImplied, IsLeftOut, IsWalked, IsWalking, WalkState, steps_left}
use Rattle.sat_core.specs.Marks.{IsMet, MarkState}
use Rattle.sat_core.specs.declared.visit.Visit.{Visit}
use Rattle.sat_core.proofs.AnalysisLaws.{reason_from}
use Rattle.sat_core.proofs.MarksLaws.{mark_cases, mark_stays}
use Rattle.sat_core.proofs.TrailPlaces.{level_most, level_one, level_rises, reason_below, zero_reason}

-- where more is met, it stays implied
implied_more : (w : WatchState) (s t : MarkState) (implied : List Bool) →
    ((q : ℕ) → IsMet s q → IsMet t q) → AreImplied w s implied → AreImplied w t implied
implied_more w s t implied more are p is =
    let i = are p is in (
      i.0,
      i.1,
      i.2,
      (
        i.3.0,
        i.3.1,
        λ q from. elim (i.3.2 q from) [ inl met ↦ inl (more q met) | inr out ↦ inr out ],
      ),
    )

pub walked_more : {w : WatchState} {s t : MarkState} {walk : WalkState} → IsWalked w s walk →
    length t.met ≡ length s.met → ((q : ℕ) → IsMet s q → IsMet t q) → AreOn w.trail t →
    IsWalked w t walk
walked_more {w} {s} {t} {walk} walked size more on = record {
  known = walked.known;
  size = omega (arith, walked.size, size);
  on = on;
  walking = record {
    implied = implied_more w s t walk.marks.used more walked.walking.implied;
    on = walked.walking.on;
    size = walked.walking.size ∙ sym size;
  };
}

-- one more that is implied
pub implied_marked : (w : WatchState) (s : MarkState) (implied : List Bool) (p : ℕ) →
    AreImplied w s implied → IsImplied w s implied p → AreImplied w s (set implied p true)
implied_marked w s implied p are here q is = elim (mark_cases implied p q is) [
  | inl before ↦ grown q (are q before)
  | inr same ↦ subst (IsImplied w s (set implied p true)) (sym same) (grown p here)
]
  where
    out_still : (r : ℕ) → IsLeftOut w.trail implied r → IsLeftOut w.trail (set implied p true) r
    out_still r (inl zero) = inl zero
    out_still r (inr marked) = inr (mark_stays implied p r marked)

    grown : (r : ℕ) → IsImplied w s implied r → IsImplied w s (set implied p true) r
    grown r (e, at, lower, (c, some, covered)) = (
      e,
      at,
      lower,
      (
        c,
        some,
        λ q from. elim (covered q from) [ inl met ↦ inl met | inr out ↦ inr (out_still q out) ],
      ),
    )

-- a place that needs no literal
module _ {w : WatchState} {s : MarkState} {walk : WalkState} (walked : IsWalked w s walk) (p : ℕ)
    (out : IsLeftOut w.trail walk.marks.used p) where
  are : AreImplied w s walk.marks.used
  are = walked.walking.implied

  known : IsKnown w
  known = walked.known

  pub left_out_reason : HasReason w.trail p
  left_out_reason = elim out [
    | inl zero ↦ zero_reason w known.levels known.once p zero
    | inr is ↦ (let i = are p is in (i.3.0, (i.0, i.1, i.3.1)))
  ]

  pub left_out_low : (n : ℕ) → HasLevel w.trail n p → 1 ≤ w.level → n < w.level
  left_out_low n here some = elim out [
    | inl zero ↦ (let same = level_one w.trail n 0 p here zero in omega (arith, same, some))
    | inr is ↦ (let i = are p is in
        let same = level_one w.trail n (i.0).level p here (i.0, i.1, refl) in
        let most = level_most w.clauses w.level w.trail p i.0 known.levels i.1 in
        omega (arith, same, most, i.2))
  ]

  -- its reason meets no place that needs a literal
  pub left_out_covers : (q : ℕ) → IsReasonPlace w p q →
      IsMet s q ⊎ IsLeftOut w.trail walk.marks.used q
  left_out_covers q from = elim out [
    | inl zero ↦ (let below = reason_below w known.levels known.once known.within p q from in
        let e = place_entry w.trail from.2.0 q from.2.3 in
        let rise = level_rises w.clauses w.level w.trail q p e.0 zero.0 known.levels
        (omega (arith, below)) e.1 zero.1 in
        inr (inl (e.0, e.1, omega (arith, rise, zero.2))))
    | inr is ↦ (let i = are p is in
        i.3.2 q (reason_from w p i.0 i.3.0 i.1 i.3.1 q from))
  ]

-- whether the entry at a place needs no literal
module _ (trail : List TrailEntry) (implied : List Bool) (p : ℕ) (e : TrailEntry)
    (at : IsAt trail p e) where
  pub entry_left_out : (e.level ≡ 0) ⊎ (get_or implied p false ≡ true) → IsLeftOut trail implied p
  entry_left_out (inl zero) = inl (e, at, zero)
  entry_left_out (inr is) = inr is

  pub entry_needed : (1 ≤ e.level) × (get_or implied p false ≡ false) →
      IsLeftOut trail implied p → ⊥
  entry_needed (some, out) (inl zero) =
      let same = level_one trail e.level 0 p (e, at, refl) zero in omega (arith, some, same)
  entry_needed (some, out) (inr is) = both_ways _ out is

-- where the newest visit is taken, the others are left
module _ (w : WatchState) (s : MarkState) (old new : WalkState) (visit : Visit)
    (walking : IsWalking w s old) (marks : new.marks ≡ old.marks)
    (taken : old.visits ≡ new.visits ++ visit ∷ []) where
  on_all : All (λ v. v.place < length w.trail) (new.visits ++ visit ∷ [])
  on_all = subst (All (λ (v : Visit). v.place < length w.trail)) taken walking.on

  pub taken_walking : IsWalking w s new
  taken_walking = record {
    implied = subst (λ (m : MarkState). AreImplied w s m.used) (sym marks) walking.implied;
    on = All-weaker (Contains new.visits) (λ (v : Visit). v.place < length w.trail)
        (λ v has. All-contains (λ (x : Visit). x.place < length w.trail)
        (new.visits ++ visit ∷ []) v on_all (Contains-append_left new.visits (visit ∷ []) v has))
        new.visits (All-contains_itself new.visits);
    size = ap (λ (m : MarkState). length m.met) marks ∙ walking.size;
  }

  pub taken_on : visit.place < length w.trail
  taken_on = All-contains (λ (x : Visit). x.place < length w.trail) (new.visits ++ visit ∷ [])
      visit on_all (Contains-push new.visits visit)

  taken_long : length old.visits ≡ suc (length new.visits)
  taken_long = ap length taken ∙ length-append new.visits (visit ∷ []) ∙ omega arith

  pub taken_room : length old.visits ≤ length old.marks.places →
      length new.visits < length new.marks.places
  taken_room few =
      omega (arith, few, taken_long, ap (λ (m : MarkState). length m.places) marks)

  pub taken_left : (after : WalkState) → steps_left after ≤ steps_left new →
      steps_left after < steps_left old
  taken_left after no_more =
      let fewer : steps_left new < steps_left old =
      omega (
        arith,
        taken_long,
        ap (λ (m : MarkState). length m.places) marks,
        ap (λ (m : MarkState). length m.met) marks,
      ) in
      omega (arith, fewer, no_more)
