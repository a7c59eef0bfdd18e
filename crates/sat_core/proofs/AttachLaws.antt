-- When a clause may be attached, and what it is then.
use Rattle.std.specs.Prelude.{if◌then◌else◌}
use Rattle.std.proofs.Common.{inl, inr, ◌⊎◌, ◌≡◌, ◌≤◌, ℕ, zero, suc, Bool, true, false, List, [], ◌∷◌, ◌++◌, Option, None, Some, Contains, refl, ap, ◌∙◌, subst, arith}
use Rattle.std.proofs.lemmas.Bool.{both_ways, eq-eqb}
use Rattle.std.proofs.lemmas.List.Elements.{All-contains}
use Rattle.sat_clause.specs.declared.literal.Lit.{Lit}
use Rattle.sat_clause.specs.Literal.{Clause, negation}
use Rattle.sat_arena.specs.declared.clause_ref.ClauseRef.{ClauseRef}
use Rattle.sat_watch.specs.declared.entry.TrailEntry.{TrailEntry}
use Rattle.sat_watch.specs.Levels.{pending_without}
use Rattle.sat_watch.specs.Trail.{value_in}
use Rattle.sat_watch.specs.Watched.{IsReason, is_false, true_at}
use Rattle.sat_watch.specs.Watches.{Attached, Attaches, HasOneOpen, HasOneTrue, HasTwoFree, AreInPlace, WatchState, implied, is_attached, lits_at}
use Rattle.sat_watch.proofs.GoesLemmas.{reason_moves}
use Rattle.sat_watch.proofs.LevelLemmas.{true_is_false}
use Rattle.sat_watch.proofs.WatchLemmas.{lit_tells}
use Rattle.sat_core.specs.Levels.{Assigned, level_of}
use Rattle.sat_core.specs.SearchStore.{IsLeveled, assigned, assigned_in}
use Rattle.sat_core.specs.Start.{IsTaken}
use Rattle.sat_core.proofs.AttachedLaws.{last_is, new_place}
use Rattle.sat_core.proofs.DecideLaws.{leveled_any, leveled_implied, value_stays}
use Rattle.sat_core.proofs.LevelLaws.{none_above}

-- LITERALS

pub true_none : (trail : List TrailEntry) (l : Lit) → is_false trail (negation l) ≡ false
    → true_at trail l ≡ None
true_none trail l free = by (true_at trail l) refl
  where
    by : (o : Option ℕ) → true_at trail l ≡ o → true_at trail l ≡ None
    by None is = is
    by (Some n) is = absurd (both_ways _ free (true_is_false trail l n is))

-- a literal is true at the level of its entry
pub true_entry : (trail : List TrailEntry) (l : Lit) (n : ℕ) → true_at trail l ≡ Some n →
    (e : TrailEntry) × Contains trail e × (e.lit ≡ l) × (e.level ≡ n)
true_entry [] l n is = cc
true_entry (e ∷ older) l n is =
    elim (lit_tells e.lit l) [
      | inl same ↦ (let at : Some e.level ≡ Some n = rw same.0 at is in
          let level : e.level ≡ n = cc in (e, (zero, omega arith, refl), same.1, level))
      | inr other ↦
          let rest = true_entry older l n (rw other.0 at is) in
          (rest.0, (suc rest.1.0, omega (arith, rest.1.1), rest.1.2), rest.2, rest.3)
    ]

pub contains_assigned : (ks : List Attached) (trail : List TrailEntry) (e : TrailEntry)
    → Contains trail e →
    Contains (assigned_in ks trail) (assigned ks e)
contains_assigned ks [] e (k, within, is) = absurd (omega (arith, within))
contains_assigned ks (x ∷ older) e (zero, within, is) =
    let same : x ≡ e = is in (zero, omega arith, ap (assigned ks) same)
contains_assigned ks (x ∷ older) e (suc k, within, is) =
    let rest = contains_assigned ks older e (k, omega (arith, within), is) in
    (suc rest.0, omega (arith, rest.1), rest.2)

-- at level 0 each true literal is true at level 0
pub level_zero : (s : WatchState) (l : Lit) (n : ℕ) → IsLeveled s → s.level ≡ 0
    → true_at s.trail l ≡ Some n → n ≡ 0
level_zero s l n leveled zero_is is =
    let e = true_entry s.trail l n is in
    let low = All-contains (λ (x : Assigned). x.level ≤ level_of (assigned_in s.clauses s.trail))
    (assigned_in s.clauses s.trail) (assigned s.clauses e.0)
    (none_above (assigned_in s.clauses s.trail) leveled.levels)
    (contains_assigned s.clauses s.trail e.0 e.1) in
    omega (arith, low, leveled.current, zero_is, e.3)

-- what a value says of a literal and its negation
abbrev pub Says : List TrailEntry → Lit → Option Bool → Type 0
Says trail l None = (is_false trail l ≡ false) × (is_false trail (negation l) ≡ false)
Says trail l (Some true) = (is_false trail l ≡ false) × (is_false trail (negation l) ≡ true)
Says trail l (Some false) = is_false trail l ≡ true

pub value_says : (trail : List TrailEntry) (l : Lit) → (o : Option Bool) → value_in trail l ≡ o
    → Says trail l o
value_says trail l o is = by (is_false trail l) refl (is_false trail (negation l)) refl is
  where
    by : (a : Bool) → is_false trail l ≡ a → (b : Bool) → is_false trail (negation l) ≡ b →
        (if a then Some false else if b then Some true else None) ≡ o → Says trail l o
    by true a b_any b e = subst (Says trail l) e a
    by false a true b e = subst (Says trail l) e (a, b)
    by false a false b e = subst (Says trail l) e (a, b)

-- WHAT IS ATTACHED

module _ {old new : WatchState} {lits : Clause} {id : ℕ} {c : ClauseRef}
    (does : Attaches old new lits id c) (stand : AreInPlace 0 old.clauses) where
  abbrev attached : Attached
  attached = record { place = c; id = id; lits = does.order }

  pub now_clauses : new.clauses ≡ old.clauses ++ attached ∷ []
  now_clauses = ap (λ (s : WatchState). s.clauses) does.is

  pub now_trail : new.trail ≡ old.trail
  now_trail = ap (λ (s : WatchState). s.trail) does.is

  pub now_level : new.level ≡ old.level
  now_level = ap (λ (s : WatchState). s.level) does.is

  pub now_vars : new.vars ≡ old.vars
  now_vars = ap (λ (s : WatchState). s.vars) does.is

  pub now_attached : is_attached new.clauses c ≡ true
  now_attached =
      let last = last_is old.clauses attached (new_place old.clauses c stand does.place) in
      rw now_clauses last.attached

  pub now_lits : lits_at new.clauses c ≡ does.order
  now_lits =
      let last = last_is old.clauses attached (new_place old.clauses c stand does.place) in
      rw now_clauses last.lits

  pub now_reason : (l : Lit) → IsReason old.trail lits l
      → IsReason new.trail (lits_at new.clauses c) l
  now_reason l why = rw (now_trail, now_lits) (reason_moves old.trail lits does.order l does.same
      why)

  pub now_leveled : IsLeveled old → IsLeveled new
  now_leveled leveled = leveled_any old new now_trail now_level leveled

-- behind the implied literal of a pending clause none is pending
pub implied_pending : (s : WatchState) (l : Lit) (c : ClauseRef) → s.pending ≡ Some c
    → (implied l c s).pending ≡ None
implied_pending s l c pending = ap (pending_without c) pending ∙ rw (eq-eqb c.word c.word refl) refl

-- AT LEVEL 0

module _ {old new : WatchState} {lits : Clause} {id : ℕ} {c : ClauseRef}
    (does : Attaches old new lits id c) (stand : AreInPlace 0 old.clauses) where
  pub taken_free : IsLeveled old → old.level ≡ 0 →
      HasTwoFree old.trail lits ⊎ HasOneTrue old.trail lits → IsTaken old new lits id
  taken_free leveled level case = record {
    place = c;
    behind = does.place;
    order = does.order;
    same = does.same;
    clauses = now_clauses does stand;
    vars = now_vars does stand;
    level = now_level does stand ∙ level;
    leveled = now_leveled does stand leveled;
    pending = does.not_pending case;
    values = λ m some. rw (now_trail does stand) some;
  }

  pub taken_open : (l : Lit) → IsLeveled old → old.level ≡ 0 → HasOneOpen old.trail old.level lits
      → IsTaken old (implied l c new) lits id
  taken_open l leveled level case = record {
    place = c;
    behind = does.place;
    order = does.order;
    same = does.same;
    clauses = now_clauses does stand;
    vars = now_vars does stand;
    level = now_level does stand ∙ level;
    leveled = leveled_implied new l c (now_leveled does stand leveled);
    pending = implied_pending new l c (does.pending case);
    values = λ m some.
        let e : TrailEntry = record { lit = l; level = new.level; reason = Some c } in
        value_stays (e ∷ []) new.trail m (rw (now_trail does stand) some);
  }
