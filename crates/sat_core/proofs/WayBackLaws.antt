-- Variables that lose their values are held again.
use Rattle.std.specs.Prelude.{nat_le, nat_lt, if◌then◌else◌}
use Rattle.std.proofs.Common.{inl, inr, ◌⊎◌, ◌≡◌, ◌≢◌, ◌-◌, ◌<◌, ◌≤◌, ℕ, zero, suc, Bool, true, false, List, [], ◌∷◌, length, set, get_or, Contains, None, refl, sym, ap, ◌∙◌, subst, arith}
use Rattle.std.proofs.lemmas.Bool.{both_ways, cases_eq, le-leb, lt-ltb}
use Rattle.std.proofs.lemmas.List.{get_or-set_other, get_or-set_same, length-set}
use Rattle.sat_clause.specs.Literal.{positive, variable}
use Rattle.sat_order.specs.Order.{IsVariable, OrderState, is_held}
use Rattle.sat_watch.specs.declared.entry.TrailEntry.{TrailEntry}
use Rattle.sat_watch.specs.Levels.{upto}
use Rattle.sat_watch.specs.Trail.{value_in}
use Rattle.sat_watch.specs.Watches.{HasLevels, WatchState, gone_back}
use Rattle.sat_watch.proofs.PlaceLemmas.{place_entry, placed}
use Rattle.sat_core.specs.Analysis.{IsAt}
use Rattle.sat_core.specs.Ranking.{IsRanked}
use Rattle.sat_core.proofs.DecideLaws.{value_assumed, value_stays}
use Rattle.sat_core.proofs.TrailPlaces.{at_contains, at_one, at_within, level_rises}

-- the variable of an entry has a value
entry_value : (trail : List TrailEntry) (e : TrailEntry) → Contains trail e →
    value_in trail (positive (variable e.lit)) ≢ None
entry_value [] e (k, within, is) = absurd (omega (arith, within))
entry_value (x ∷ older) e (zero, within, is) =
    let same : x ≡ e = is in
    subst (λ (y : TrailEntry). value_in (x ∷ older) (positive (variable y.lit)) ≢ None) same
    (value_assumed older x)
entry_value (x ∷ older) e (suc k, within, is) =
    value_stays (x ∷ []) older (positive (variable e.lit))
    (entry_value older e (k, omega (arith, within), is))

-- an entry of a level that is kept stays
contains_upto : (j : ℕ) (trail : List TrailEntry) (e : TrailEntry) → Contains trail e →
    e.level ≤ j → Contains (upto j trail) e
contains_upto j [] e (k, within, is) low = absurd (omega (arith, within))
contains_upto j (x ∷ older) e (zero, within, is) low =
    let same : x ≡ e = is in
    let under : x.level ≤ j = subst (λ (y : TrailEntry). y.level ≤ j) (sym same) low in
    rw (le-leb x.level j under) (zero, omega arith, same)
contains_upto j (x ∷ older) e (suc k, within, is) low =
    let rest = contains_upto j older e (k, omega (arith, within), is) low in
    by (nat_le x.level j) rest
  where
    by : (b : Bool) → Contains (upto j older) e →
        Contains (if b then x ∷ upto j older else upto j older) e
    by true rest = (suc rest.0, omega (arith, rest.1), rest.2)
    by false rest = rest

value_back : (j : ℕ) (w : WatchState) (e : TrailEntry) → Contains w.trail e → e.level ≤ j →
    value_in (gone_back j w).trail (positive (variable e.lit)) ≢ None
value_back j w e inside low = by (nat_lt j w.level)
  where
    by : (b : Bool) → value_in (if b then record w {
      trail = upto j w.trail;
      queued = 0;
      level = j;
      pending = None;
    } else w).trail (positive (variable e.lit)) ≢ None
    by true = entry_value (upto j w.trail) e (contains_upto j w.trail e inside low)
    by false = entry_value w.trail e inside

pub vars_back : (j : ℕ) (w : WatchState) → (gone_back j w).vars ≡ w.vars
vars_back j w = by (nat_lt j w.level)
  where
    by : (b : Bool) → (if b then record w {
      trail = upto j w.trail;
      queued = 0;
      level = j;
      pending = None;
    } else w).vars ≡ w.vars
    by true = refl
    by false = refl

-- where none is pending none is pending behind the way back
pub pending_start : (w : WatchState) → w.pending ≡ None → (gone_back 0 w).pending ≡ None
pending_start w none = by (nat_lt 0 w.level)
  where
    by : (b : Bool) → (if b then record w {
      trail = upto 0 w.trail;
      queued = 0;
      level = 0;
      pending = None;
    } else w).pending ≡ None
    by true = refl
    by false = none

-- the way back to level 0 ends there
pub level_start : (w : WatchState) → (gone_back 0 w).level ≡ 0
level_start w = by w.level refl
  where
    by : (n : ℕ) → w.level ≡ n → (gone_back 0 w).level ≡ 0
    by zero is = rw is refl
    by (suc n) is = rw (lt-ltb 0 w.level (omega (arith, is))) refl

-- of the variables that are not held each has an entry at one of so many places, the oldest
pub record IsPutBack (w : WatchState) (left : ℕ) (order : OrderState) : Type 0 where
  pub vars : order.vars ≡ w.vars
  pub many : length order.held ≡ w.vars
  pub entered : (v : ℕ) → IsVariable order v → is_held order v ≡ false →
      (p : ℕ) × (e : TrailEntry) × IsAt w.trail p e × (p < left) × (variable e.lit ≡ v)

module _ (w : WatchState) where
  pub put_back_none : (left : ℕ) (order : OrderState) → length w.trail ≤ left →
      IsRanked w.vars w.trail order → IsPutBack w left order
  put_back_none left order all ranked = record {
    vars = ranked.vars;
    many = ranked.many;
    entered = λ v known out.
        let at = placed w.trail (positive v) (ranked.valued v known out) in
        let e = place_entry w.trail (positive v) at.0 at.1 in
        let lt = at_within w.trail at.0 e.0 e.1 in
        (at.0, e.0, e.1, omega (arith, all, lt), e.2);
  }

  -- the newest of these is put back
  pub put_back_one : (left now : ℕ) (order : OrderState) (e : TrailEntry) →
      IsAt w.trail now e → left ≡ suc now → 1 ≤ variable e.lit → variable e.lit ≤ w.vars →
      IsPutBack w left order →
      IsPutBack w now (record order { held = set order.held (variable e.lit - 1) true })
  put_back_one left now order e at next some most before = record {
    vars = before.vars;
    many = length-set order.held (variable e.lit - 1) true ∙ before.many;
    entered = λ v known out. elim (cases_eq v (variable e.lit)) [
      | inl same ↦ absurd (both_ways (get_or (set order.held (variable e.lit - 1) true) (v - 1)
          false) out (holds v same))
      | inr other ↦
          let old = before.entered v (record { first = known.first; last = known.last })
          (sym (get_or-set_other order.held (variable e.lit - 1) (v - 1) true false
          (omega (arith, other, some, known.first))) ∙ out) in
          let off : old.0 ≢ now = λ here. other (sym old.4
          ∙ ap (λ (x : TrailEntry). variable x.lit) (at_one w.trail now old.1 e
          (subst (λ (n : ℕ). IsAt w.trail n old.1) here old.2) at)) in
          (old.0, old.1, old.2, omega (arith, old.3, next, off), old.4)
    ];
  }
    where
      holds : (v : ℕ) → v ≡ variable e.lit →
          get_or (set order.held (variable e.lit - 1) true) (v - 1) false ≡ true
      holds v same =
          subst (λ (n : ℕ). get_or (set order.held (variable e.lit - 1) true) (n - 1) false ≡ true)
          (sym same)
          (get_or-set_same order.held (variable e.lit - 1) true false
          (omega (arith, before.many, some, most)))

  pub put_back_all : (j left : ℕ) (order : OrderState) → HasLevels w.clauses w.level w.trail →
      (left ≡ 0) ⊎ ((p : ℕ) × (f : TrailEntry) × IsAt w.trail p f × (left ≡ suc p)
      × (f.level ≤ j)) →
      IsPutBack w left order → IsRanked w.vars (gone_back j w).trail order
  put_back_all j left order levels low back = record {
    vars = back.vars;
    many = back.many;
    valued = λ v known out.
        let at = back.entered v known out in
        subst (λ (n : ℕ). value_in (gone_back j w).trail (positive n) ≢ None) at.4
        (value_back j w at.1 (at_contains w.trail at.0 at.1 at.2) (elim low [
          | inl none ↦ absurd (omega (arith, none, at.3))
          | inr newest ↦
              let rise = level_rises w.clauses w.level w.trail at.0 newest.0 at.1 newest.1 levels
              (omega (arith, at.3, newest.3)) at.2 newest.2 in
              omega (arith, rise, newest.4)
        ]));
  }
