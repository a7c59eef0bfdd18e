-- How a search lies, with a clause attached or laid aside, behind decisions, and with one more
-- learned clause.
use Rattle.std.specs.Prelude.{if◌then◌else◌, nat_lt, IsPermutation}
use Rattle.std.proofs.Common.{inl, inr, ◌⊎◌, ◌≡◌, ◌<◌, ◌≤◌, ◌+◌, ◌==◌, ℕ, suc, Bool, true, false, cond, List, [], ◌∷◌, ◌++◌, length, reverse, Option, None, Some, slice_get, All, refl, sym, ap, ◌∙◌, subst, arith}
use Rattle.std.proofs.lemmas.Bool.{cases_eq, ne_eqb}
use Rattle.std.proofs.lemmas.List.{length-reverse, reverse-append}
use Rattle.std.proofs.lemmas.List.Elements.{All-cons, All-head, All-nil, All-tail}
use Rattle.std.proofs.lemmas.Option.{slice_get_within}
use Rattle.list_laws.proofs.Places.{get-cases, some_is}
use Rattle.sat_clause.specs.declared.literal.Lit.{Lit}
use Rattle.sat_clause.specs.Learned.{IsSimple, SameLiterals}
use Rattle.sat_clause.specs.Literal.{Clause, IsWithin, is_among}
use Rattle.sat_clause.specs.Live.{Live, clause_at, put}
use Rattle.sat_clause.specs.Trail.{IsClosed}
use Rattle.sat_arena.specs.declared.clause_ref.ClauseRef.{ClauseRef}
use Rattle.sat_order.specs.Order.{OrderState}
use Rattle.sat_watch.specs.declared.entry.TrailEntry.{TrailEntry}
use Rattle.sat_watch.specs.Levels.{upto}
use Rattle.sat_watch.specs.Trail.{AreWithin, IsOnce}
use Rattle.sat_watch.specs.Watches.{Attached, HasLevels, IsPropagatedAt, IsPropagatedState, WatchState, gone_back, id_at, is_attached, words_in}
use Rattle.sat_core.specs.ClauseList.{ClauseListState}
use Rattle.sat_core.specs.Deciding.{AreValuesOf, GoesOn}
use Rattle.sat_core.specs.Kept.{AreAmong, AreBelow, HasOnce, SameLive}
use Rattle.sat_core.specs.Levels.{AreLevels, ArePropagated, Assigned, IsPropagatedTrail, level_of, lits_of, made_false, up_to}
use Rattle.sat_core.specs.Marks.{IsReady, MarkState}
use Rattle.sat_core.specs.Ranking.{IsRanked, SameHeld}
use Rattle.sat_core.specs.SearchStore.{AreTaken, AreTrue, IsKeeping, IsLeveled, IsSearchStore, IsSearching, Learns, SameKept, assigned, assigned_in, live_of, search_value}
use Rattle.sat_core.specs.Start.{IsTaken}
use Rattle.sat_core.specs.Stands.{SearchValue}
use Rattle.sat_core.proofs.AttachedLaws.{added_attached, added_id, keeping_added, last_is, new_place, same_permuted, simple_permuted}
use Rattle.sat_core.proofs.KeptLaws.{none_next, put_below}
use Rattle.sat_core.proofs.LevelLaws.{level_back, levels_back}
use Rattle.sat_core.proofs.ModelLemmas.{quiet_is_true}
use Rattle.sat_core.proofs.RankingLaws.{ranked_held}
use Rattle.sat_core.proofs.SameLaws.{same_back, same_itself, same_then}
use Rattle.sat_core.proofs.WatchLaws.{among_same, caused_here, falses_in, keeping_same, lits_in, same_among, propagated_here, propagated_in, single_found, up_to_in, value_added, value_again, value_found, value_origin}

-- IDS

-- an attached clause has an id below the next
attached_below : {vars : ℕ} {singles : Live} {ks : List Attached} (id : ℕ) (c : ClauseRef)
    → IsKeeping vars singles ks → AreBelow id (singles ++ live_of ks) →
    is_attached ks c ≡ true → id_at ks c < id
attached_below {ks} id c keeps below is =
    let x = value_found keeps c is in (below (id_at ks c) x.0 x.1).1

pub below_alike : (id : ℕ) (live now : Live) → SameLive live now → AreBelow id live
    → AreBelow id now
below_alike id live now same below n c at = below n c (same n ∙ at)

below_among : (id : ℕ) (live now : Live) → AreAmong now live → AreBelow id live → AreBelow id now
below_among id live now among below n c at = let x = among n c at in below n x.0 x.1

-- the clauses have no variable twice
pub store_once : {i a t : ℕ} {s : ClauseListState} {w : WatchState} → IsSearchStore i a t s w
    → (id : ℕ) (x : Clause) →
    clause_at (s.clauses ++ live_of w.clauses) id ≡ Some x → HasOnce x
store_once store id x at =
    elim (value_origin store.keeps id x at) [
      | inl single ↦ store.once id x single
      | inr from ↦ subst HasOnce from.3 (store.keeps.simple from.0 from.1).once
    ]

-- at the start of a trail the level is 0
pub level_zero : (w : WatchState) → IsLeveled w → assigned_in w.clauses w.trail ≡ [] → w.level ≡ 0
level_zero w leveled none = leveled.current ∙ ap level_of none

-- a clause that is attached, under the next id
module _ {i a t id : ℕ} {s : ClauseListState} {w : WatchState} {lits : Clause} (order : Clause)
    (c : ClauseRef) (same : IsPermutation lits order) (behind : c.word ≡ words_in w.clauses)
    (store : IsSearchStore i a t s w) (next : id ≡ suc (i + a)) (simple : IsSimple w.vars lits)
  where
    abbrev entry : Attached
    entry = record { place = c; id = id; lits = order }

    no_single : clause_at (s.clauses ++ live_of w.clauses) id ≡ None
    no_single = rw next (none_next (suc (i + a)) (s.clauses ++ live_of w.clauses) store.below)

    pub attached_alike : SameLive (put (s.clauses ++ live_of w.clauses) id order)
        (s.clauses ++ live_of (w.clauses ++ entry ∷ []))
    attached_alike = value_added s.clauses w.clauses entry no_single

    attached_keeps : IsKeeping w.vars s.clauses (w.clauses ++ entry ∷ [])
    attached_keeps =
        keeping_added w.vars s.clauses w.clauses entry store.keeps behind
        (simple_permuted w.vars lits order same simple)
        (λ alone d d_is one.
        let low = attached_below (suc (i + a)) d store.keeps store.below d_is in
        omega (arith, low, one, next))
        (λ x at.
        let bad : None ≡ Some x = sym no_single ∙ single_found s.clauses w.clauses id x at in cc)

    attached_below_next : AreBelow (suc (suc (i + a))) (s.clauses ++ live_of (w.clauses ++ entry
        ∷ []))
    attached_below_next =
        below_alike (suc (suc (i + a))) (put (s.clauses ++ live_of w.clauses) id order)
        (s.clauses ++ live_of (w.clauses ++ entry ∷ [])) attached_alike
        (rw next (put_below (suc (i + a)) (s.clauses ++ live_of w.clauses) order
        (omega arith) store.below))

    attached_taken : AreTaken t s.clauses (w.clauses ++ entry ∷ [])
    attached_taken k n x lt at =
        let d = store.taken_are k n x lt at in
        (d.0, added_attached w.clauses entry d.0 d.1, added_id w.clauses entry d.0 d.1 ∙ d.2)

    -- the store of any state with these clauses
    pub store_attached : (after : WatchState) → i + suc a ≤ 4294967295 →
        after.clauses ≡ w.clauses ++ entry ∷ [] → after.vars ≡ w.vars →
        (t ≡ length s.clauses) ⊎ (after.level ≡ 0) → IsLeveled after → after.pending ≡ None
        → IsSearchStore i (suc a) t s after
    store_attached after few clauses vars waiting leveled pending = record {
      few_ids = few;
      few = omega (arith, store.few);
      few_vars = rw vars store.few_vars;
      same_vars = store.same_vars ∙ sym vars;
      below = rw clauses (subst (λ (n : ℕ). AreBelow n (s.clauses ++ live_of (w.clauses ++ entry
          ∷ []))) (omega arith) attached_below_next);
      few_taken = store.few_taken;
      once = store.once;
      keeps = rw (clauses, vars) attached_keeps;
      taken_are = rw clauses attached_taken;
      waiting = waiting;
      leveled = leveled;
      none_pending = pending;
    }

-- A CLAUSE IS LAID ASIDE

module _ {i a t id : ℕ} {s : ClauseListState} {w : WatchState} (lits : Clause)
    (store : IsSearchStore i a t s w) (next : id ≡ suc (i + a)) (once : HasOnce lits) where
  abbrev pub aside : ClauseListState
  aside = record s { clauses = put s.clauses id lits }

  pub none_aside : clause_at s.clauses id ≡ None
  none_aside = by (clause_at s.clauses id) refl
    where
      by : (o : Option Clause) → clause_at s.clauses id ≡ o → o ≡ None
      by None is = refl
      by (Some x) is =
          let bad : None ≡ Some x =
          sym (none_next (suc (i + a)) (s.clauses ++ live_of w.clauses) store.below)
          ∙ ap (clause_at (s.clauses ++ live_of w.clauses)) (sym next)
          ∙ single_found s.clauses w.clauses id x is in cc

  other : (c : ClauseRef) → is_attached w.clauses c ≡ true →
      clause_at (put s.clauses id lits) (id_at w.clauses c)
      ≡ clause_at s.clauses (id_at w.clauses c)
  other c is =
      let low = attached_below (suc (i + a)) c store.keeps store.below is in
      rw (ne_eqb (id_at w.clauses c) id (omega (arith, low, next))) refl

  aside_once : (n : ℕ) (x : Clause) (b : Bool) → cond b (Some lits) (clause_at s.clauses n)
      ≡ Some x → HasOnce x
  aside_once n x true at = let one : lits ≡ x = cc in subst HasOnce one once
  aside_once n x false at = store.once n x at

  aside_taken : AreTaken t (put s.clauses id lits) w.clauses
  aside_taken k n x lt at =
      let there = subst (λ (entries : Live). slice_get entries k ≡ Some (n, x))
      (reverse-append ((id, lits) ∷ []) s.clauses) at in
      elim (get-cases (reverse s.clauses) (id, lits) (n, x) k there) [
        | inl last ↦ absurd (omega
            (arith, last.0, length-reverse s.clauses, lt, store.few_taken))
        | inr earlier ↦ store.taken_are k n x lt earlier
      ]

  aside_below : AreBelow (suc (i + suc a)) (put (s.clauses ++ live_of w.clauses) id lits)
  aside_below =
      let up : suc (suc (i + a)) ≡ suc (i + suc a) = omega arith in
      let here : AreBelow (suc (suc (i + a))) (put (s.clauses ++ live_of w.clauses) id lits) =
      rw next (put_below (suc (i + a)) (s.clauses ++ live_of w.clauses) lits (omega arith)
      store.below) in
      subst (λ (n : ℕ). AreBelow n (put (s.clauses ++ live_of w.clauses) id lits)) up here

  pub store_aside : i + suc a ≤ 4294967295 → w.level ≡ 0 → IsSearchStore i (suc a) t aside w
  store_aside few level = record {
    few_ids = few;
    few = omega (arith, store.few);
    few_vars = store.few_vars;
    same_vars = store.same_vars;
    below = aside_below;
    few_taken = omega (arith, store.few_taken);
    once = λ n x at. aside_once n x (n == id) at;
    keeps = record {
      stand = store.keeps.stand;
      ids = λ c d c_is d_is alone one.
          store.keeps.ids c d c_is d_is (sym (other c c_is) ∙ alone) one;
      agree = λ c x c_is at. store.keeps.agree c x c_is (sym (other c c_is) ∙ at);
      simple = store.keeps.simple;
    };
    taken_are = aside_taken;
    waiting = inr level;
    leveled = store.leveled;
    none_pending = store.none_pending;
  }

  pub learns_aside : Learns (search_value i a s w) (search_value i (suc a) aside w) lits
  learns_aside = record {
    vars = refl;
    inputs = refl;
    added = refl;
    order = lits;
    same = same_itself lits;
    once = once;
    clauses = λ n. ap (λ (j : ℕ). clause_at (put (s.clauses ++ live_of w.clauses) j lits) n)
        (sym next);
  }

-- A CLAUSE THAT WAS LAID ASIDE IS ATTACHED

-- by other watches of the same clauses
pub kept_by : {i a t : ℕ} {s : ClauseListState} {w : WatchState} (now : WatchState)
    → IsSearchStore i a t s w → now.vars ≡ w.vars → now.clauses ≡ w.clauses
    → SameKept (search_value i a s w) (search_value i a s now)
kept_by {s} now store vars clauses = record {
  vars = vars;
  inputs = refl;
  added = refl;
  among = λ n x at. (x, rw clauses at, same_itself x);
  back = λ n x at. (x, rw clauses at at, same_itself x);
  once = λ n x at. store_once store n x (rw clauses at at);
}

pub kept_refl : {i a t : ℕ} {s : ClauseListState} {w : WatchState} → IsSearchStore i a t s w
    → SameKept (search_value i a s w) (search_value i a s w)
kept_refl {w} store = kept_by w store refl refl

pub kept_then : {old mid new : SearchValue} → SameKept old mid → SameKept mid new
    → SameKept old new
kept_then first second = record {
  vars = second.vars ∙ first.vars;
  inputs = second.inputs ∙ first.inputs;
  added = second.added ∙ first.added;
  among = λ id x at. let y = first.among id x at in let z = second.among id y.0 y.1 in
      (z.0, z.1, same_then x y.0 z.0 y.2 z.2);
  back = λ id x at. let y = second.back id x at in let z = first.back id y.0 y.1 in
      (z.0, z.1, same_then x y.0 z.0 y.2 z.2);
  once = second.once;
}

module _ {i a t id : ℕ} {s : ClauseListState} {w now : WatchState} {lits : Clause}
    (taken : IsTaken w now lits id) (store : IsSearchStore i a t s w) (at : slice_get
    (reverse s.clauses) t ≡ Some (id, lits)) (is : clause_at s.clauses id
    ≡ Some lits) (simple : IsSimple w.vars lits) where
  abbrev taken_entry : Attached
  taken_entry = record { place = taken.place; id = id; lits = taken.order }

  taken_alike : SameLive (s.clauses ++ live_of w.clauses) (s.clauses ++ live_of now.clauses)
  taken_alike n =
      subst (λ (ks : List Attached). clause_at (s.clauses ++ live_of w.clauses) n
      ≡ clause_at (s.clauses ++ live_of ks) n) (sym taken.clauses)
      (value_again s.clauses w.clauses taken_entry lits is n)

  taken_keeps : IsKeeping w.vars s.clauses (w.clauses ++ taken_entry ∷ [])
  taken_keeps =
      keeping_added w.vars s.clauses w.clauses taken_entry store.keeps taken.behind
      (simple_permuted w.vars lits taken.order taken.same simple)
      (λ none c c_is same. let bad : Some lits ≡ None = sym is ∙ none in cc)
      (λ x x_at.
      let one : lits ≡ x = some_is (sym is ∙ x_at) in
      subst (λ (y : Clause). SameLiterals y taken.order) one
      (same_permuted lits taken.order taken.same))

  taken_all : AreTaken (suc t) s.clauses (w.clauses ++ taken_entry ∷ [])
  taken_all k n x lt k_at =
      elim (cases_eq k t) [
        | inl same ↦
            let last = last_is w.clauses taken_entry
            (new_place w.clauses taken.place store.keeps.stand taken.behind) in
            let here : slice_get (reverse s.clauses) t ≡ Some (n, x) =
            subst (λ (j : ℕ). slice_get (reverse s.clauses) j ≡ Some (n, x)) same k_at in
            let one : id ≡ n = ap (λ (entry : ℕ × Clause). entry.0) (some_is (sym at ∙ here)) in
            (taken.place, last.attached, last.id ∙ one)
        | inr other ↦
            let d = store.taken_are k n x (omega (arith, lt, other)) k_at in (
              d.0,
              added_attached w.clauses taken_entry d.0 d.1,
              added_id w.clauses taken_entry d.0
                  d.1 ∙ d.2,
            )
      ]

  pub store_taken : IsSearchStore i a (suc t) s now
  store_taken = record {
    few_ids = store.few_ids;
    few = store.few;
    few_vars = rw taken.vars store.few_vars;
    same_vars = store.same_vars ∙ sym taken.vars;
    below = below_alike (suc (i + a)) (s.clauses ++ live_of w.clauses)
        (s.clauses ++ live_of now.clauses) taken_alike store.below;
    few_taken = let within = slice_get_within (reverse s.clauses) t (id, lits) at in
        omega (arith, within, length-reverse s.clauses);
    once = store.once;
    keeps = rw (taken.clauses, taken.vars) taken_keeps;
    taken_are = rw taken.clauses taken_all;
    waiting = inr taken.level;
    leveled = taken.leveled;
    none_pending = taken.pending;
  }

  pub kept_taken : SameKept (search_value i a s w) (search_value i a s now)
  kept_taken = record {
    vars = taken.vars;
    inputs = refl;
    added = refl;
    among = λ n x x_at. (x, sym (taken_alike n) ∙ x_at, same_itself x);
    back = λ n x x_at. (x, taken_alike n ∙ x_at, same_itself x);
    once = λ n x x_at. store_once store n x (taken_alike n ∙ x_at);
  }

-- A CLAUSE OF ANOTHER SEARCH IS ATTACHED

module _ {i a t id : ℕ} {s : ClauseListState} {w now : WatchState} {lits : Clause}
    (taken : IsTaken w now lits id) (store : IsSearchStore i a t s w) (next : id ≡ suc (i + a))
    (simple : IsSimple w.vars lits) where
  pub store_foreign : i + suc a ≤ 4294967295 → IsSearchStore i (suc a) t s now
  store_foreign few =
      store_attached taken.order taken.place taken.same taken.behind store next simple now few
      taken.clauses taken.vars (inr taken.level) taken.leveled taken.pending

  pub learns_foreign : Learns (search_value i a s w) (search_value i (suc a) s now) lits
  learns_foreign = record {
    vars = taken.vars;
    inputs = refl;
    added = refl;
    order = taken.order;
    same = same_back lits taken.order (same_permuted lits taken.order taken.same);
    once = (simple_permuted w.vars lits taken.order taken.same simple).once;
    clauses = λ n.
        ap (λ (j : ℕ). clause_at (put (s.clauses ++ live_of w.clauses) j taken.order) n) (sym next)
        ∙ attached_alike taken.order taken.place taken.same taken.behind store next simple n
        ∙ ap (λ (ks : List Attached). clause_at (s.clauses ++ live_of ks) n) (sym taken.clauses);
  }

-- the clause of a position, where its literals are simple
pub single_simple : {i a t : ℕ} {s : ClauseListState} {w : WatchState} {lits : Clause} (id : ℕ)
    → IsSearchStore i a t s w → clause_at s.clauses id ≡ Some lits →
    All (IsWithin s.vars) lits → IsSimple w.vars lits
single_simple {lits} id store is within = record {
  within = subst (λ (n : ℕ). All (IsWithin n) lits) store.same_vars within;
  once = store.once id lits is;
}

-- BEHIND DECISIONS

module _ {i a t : ℕ} {s : ClauseListState} {w now : WatchState} (store : IsSearchStore i a t s w)
    (goes : GoesOn w now) (waiting : (t ≡ length s.clauses) ⊎ (now.level ≡ 0)) where
  pub store_decided : IsSearchStore i a t s now
  store_decided = record {
    few_ids = store.few_ids;
    few = store.few;
    few_vars = rw goes.vars store.few_vars;
    same_vars = store.same_vars ∙ sym goes.vars;
    below = below_among (suc (i + a)) (s.clauses ++ live_of w.clauses)
        (s.clauses ++ live_of now.clauses)
        (same_among w.vars s.clauses w.clauses now.clauses goes.clauses store.keeps) store.below;
    few_taken = store.few_taken;
    once = store.once;
    keeps = rw goes.vars (keeping_same w.vars s.clauses w.clauses now.clauses goes.clauses
        store.keeps);
    taken_are = λ k n x lt at.
        let d = store.taken_are k n x lt at in
        (d.0, goes.clauses.attached d.0 ∙ d.1, goes.clauses.ids d.0 ∙ d.2);
    waiting = waiting;
    leveled = goes.leveled store.leveled;
    none_pending = goes.pending;
  }

  pub kept_decided : SameKept (search_value i a s w) (search_value i a s now)
  kept_decided = record {
    vars = goes.vars;
    inputs = refl;
    added = refl;
    among = among_same w.vars s.clauses w.clauses now.clauses goes.clauses store.keeps;
    back = same_among w.vars s.clauses w.clauses now.clauses goes.clauses store.keeps;
    once = λ n x at. store_once store_decided n x at;
  }

  pub propagated_now : t ≡ length s.clauses → IsPropagatedAt now now.level
      → ArePropagated (s.clauses ++ live_of now.clauses) (made_false
      (assigned_in now.clauses now.trail))
  propagated_now all propagated = propagated_here s.clauses t now store_decided.keeps
      store_decided.taken_are all store_decided.leveled propagated

-- AT A LOWER LEVEL

module _ {i a t : ℕ} {s : ClauseListState} {w : WatchState} (j : ℕ)
    (store : IsSearchStore i a t s w) (low : j ≤ w.level) where
  abbrev lower : WatchState
  lower = record w { trail = upto j w.trail; queued = 0; level = j; pending = None }

  lower_trail : up_to j (assigned_in w.clauses w.trail) ≡ assigned_in w.clauses lower.trail
  lower_trail = up_to_in w.clauses j w.trail

  pub lower_leveled : IsLeveled lower
  lower_leveled = record {
    levels = subst AreLevels lower_trail (levels_back j (assigned_in w.clauses w.trail)
        store.leveled.levels);
    current =
        sym (level_back j (assigned_in w.clauses w.trail) store.leveled.levels
        (omega (arith, low, store.leveled.current)))
        ∙ ap level_of lower_trail;
  }

  pub store_lower : (t ≡ length s.clauses) ⊎ (j ≡ 0) → IsSearchStore i a t s lower
  store_lower waiting = record {
    few_ids = store.few_ids;
    few = store.few;
    few_vars = store.few_vars;
    same_vars = store.same_vars;
    below = store.below;
    few_taken = store.few_taken;
    once = store.once;
    keeps = store.keeps;
    taken_are = store.taken_are;
    waiting = waiting;
    leveled = lower_leveled;
    none_pending = refl;
  }

  pub kept_lower : SameKept (search_value i a s w) (search_value i a s lower)
  kept_lower = kept_by lower store refl refl

-- AT LEVEL 0 AGAIN

module _ {i a t : ℕ} {s : ClauseListState} {w : WatchState} (store : IsSearchStore i a t s w) where
  pub store_begun : IsSearchStore i a t s (gone_back 0 w)
  store_begun = by (nat_lt 0 w.level)
    where
      by : (b : Bool) → IsSearchStore i a t s
          (if b then record w {
            trail = upto 0 w.trail;
            queued = 0;
            level = 0;
            pending = None;
          } else w)
      by true = store_lower 0 store (omega arith) (inr refl)
      by false = store

  pub kept_begun : SameKept (search_value i a s w) (search_value i a s (gone_back 0 w))
  kept_begun = by (nat_lt 0 w.level)
    where
      by : (b : Bool) → SameKept (search_value i a s w) (search_value i a s
          (if b then record w {
            trail = upto 0 w.trail;
            queued = 0;
            level = 0;
            pending = None;
          } else w))
      by true = kept_lower 0 store (omega arith)
      by false = kept_refl store

-- and the clauses have been propagated there
module _ {i a t : ℕ} {s : ClauseListState} {w now : WatchState} (store : IsSearchStore i a t s w)
    (goes : GoesOn (gone_back 0 w) now) (level : now.level ≡ 0) where
  pub store_propagated : IsSearchStore i a t s now
  store_propagated = store_decided (store_begun store) goes (inr level)

  pub kept_propagated : SameKept (search_value i a s w) (search_value i a s now)
  kept_propagated =
      kept_then (kept_begun store) (kept_decided (store_begun store) goes (inr level))

-- WHAT IS LEARNED

-- a trail by ids is one of propagated levels
pub propagated_trail : {i a t : ℕ} {s : ClauseListState} {w : WatchState} → IsSearchStore i a t s w
    → IsOnce w.trail → AreWithin w.vars w.trail →
    HasLevels w.clauses w.level w.trail → IsPropagatedState w
    → IsPropagatedTrail (s.clauses ++ live_of w.clauses) w.vars (assigned_in w.clauses w.trail)
propagated_trail {t} {s} {w} store once within levels propagated = record {
  once = rw (lits_in w.clauses w.trail) once;
  within = all_in w.trail within;
  caused = caused_here w.vars w.level s.clauses w.clauses w.trail store.keeps levels once;
  levels = store.leveled.levels;
  propagated = λ j below. elim store.waiting [
    | inl all ↦ propagated_in s.clauses t w store.keeps store.taken_are all j
        (propagated.below j (omega (arith, below, store.leveled.current)))
    | inr low ↦ absurd (omega (arith, below, store.leveled.current, low))
  ];
}
  where
    all_in : (trail : List TrailEntry) → AreWithin w.vars trail
        → All (λ (e : Assigned). IsWithin w.vars e.lit) (assigned_in w.clauses trail)
    all_in [] all = All-nil (λ (e : Assigned). IsWithin w.vars e.lit)
    all_in (e ∷ older) all =
        let P = λ (e : TrailEntry). IsWithin w.vars e.lit in
        All-cons (λ (e : Assigned). IsWithin w.vars e.lit) (assigned w.clauses e)
        (assigned_in w.clauses older) (All-head P e older all) (all_in older
        (All-tail P e older all))

-- values that make true what is not false make the clauses true where they are propagated
pub true_values : (i a : ℕ) (s : ClauseListState) (w : WatchState) (values : List Bool)
    → length values ≡ w.vars → AreValuesOf w.trail w.vars values →
    ArePropagated (s.clauses ++ live_of w.clauses) (made_false (assigned_in w.clauses w.trail))
    → IsClosed w.vars (lits_of (assigned_in w.clauses w.trail)) →
    AreTrue (search_value i a s w) values
true_values i a s w values many truth propagated closed = record {
  many = many;
  each = λ id c at within.
      quiet_is_true w.vars values (made_false (assigned_in w.clauses w.trail)) c
      (λ l inside not_false. truth (subst (IsClosed w.vars)
      (lits_in w.clauses w.trail) closed) l inside
      (subst (λ (set : List Lit). is_among set l ≡ false) (falses_in w.clauses w.trail) not_false))
      (subst (λ (n : ℕ). All (IsWithin n) c) many within) (propagated id c at);
}

-- WITH THE MARKS AND THE VARIABLES

-- it lies so with other watches over as many variables
pub searching_by : {i a t b u : ℕ} {s : ClauseListState} {w now : WatchState} {marks : MarkState}
    {before after : OrderState} → IsSearching i a t s w marks before → IsSearchStore i b u s now →
    IsRanked now.vars now.trail after → IsSearching i b u s now marks after
searching_by {marks} is store ranked = record {
  store = store;
  ready = subst (λ (n : ℕ). IsReady n marks) (sym is.store.same_vars ∙ store.same_vars) is.ready;
  ranked = ranked;
}

-- and with other marks, where the same variables are held
pub searching_held : {i a t : ℕ} {s : ClauseListState} {w : WatchState} {old new : MarkState}
    {before after : OrderState} → IsSearching i a t s w old before → IsReady w.vars new →
    SameHeld before after → IsSearching i a t s w new after
searching_held is ready held = record {
  store = is.store;
  ready = ready;
  ranked = ranked_held held is.ranked;
}
