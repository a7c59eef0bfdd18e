-- What the tests attach, and what it leaves.
use Rattle.std.proofs.Common.{◌≡◌, ◌≢◌, ℕ, zero, suc, pos, negsuc, ◌<◌, ◌≤◌, true, inl, inr, List, [], ◌∷◌, ◌++◌, length, map, get_or, slice_index_or, Result, Ok, Err, Option, Some, None, refl, sym, ap, ◌∙◌, subst, arith}
use Rattle.std.specs.Prelude.{IfOk, IfSome, OnErr, OnOk}
use Rattle.std.specs.declared.alloc.AllocError.{AllocError}
use Rattle.std.proofs.lemmas.List.Sorted.{Contains-permutation, IsPermutation-sym}
use Rattle.sat_clause.specs.declared.literal.Lit.{Lit}
use Rattle.sat_clause.specs.Learned.{IsSimple}
use Rattle.sat_clause.specs.Literal.{Clause, lit, variable}
use Rattle.sat_arena.specs.declared.clause_ref.ClauseRef.{ClauseRef}
use Rattle.sat_arena.proofs.StoreLaws.{same_or_other}
use Rattle.sat_watch.specs.declared.entry.TrailEntry.{TrailEntry}
use Rattle.sat_watch.specs.Chains.{lit_at}
use Rattle.sat_watch.specs.Delete.{entry_moved, deleted, moved_to, without}
use Rattle.search_tests.specs.WatchStates.{IsAtStart, IsPendingFor, first_decided}
use Rattle.sat_watch.specs.Watched.{IsReason, is_false}
use Rattle.sat_watch.specs.Watches.{Attached, Attaches, HasOneOpen, HasTwoFree, IsOnlyOne, WatchState, first_attached, is_attached, lits_at}
use Rattle.sat_watch.proofs.ChoiceLemmas.{at_contains, other_at}
use Rattle.sat_core.proofs.DeletableLaws.{first_is}

-- where nothing is true, two literals are not false
pub free_at_start : (n : ℕ) (entries : List TrailEntry) (lits : Clause) → entries ≡ [] →
    IsSimple n lits → 2 ≤ length lits → HasTwoFree entries lits
free_at_start n entries lits none simple two = (
  lit_at lits 0,
  lit_at lits 1,
  at_contains lits 0 (omega arith),
  at_contains lits 1 (omega arith),
  λ e. other_at n lits 0 1 simple (omega arith) (omega arith) (λ same. omega (arith, same)) (sym e),
  rw none refl,
  rw none refl,
)

last_attached : (ks : List Attached) (k : Attached) → is_attached (ks ++ k ∷ []) k.place ≡ true
last_attached [] k = elim (same_or_other k.place k.place) [
  | inl same ↦ rw same.0 refl
  | inr other ↦ absurd (other.1 refl)
]
last_attached (x ∷ ks) k = elim (same_or_other x.place k.place) [
  | inl same ↦ rw same.0 refl
  | inr other ↦ rw other.0 (last_attached ks k)
]

-- and nothing is true after such a clause was attached
pub still_at_start : (n : ℕ) (old new : WatchState) (lits : Clause) (id : ℕ)
    (result : Result ClauseRef AllocError) → IsAtStart n old → HasTwoFree old.trail lits →
    IfOk result (λ c. Attaches old new lits id c) → OnErr result (new ≡ old) → IsAtStart n new
still_at_start n old new lits id (Ok c) start free ok err =
    let is = ok.is in
    record {
      vars = ap (λ (s : WatchState). s.vars) is ∙ start.vars;
      trail = ap (λ (s : WatchState). s.trail) is ∙ start.trail;
      queued = ap (λ (s : WatchState). s.queued) is ∙ start.queued;
      level = ap (λ (s : WatchState). s.level) is ∙ start.level;
      pending = ok.not_pending (inl free);
    }
still_at_start n old new lits id (Err e) start free ok err = subst (IsAtStart n) (sym err) start

pub is_attached_now : (old new : WatchState) (lits : Clause) (id : ℕ)
    (result : Result ClauseRef AllocError) → IfOk result (λ c. Attaches old new lits id c) →
    IfOk result (λ c. is_attached new.clauses c ≡ true)
is_attached_now old new lits id (Ok c) ok =
    ap (λ (s : WatchState). is_attached s.clauses c) ok.is ∙ last_attached old.clauses
    (record { place = c; id = id; lits = ok.order })
is_attached_now old new lits id (Err e) ok = ok

front_attached : (ks : List Attached) (k : Attached) (c : ClauseRef) → is_attached ks c ≡ true →
    is_attached (ks ++ k ∷ []) c ≡ true
front_attached [] k c is = cc
front_attached (x ∷ ks) k c is = elim (same_or_other x.place c) [
  | inl same ↦ rw same.0 refl
  | inr other ↦ rw other.0 (front_attached ks k c (rw other.0 at is))
]

pub stays_attached : (old new : WatchState) (lits : Clause) (id : ℕ)
    (result : Result ClauseRef AllocError) → IfOk result (λ c. Attaches old new lits id c) →
    OnErr result (new ≡ old) → (d : ClauseRef) → is_attached old.clauses d ≡ true →
    is_attached new.clauses d ≡ true
stays_attached old new lits id (Ok c) ok err d is =
    ap (λ (s : WatchState). is_attached s.clauses d) ok.is ∙ front_attached old.clauses
    (record { place = c; id = id; lits = ok.order }) d is
stays_attached old new lits id (Err e) ok err d is =
    ap (λ (s : WatchState). is_attached s.clauses d) err ∙ is

-- the clause that stands first is one of them
pub first_stands : (ks : List Attached) (found : Option ClauseRef) → found ≡ first_attached ks →
    IfSome found (λ c. is_attached ks c ≡ true)
first_stands ks (Some c) is = first_is ks c (sym is)
first_stands ks None is = tt

-- nothing is true after clauses were deleted
pub deletes_at_start : (n : ℕ) (old new : WatchState) (refs : List ClauseRef)
    (result : Result (Unit {0}) AllocError) → IsAtStart n old →
    OnOk result (new ≡ deleted refs old) → OnErr result (new ≡ old) → IsAtStart n new
deletes_at_start n old new refs (Ok u) start ok err = record {
  vars = ap (λ (s : WatchState). s.vars) ok ∙ start.vars;
  trail =
      ap (λ (s : WatchState). s.trail) ok ∙
      ap (map (entry_moved (moved_to 0 (without refs old.clauses)))) start.trail;
  queued = ap (λ (s : WatchState). s.queued) ok ∙ start.queued;
  level = ap (λ (s : WatchState). s.level) ok ∙ start.level;
  pending = ap (λ (s : WatchState). s.pending) ok ∙ start.pending;
}
deletes_at_start n old new refs (Err e) start ok err = subst (IsAtStart n) (sym err) start

abbrev pub implication : Clause
implication = lit (negsuc 0) ∷ lit (pos 2) ∷ []

-- the clause that is attached where the first of two variables was decided
only_second : IsOnlyOne first_decided.trail implication (lit (pos 2))
only_second = ((1, omega arith, refl), refl, λ m has ne. by_place m has.0 has.1 has.2 ne) where
  by_place : (m : Lit) (k : ℕ) → k < 2 → slice_index_or implication k m ≡ m → m ≢ lit (pos 2) →
      is_false first_decided.trail m ≡ true
  by_place m zero lt e ne = subst (λ (x : Lit). is_false first_decided.trail x ≡ true) e refl
  by_place m (suc zero) lt e ne = absurd (ne (sym e))
  by_place m (suc (suc k)) lt e ne = absurd (omega arith)

pub one_is_open : (s : WatchState) → s ≡ first_decided → HasOneOpen s.trail s.level implication
one_is_open s is = rw is (lit (pos 2), only_second, refl, refl)

pending_now : (old new : WatchState) (id : ℕ) (c : ClauseRef) → old ≡ first_decided →
    Attaches old new implication id c → IsPendingFor (lit (pos 2)) c new
pending_now old new id c is a =
    let same_trail : new.trail ≡ old.trail = ap (λ (s : WatchState). s.trail) a.is in
    let trail : new.trail ≡ first_decided.trail = same_trail ∙ ap (λ (s : WatchState). s.trail) is
    in
    let clauses : new.clauses ≡ record { place = c; id = id; lits = a.order } ∷ [] =
    ap (λ (s : WatchState). s.clauses) a.is ∙
    ap (λ (s : WatchState). s.clauses ++ record { place = c; id = id; lits = a.order } ∷ []) is in
    let found : lits_at new.clauses c ≡ a.order = ap (λ l. lits_at l c) clauses ∙ (elim
    (same_or_other c c) [
      | inl same ↦ rw same.0 refl
      | inr other ↦ absurd (other.1 refl)
    ]) in
    record {
      within = subst (λ n. (1 ≤ 2) × (2 ≤ n)) (sym (ap (λ (s : WatchState). s.vars) a.is ∙ ap (λ (s
          : WatchState). s.vars) is)) (omega arith, omega arith);
      open_yet = rw trail (λ k d lt. by_place k d lt);
      attached = ap (λ l. is_attached l c) clauses ∙ last_attached [] (record {
        place = c;
        id = id;
        lits = a.order;
      });
      reason = subst (λ l. IsReason new.trail l (lit (pos 2))) (sym found) (record {
        has = Contains-permutation implication a.order (lit (pos 2)) a.same (1, omega arith, refl);
        others = λ m has ne. subst (λ t. is_false t m ≡ true) (sym trail)
            (only_second.2 m (Contains-permutation a.order implication m (IsPermutation-sym
            implication a.order a.same) has) ne);
      });
      pending = a.pending (one_is_open old is);
    }
  where
    by_place : (k : ℕ) (d : Lit) → k < 1 → variable (get_or (lit (pos 1) ∷ []) k d) ≢ 2
    by_place zero d lt e = let clash : 1 ≡ 2 = e in omega (arith, clash)
    by_place (suc k) d lt e = omega arith

pub is_pending_now : (old new : WatchState) (id : ℕ) (result : Result ClauseRef AllocError) →
    old ≡ first_decided → IfOk result (λ c. Attaches old new implication id c) →
    IfOk result (λ c. IsPendingFor (lit (pos 2)) c new)
is_pending_now old new id (Ok c) is ok = pending_now old new id c is ok
is_pending_now old new id (Err e) is ok = ok
