-- The clauses as contracts see them, and what one step of propagation leaves of the state.
use Rattle.std.proofs.Common.{◌≡◌, ℕ, zero, suc, pos, ◌+◌, ◌-◌, ◌<◌, ◌≤◌, ◌≢◌, Bool, true, false, List, [], ◌∷◌, ◌++◌, length, map, take, drop, get_or, slice_index_or, Option, None, Some, All, refl, sym, ap, ◌∙◌, subst, arith, inl, inr, length-append, drop-cons, append_assoc}
use Rattle.std.specs.Prelude.{is_some}
use Rattle.std.proofs.lemmas.List.Elements.{All-append, All-cons, All-drop, All-head, All-nil, All-tail, All-take}
use Rattle.std.proofs.lemmas.List.Sorted.{IsPermutation-refl, IsPermutation-trans, length_permutation}
use Rattle.sat_clause.specs.declared.literal.Lit.{Lit}
use Rattle.sat_clause.specs.Literal.{Clause, IsWithin, lit, negation, is_among, variable}
use Rattle.sat_arena.specs.declared.clause_ref.ClauseRef.{ClauseRef}
use Rattle.sat_arena.specs.Store.{ArePlaced, Stored, behind_of, first_ref, is_held, size_of, stored_at}
use Rattle.sat_watch.specs.declared.entry.TrailEntry.{TrailEntry}
use Rattle.sat_watch.specs.Chains.{ChainsState, counted, holders, is_watched, watch_of, watchers}
use Rattle.std.proofs.Math.Seq.{drop-append-add}
use Rattle.sat_watch.specs.Levels.{AreLeveled, IsLeveledBy, IsWatchStore}
use Rattle.sat_watch.specs.Trail.{IsOpen, TrailState, falses}
use Rattle.sat_watch.proofs.FewLemmas.{longer_trail}
use Rattle.sat_watch.proofs.BackLemmas.{propagated_below, propagated_now}
use Rattle.sat_watch.specs.Watched.{AreImplied, AreWhole, Goes, HasCounted, IsReason, LitsGo, OtherIsTrue, is_false}
use Rattle.sat_watch.specs.Watches.{AreInPlace, Attached, attached_behind, first_attached, HasCause, HasLevels, HasVisited, IsPropagatedState, IsWatches, IsWithinVisits, count_of, holder_count, holder_sum, left_queued, taken_between, Propagates, SameClauses, WatchState, attached, id_at, is_attached, lits_at, watch_state, watcher_count, watcher_sum}
use Rattle.sat_arena.proofs.StoreLaws.{same_or_other}
use Rattle.sat_watch.proofs.LevelLemmas.{store_stopped, store_taken}
use Rattle.sat_watch.proofs.StoredLemmas.{behind_at, default_free, head_at, held_behind}
use Rattle.sat_watch.proofs.WatchLemmas.{lit_tells}
use Rattle.sat_clause.proofs.LiteralLaws.{among_here, among_more}

pub attached_held : (ks : List Stored) (c : ClauseRef) →
    is_attached (map attached ks) c ≡ is_held ks c
attached_held [] c = refl
attached_held (k ∷ ks) c = elim (same_or_other k.place c) [
  | inl same ↦ rw same.0 refl
  | inr other ↦ rw other.0 (attached_held ks c)
]

pub attached_lits : (ks : List Stored) (c : ClauseRef) →
    lits_at (map attached ks) c ≡ (stored_at ks c).lits
attached_lits [] c = refl
attached_lits (k ∷ ks) c = elim (same_or_other k.place c) [
  | inl same ↦ rw same.0 refl
  | inr other ↦ rw other.0 (attached_lits ks c)
]

pub attached_id : (ks : List Stored) (c : ClauseRef) →
    id_at (map attached ks) c ≡ (stored_at ks c).id
attached_id [] c = refl
attached_id (k ∷ ks) c = elim (same_or_other k.place c) [
  | inl same ↦ rw same.0 refl
  | inr other ↦ rw other.0 (attached_id ks c)
]

-- which clause stands first, and which ones behind another
pub attached_first : (ks : List Stored) → first_attached (map attached ks) ≡ first_ref ks
attached_first [] = refl
attached_first (k ∷ ks) = refl

pub attached_next : (ks : List Stored) (c : ClauseRef) →
    attached_behind (map attached ks) c ≡ map attached (behind_of ks c)
attached_next [] c = refl
attached_next (k ∷ ks) c = elim (same_or_other k.place c) [
  | inl same ↦ rw same.0 refl
  | inr other ↦ rw other.0 (attached_next ks c)
]

-- the clauses stand one behind the other
pub in_place : (at : ℕ) (ks : List Stored) → ArePlaced at ks → AreInPlace at (map attached ks)
in_place at [] placed = tt
in_place at (k ∷ ks) placed =
    (ap (λ (c : ClauseRef). c.word) placed.0, in_place (at + size_of k) ks placed.1)

length_attached : (ks : List Stored) → length (map attached ks) ≡ length ks
length_attached [] = refl
length_attached (k ∷ ks) = ap suc (length_attached ks)

-- an entry of the trail has a false negation
pub at_false : (entries : List TrailEntry) (p : ℕ) (t : TrailEntry) → p < length entries →
    slice_index_or entries p t ≡ t → is_false entries (negation t.lit) ≡ true
at_false [] p t lt is = absurd (omega arith)
at_false (e ∷ older) zero t lt is =
    subst (λ (x : TrailEntry). is_false (e ∷ older) (negation x.lit) ≡ true) is
    (among_here (falses older) (negation e.lit))
at_false (e ∷ older) (suc p) t lt is =
    among_more (falses older) (negation e.lit) (negation t.lit)
    (at_false older p t (omega arith) is)

added_known : (ks : List Stored) (level : ℕ) (added old : List TrailEntry) →
    AreImplied ks level added old → All (λ e. (e.level ≡ level) × (is_some e.reason ≡ true)) added
added_known ks level [] old are = All-nil (λ e. (e.level ≡ level) × (is_some e.reason ≡ true))
added_known ks level (e ∷ added) old are =
    All-cons (λ e. (e.level ≡ level) × (is_some e.reason ≡ true)) e added
    (are.0.at_level, ap is_some are.0.is) (added_known ks level added old are.1)

count_attached : (p : Clause → Bool) (ks : List Stored) →
    count_of p (map attached ks) ≡ counted (λ k. p k.lits) ks
count_attached p [] = refl
count_attached p (k ∷ ks) = by_test (p k.lits) refl (count_attached p ks) where
  by_test : (b : Bool) → p k.lits ≡ b →
      count_of p (map attached ks) ≡ counted (λ k. p k.lits) ks →
      count_of p (map attached (k ∷ ks)) ≡ counted (λ k. p k.lits) (k ∷ ks)
  by_test true e rest = rw e (ap suc rest)
  by_test false e rest = rw e rest

holders_attached : (l : Lit) (ks : List Stored) → holder_count l (map attached ks) ≡ holders l ks
holders_attached l = count_attached (λ lits. is_among lits l)

watchers_attached : (l : Lit) (ks : List Stored) → watcher_count l (map attached ks) ≡ watchers l ks
watchers_attached l = count_attached (λ lits. is_watched lits l)

pub same_clauses : (base : List TrailEntry) (level : ℕ) (f : Lit) (ks new : List Stored)
    (entries now : List TrailEntry) → ArePlaced 0 new → Goes base level f ks new entries now →
    SameClauses (map attached ks) (map attached new)
same_clauses base level f ks new entries now placed go = record {
  places = λ _. in_place 0 new placed;
  count = length_attached new ∙ (go.count ∙ sym (length_attached ks));
  attached = λ c. attached_held new c ∙ (go.held c ∙ sym (attached_held ks c));
  ids = λ c. attached_id new c ∙ (go.ids c ∙ sym (attached_id ks c));
  lits = λ c. rw (attached_lits ks c, attached_lits new c) (go.lits c).same;
  holders = λ l. holders_attached l new ∙ (go.holders_same l ∙ sym (holders_attached l ks));
}

-- where something is queued and nothing is pending
pub record AtQueue (c : ChainsState) (t : TrailState) (q level : ℕ) (pending : Option ClauseRef) :
    Type 0 where
  pub none : pending ≡ None
  pub some : 1 ≤ q
  pub few : q ≤ length t.entries
  pub store : IsWatchStore c.clauses t.entries q level None

pub at_queue : {c : ChainsState} {t : TrailState} {q level : ℕ} {pending : Option ClauseRef}
    {s : WatchState} → IsWatches c t q level pending → watch_state c t q level pending ≡ s →
    s.pending ≡ None → 1 ≤ s.queued → AtQueue c t q level pending
at_queue h view quiet some =
    let none = ap (λ (x : WatchState). x.pending) view ∙ quiet in
    record {
      none = none;
      some = subst (λ (x : WatchState). 1 ≤ x.queued) (sym view) some;
      few = h.store.few;
      store = subst (IsWatchStore _ _ _ _) none h.store;
    }

-- the entry whose negation is walked is the one that is taken
one_taken : (added old : List TrailEntry) (p : ℕ) (t : TrailEntry) (n m : ℕ) → p < length old →
    slice_index_or old p t ≡ t → n ≡ length added + p → m ≡ 1 →
    take m (drop n (added ++ old)) ≡ t ∷ []
one_taken added old p t n m lt is en em =
    rw (en, em, drop-append-add added old p, drop-cons old p t lt, is) refl

-- one step of propagation: the negation of the oldest queued entry was walked, and n were added
pub record IsStep (c c' : ChainsState) (t t' : TrailState) (q level : ℕ)
    (pending : Option ClauseRef) (f : Lit) (e : TrailEntry) (n : ℕ) : Type 0 where
  pub queue : AtQueue c t q level pending
  pub entry : slice_index_or t.entries (q - 1) e ≡ e
  pub literal : f ≡ negation e.lit
  pub some : 1 ≤ variable f
  pub vars : c'.vars ≡ c.vars
  pub whole : AreWhole c' t'
  pub goes : Goes t.entries level f c.clauses c'.clauses t.entries t'.entries
  pub more : n ≡ length goes.grows.added

module _ {c c' : ChainsState} {t t' : TrailState} {q level : ℕ} {pending : Option ClauseRef}
    {f : Lit} {e : TrailEntry} {n : ℕ} (step : IsStep c c' t t' q level pending f e n) where
  abbrev added : List TrailEntry
  added = step.goes.grows.added

  pub step_propagates : (q' : ℕ) →
      Propagates (watch_state c t q level pending) (watch_state c' t' q' level pending)
  step_propagates q' = record {
    vars = step.vars;
    level = refl;
    pending = step.queue.none;
    clauses =
        same_clauses t.entries level f c.clauses c'.clauses t.entries t'.entries
        step.whole.chained.placed step.goes;
    added = added;
    trail = step.goes.grows.is;
    added_level = added_known c'.clauses level added t.entries step.goes.grows.implied;
  }

  -- what it takes from the queue
  step_taken : (q' : ℕ) (result : Option ClauseRef) →
      left_queued (watch_state c' t' q' level pending) result ≡ q + n - 1 →
      taken_between (watch_state c t q level pending) (watch_state c' t' q' level pending) result
      ≡ e ∷ []
  step_taken q' result left_is =
      let left_now = left_queued (watch_state c' t' q' level pending) result in
      let some = step.queue.some in let few = step.queue.few in let more = step.more in
      let long = ap length step.goes.grows.is ∙ length-append added t.entries in
      let left : left_now ≡ length added + (q - 1) = omega (arith, left_is, more, some) in
      let count : (length t'.entries - left_now) - (length t.entries - q) ≡ 1 =
      omega (arith, long, left) in
      ap (λ l. take ((length t'.entries - left_now) - (length t.entries - q)) (drop left_now l))
      step.goes.grows.is
      ∙ one_taken added t.entries (q - 1) e left_now
      ((length t'.entries - left_now) - (length t.entries - q)) (omega arith) step.entry left count

  -- its visits
  pub step_visits : (q' : ℕ) (result : Option ClauseRef) (before after : ℕ) →
      left_queued (watch_state c' t' q' level pending) result ≡ q + n - 1 →
      after ≤ before + holders f c.clauses →
      IsWithinVisits (watch_state c t q level pending) (watch_state c' t' q' level pending) result
      before after
  step_visits q' result before after left le =
      let one = step_taken q' result left in
      let same : holder_count (negation e.lit) (map attached c.clauses) ≡ holders f c.clauses =
      holders_attached (negation e.lit) c.clauses ∙ ap (λ l. holders l c.clauses)
      (sym step.literal) in
      rw one (omega arith)

  -- those that still watch the literal were visited
  pub step_each : (q' before after : ℕ) → q' ≡ q + n - 1 →
      HasCounted before (watchers f c'.clauses) after →
      HasVisited (watch_state c t q level pending) (watch_state c' t' q' level pending) before after
  step_each q' before after left each =
      let one = step_taken q' None left in
      let same : watcher_sum (map attached c'.clauses) (e ∷ []) ≡ watchers f c'.clauses =
      ap (λ n. n + 0) (watchers_attached (negation e.lit) c'.clauses)
      ∙ (omega arith ∙ ap (λ l. watchers l c'.clauses) (sym step.literal)) in
      rw (one, same) each

  -- what is known after it, where a clause was found to be false
  out : is_false t.entries f ≡ true
  out =
      let some = step.queue.some in let few = step.queue.few in
      rw step.literal (at_false t.entries (q - 1) e (omega arith) step.entry)

  stays : (q' : ℕ) → IsWatchStore c'.clauses t'.entries q' level None →
      IsWatches c' t' q' level pending
  stays q' store = record {
    whole = step.whole;
    store = subst (IsWatchStore c'.clauses t'.entries q' level) (sym step.queue.none) store;
  }

  pub step_stopped : IsWatches c' t' (q + n) level pending
  step_stopped =
      let count : length added + q ≡ q + n = let more = step.more in omega arith in
      stays (q + n) (subst (λ m. IsWatchStore c'.clauses t'.entries m level None) count
      (store_stopped c.clauses c'.clauses t.entries t'.entries q level f step.queue.store step.goes
      step.whole.trail.once step.some out))

  -- and where none was
  pub step_ended : ((r : ClauseRef) → OtherIsTrue t'.entries (stored_at c'.clauses r).lits f) →
      IsWatches c' t' (q + n - 1) level pending
  step_ended is_true =
      let more = step.more in let some = step.queue.some in
      let before : q ≡ suc (q - 1) = omega arith in
      let count : length added + (q - 1) ≡ q + n - 1 = omega arith in
      stays (q + n - 1) (subst (λ m. IsWatchStore c'.clauses t'.entries m level None) count
      (store_taken c.clauses c'.clauses t.entries t'.entries q level f step.queue.store step.goes
      step.whole.trail.once step.some out (q - 1) e before step.entry step.literal is_true))

-- where a literal is watched
watched_where : (lits : Clause) (l : Lit) → is_watched lits l ≡ true →
    (w : ℕ) × (w < 2) × (watch_of lits w ≡ Some l)
watched_where [] l is = let clash : false ≡ true = is in cc
watched_where (a ∷ []) l is = let clash : false ≡ true = is in cc
watched_where (a ∷ b ∷ ls) l is = elim (lit_tells a l) [
  | inl same ↦ (0, omega arith, ap Some same.1)
  | inr other ↦ elim (lit_tells b l) [
    | inl same ↦ (1, omega arith, ap Some same.1)
    | inr other' ↦
        let none : is_watched (a ∷ b ∷ ls) l ≡ false = rw (other.0, other'.0) refl in
        let clash : false ≡ true = sym none ∙ is in cc
  ]
]

watch_is : (lits : Clause) (w : ℕ) (l : Lit) → watch_of lits w ≡ Some l → is_watched lits l ≡ true
watch_is [] w l at = let clash : None ≡ Some l = at in cc
watch_is (a ∷ []) w l at = let clash : None ≡ Some l = at in cc
watch_is (a ∷ b ∷ ls) zero l at = elim (lit_tells a l) [
  | inl same ↦ rw same.0 refl
  | inr other ↦ absurd (other.1 cc)
]
watch_is (a ∷ b ∷ ls) (suc w) l at = elim (lit_tells a l) [
  | inl same ↦ rw same.0 refl
  | inr other ↦ elim (lit_tells b l) [
    | inl same ↦ rw (other.0, same.0) refl
    | inr ne ↦ absurd (ne.1 cc)
  ]
]

-- no more clauses watch a literal that was false before a walk
watchers_fall : (base : List TrailEntry) (f l : Lit) → is_false base l ≡ true → (at : ℕ)
    (ks new : List Stored) → ArePlaced at ks → ArePlaced at new → length new ≡ length ks →
    ((c : ClauseRef) → is_held ks c ≡ true →
    LitsGo base f (stored_at ks c).lits (stored_at new c).lits) → watchers l new ≤ watchers l ks
watchers_fall base f l out at [] [] placed placed' same go = omega arith
watchers_fall base f l out at [] (n ∷ new) placed placed' same go = absurd (omega (arith, same))
watchers_fall base f l out at (k ∷ ks) [] placed placed' same go = absurd (omega (arith, same))
watchers_fall base f l out at (k ∷ ks) (n ∷ new) placed placed' same go =
    let own = head_at k ks k.place refl in
    let own' = head_at n new k.place (placed'.0 ∙ sym placed.0) in
    let first : LitsGo base f k.lits n.lits =
    rw (← own.1) (rw (← own'.1) (go k.place own.0)) in
    let long : length n.lits ≡ length k.lits = length_permutation k.lits n.lits first.same in
    let behind : ArePlaced (at + size_of k) new =
    subst (λ m. ArePlaced (at + (m + 6)) new) long placed'.1 in
    let rest = watchers_fall base f l out (at + size_of k) ks new placed.1 behind
    (omega (arith, same)) (λ c held.
    let ne = held_behind at k ks c placed held in
    let there = behind_at k ks c ne in
    let there' = behind_at n new c (subst (λ r. r ≢ c) (placed.0 ∙ sym placed'.0) ne) in
    rw (← there.1) (rw (← there'.1) (go c (there.0 ∙ held)))) in
    by_test (is_watched n.lits l) refl first rest
  where
    by_test : (b : Bool) → is_watched n.lits l ≡ b → LitsGo base f k.lits n.lits →
        watchers l new ≤ watchers l ks → watchers l (n ∷ new) ≤ watchers l (k ∷ ks)
    by_test true is first rest =
        let w = watched_where n.lits l is in
        let was : is_watched k.lits l ≡ true = elim (first.watch w.0 l w.1 w.2) [
          | inl there ↦ watch_is k.lits w.0 l there
          | inr moved ↦ let clash : true ≡ false = sym out ∙ moved.1 in cc
        ] in
        rw (is, was) (omega arith)
    by_test false is first rest = by_old (is_watched k.lits l) refl where
      by_old : (b : Bool) → is_watched k.lits l ≡ b →
          watchers l (n ∷ new) ≤ watchers l (k ∷ ks)
      by_old true was = rw (is, was) (omega arith)
      by_old false was = rw (is, was) rest

-- so it is in a step
module _ {c c' : ChainsState} {t t' : TrailState} {q level : ℕ} {pending : Option ClauseRef}
    {f : Lit} {e : TrailEntry} {n : ℕ} (step : IsStep c c' t t' q level pending f e n) where
  pub step_fewer : ArePlaced 0 c.clauses → (l : Lit) → is_false t.entries l ≡ true →
      watcher_count l (map attached c'.clauses) ≤ watcher_count l (map attached c.clauses)
  step_fewer placed l out = rw (watchers_attached l c.clauses, watchers_attached l c'.clauses)
      (watchers_fall t.entries f l out 0 c.clauses c'.clauses placed step.whole.chained.placed
      step.goes.count (λ r held. step.goes.lits r))

-- each lower level is propagated, and the current one where nothing is queued or pending
pub state_propagated : (c : ChainsState) (t : TrailState) (q level : ℕ)
    (pending : Option ClauseRef) → IsWatches c t q level pending → IsPropagatedState (watch_state c t q level pending)
state_propagated c t q level pending h =
    let once = h.whole.trail.once in let simple = h.whole.chained.simple in
    record {
      below = λ j lt r is.
          let held = sym (attached_held c.clauses r) ∙ is in
          rw (attached_lits c.clauses r)
          (propagated_below c.clauses t.entries q level pending j h.store once lt c.vars r held
          (simple r held));
      here = λ none quiet r is.
          let held = sym (attached_held c.clauses r) ∙ is in
          rw (attached_lits c.clauses r) (propagated_now c.vars c.clauses t.entries level
          (subst (λ (p : ℕ × Option ClauseRef). IsWatchStore c.clauses t.entries p.0 level p.1)
          (λ x. (none x, quiet x)) h.store) once r held (simple r held));
    }

same_refl : (ks : List Attached) → SameClauses ks ks
same_refl ks =
    record {
      count = refl;
      places = λ stand. stand;
      attached = λ c. refl;
      ids = λ c. refl;
      lits =
          λ c. IsPermutation-refl (lits_at ks c);
      holders = λ l. refl;
    }

same_trans : (a b c : List Attached) → SameClauses a b → SameClauses b c → SameClauses a c
same_trans a b c x y = record {
  count = y.count ∙ x.count;
  places = λ stand. y.places (x.places stand);
  attached = λ r. y.attached r ∙ x.attached r;
  ids = λ r. y.ids r ∙ x.ids r;
  holders = λ l. y.holders l ∙ x.holders l;
  lits = λ r. IsPermutation-trans (lits_at a r) (lits_at b r) (lits_at c r) (x.lits r) (y.lits r);
}

pub propagates_refl : (s : WatchState) → s.pending ≡ None → Propagates s s
propagates_refl s none = record {
  vars = refl;
  level = refl;
  pending = none;
  clauses = same_refl s.clauses;
  added = [];
  trail = refl;
  added_level = All-nil (λ (e : TrailEntry). (e.level ≡ s.level) × (is_some e.reason ≡ true));
}

pub propagates_trans : (a b c : WatchState) → Propagates a b → Propagates b c → Propagates a c
propagates_trans a b c x y = record {
  vars = y.vars ∙ x.vars;
  level = y.level ∙ x.level;
  pending = y.pending;
  clauses = same_trans a.clauses b.clauses c.clauses x.clauses y.clauses;
  added = y.added ++ x.added;
  trail = y.trail ∙ (ap (λ t. y.added ++ t) x.trail ∙ sym (append_assoc y.added x.added a.trail));
  added_level =
      All-append (λ (e : TrailEntry). (e.level ≡ a.level) × (is_some e.reason ≡ true)) y.added
      x.added
      (subst (λ n. All (λ (e : TrailEntry). (e.level ≡ n) × (is_some e.reason ≡ true)) y.added)
      x.level y.added_level) x.added_level;
}

-- nothing is known of no clauses
pub empty_store : (ks : List Stored) (entries : List TrailEntry) → ks ≡ [] → entries ≡ [] →
    IsWatchStore ks entries 0 0 None
empty_store ks entries none empty = rw (none, empty) (record {
  few = omega arith;
  leveled = refl;
  current = λ k d lt. absurd (omega arith);
  watched = λ c held ne. let clash : false ≡ true = held in cc;
  pending_is = tt;
})

no_entry : TrailEntry
no_entry = record { lit = lit (pos 0); level = 0; reason = None }

pub visits_none : (s : WatchState) (l : ℕ) → IsWithinVisits s s None l l
visits_none s l =
    let none : (length s.trail - s.queued) - (length s.trail - s.queued) ≡ 0 = omega arith in
    rw none (omega arith)

-- what is taken in a step behind others
record IsTaken (a s b : WatchState) (result : Option ClauseRef) : Type 0 where
  entry : TrailEntry
  step : taken_between s b result ≡ entry ∷ []
  whole : taken_between a b result ≡ entry ∷ taken_between a s None

is_taken : (a s b : WatchState) (result : Option ClauseRef) (added : List TrailEntry) →
    1 ≤ s.queued → s.queued ≤ length s.trail → b.trail ≡ added ++ s.trail →
    length b.trail + s.queued ≡ length s.trail + left_queued b result + 1 →
    length a.trail - a.queued ≤ length s.trail - s.queued → IsTaken a s b result
is_taken a s b result added some few grown front later =
    let long = ap length grown ∙ length-append added s.trail in
    let p = s.queued - 1 in
    let t = get_or s.trail p no_entry in
    let rest = drop s.queued s.trail in
    let left : left_queued b result ≡ length added + p = omega (arith, long) in
    let next : suc p ≡ s.queued = omega arith in
    let begins : drop (left_queued b result) b.trail ≡ t ∷ rest =
    (λ x. drop (left x) (grown x)) ∙
    (drop-append-add added s.trail
    p ∙ (drop-cons s.trail p no_entry (omega arith) ∙ ap (λ n. t ∷ drop n s.trail) next)) in
    let count = (length s.trail - s.queued) - (length a.trail - a.queued) in
    let one : (length b.trail - left_queued b result) - (length s.trail - s.queued) ≡ 1 =
    omega arith in
    let more : (length b.trail - left_queued b result) - (length a.trail - a.queued) ≡ suc count =
    omega arith in
    record {
      entry = t;
      step = λ x. take (one x) (begins x);
      whole = λ x. take (more x) (begins x);
    }

-- the visits of a step are added to those before it
pub visits_on : (a s b : WatchState) (result : Option ClauseRef) (added : List TrailEntry)
    (start l l' : ℕ) → SameClauses a.clauses s.clauses → 1 ≤ s.queued → s.queued ≤ length s.trail →
    b.trail ≡ added ++ s.trail →
    length b.trail + s.queued ≡ length s.trail + left_queued b result + 1 →
    length a.trail - a.queued ≤ length s.trail - s.queued →
    IsWithinVisits a s None start l → IsWithinVisits s b result l l' →
    IsWithinVisits a b result start l'
visits_on a s b result added start l l' same some few grown front later le le' =
    let taken = is_taken a s b result added some few grown front later in
    let as_many = same.holders (negation taken.entry.lit) in
    let now : l' ≤ l + holder_sum s.clauses (taken.entry ∷ []) =
    subst (λ x. l' ≤ l + holder_sum s.clauses x) taken.step le' in
    subst (λ x. l' ≤ start + holder_sum a.clauses x) (sym taken.whole)
    (omega (arith, as_many, now, le))

-- the entries that were taken are on the trail, so that their negations are false
all_out : (a s : WatchState) →
    All (λ (e : TrailEntry). is_false s.trail (negation e.lit) ≡ true) (taken_between a s None)
all_out a s =
    let Out = λ (e : TrailEntry). is_false s.trail (negation e.lit) ≡ true in
    let own : All Out s.trail =
    λ p d lt. at_false s.trail p (slice_index_or s.trail p d) lt
    (default_free s.trail p (slice_index_or s.trail p d) d lt) in
    All-take Out ((length s.trail - s.queued) - (length a.trail - a.queued))
    (drop s.queued s.trail) (All-drop Out s.queued s.trail own)

sums_fall : (ks new : List Attached) (entries xs : List TrailEntry) →
    ((l : Lit) → is_false entries l ≡ true → watcher_count l new ≤ watcher_count l ks) →
    All (λ (e : TrailEntry). is_false entries (negation e.lit) ≡ true) xs →
    watcher_sum new xs ≤ watcher_sum ks xs
sums_fall ks new entries [] fewer out = omega arith
sums_fall ks new entries (e ∷ xs) fewer out =
    let Out = λ (d : TrailEntry). is_false entries (negation d.lit) ≡ true in
    let here = fewer (negation e.lit) (All-head Out e xs out) in
    let rest = sums_fall ks new entries xs fewer (All-tail Out e xs out) in
    omega arith

pub each_none : (s : WatchState) (l : ℕ) → HasVisited s s l l
each_none s l =
    let none : (length s.trail - s.queued) - (length s.trail - s.queued) ≡ 0 = omega arith in
    rw none (omega arith)

-- what still watches was visited in a step or before it
pub each_on : (a s b : WatchState) (added : List TrailEntry) (start l l' : ℕ) →
    1 ≤ s.queued → s.queued ≤ length s.trail → b.trail ≡ added ++ s.trail →
    length b.trail + s.queued ≡ length s.trail + b.queued + 1 →
    length a.trail - a.queued ≤ length s.trail - s.queued →
    ((m : Lit) → is_false s.trail m ≡ true →
    watcher_count m b.clauses ≤ watcher_count m s.clauses) →
    HasVisited a s start l → HasVisited s b l l' → HasVisited a b start l'
each_on a s b added start l l' some few grown front later fewer each each' =
    let taken = is_taken a s b None added some few grown front later in
    let fall = sums_fall s.clauses b.clauses s.trail (taken_between a s None) fewer (all_out a s) in
    let now : HasCounted l (watcher_sum b.clauses (taken.entry ∷ [])) l' =
    subst (λ x. HasCounted l (watcher_sum b.clauses x) l') taken.step each' in
    subst (λ x. HasCounted start (watcher_sum b.clauses x) l') (sym taken.whole)
    (omega (arith, fall, now, each))

-- the trail's levels and reasons, by what contracts see of the clauses
pub has_levels : (ks : List Stored) (level : ℕ) (entries : List TrailEntry) →
    AreLeveled ks level entries → HasLevels (map attached ks) level entries
has_levels ks level [] is = is
has_levels ks level (e ∷ older) is =
    (is.0, by_reason e.reason is.1 (λ n below. has_levels ks n older below)) where
      by_reason : (r : Option ClauseRef) →
          IsLeveledBy ks level e.lit older r (λ n. AreLeveled ks n older) →
          ((n : ℕ) → AreLeveled ks n older → HasLevels (map attached ks) n older) →
          HasCause (map attached ks) level e.lit older r (λ n. HasLevels (map attached ks) n older)
      by_reason None by go = (by.0, by.1, go by.0 by.2)
      by_reason (Some r) by go = (
        attached_held ks r ∙ by.0,
        subst (λ l. IsReason older l e.lit) (sym (attached_lits ks r)) by.1,
        go level by.2,
      )

-- the chains and the trail after one more entry
pub longer_whole : (c : ChainsState) (old new : TrailState) (e : TrailEntry) → AreWhole c old →
    new.vars ≡ old.vars → new.entries ≡ e ∷ old.entries → IsWithin c.vars e.lit →
    IsOpen old.entries e.lit → AreWhole c new
longer_whole c old new e whole vars is within free = record {
  vars = vars ∙ whole.vars;
  chained = whole.chained;
  trail =
      longer_trail old new e vars is
      (subst (λ n. IsWithin n e.lit) (sym whole.vars) within) free whole.trail;
}
