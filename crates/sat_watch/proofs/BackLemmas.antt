-- What the watches know after a way back, and that each level is propagated.
use Rattle.std.proofs.Common.{◌≡◌, ◌≢◌, ℕ, zero, suc, ◌<◌, ◌≤◌, true, false, ◌⊎◌, inl, inr, List, [], ◌∷◌, length, drop, slice_index_or, Option, None, Some, refl, sym, ap, ◌∙◌, subst, arith}
use Rattle.std.specs.Prelude.{nat_le}
use Rattle.std.proofs.lemmas.Bool.Decides.{leb_tells}
use Rattle.std.proofs.lemmas.List.Elements.{All-head, All-tail, All-cons}
use Rattle.sat_clause.specs.declared.literal.Lit.{Lit}
use Rattle.sat_clause.specs.Learned.{IsSimple}
use Rattle.sat_clause.specs.Literal.{Clause, IsWithin, negation, variable}
use Rattle.sat_clause.specs.Rup.{reading_of}
use Rattle.sat_arena.specs.declared.clause_ref.ClauseRef.{ClauseRef}
use Rattle.sat_arena.specs.Store.{Stored, is_held, stored_at}
use Rattle.sat_watch.specs.declared.entry.TrailEntry.{TrailEntry}
use Rattle.sat_watch.specs.Trail.{AreWithin, IsOnce, IsOpen, IsTrail, TrailState, falses, lits_of}
use Rattle.sat_watch.specs.Chains.{watch_of}
use Rattle.sat_watch.specs.Levels.{AreLeveled, IsPendingAt, IsLeveledBy, IsWatchStore, IsWatched, MayBePending, upto}
use Rattle.sat_watch.specs.Trail.{fallen}
use Rattle.sat_clause.specs.Settled.{IsQuiet}
use Rattle.sat_watch.specs.Watched.{true_at}
use Rattle.sat_watch.proofs.LevelLemmas.{true_stays}
use Rattle.sat_arena.proofs.StoreLaws.{same_or_other}
use Rattle.sat_watch.proofs.PropagatedLemmas.{watched_is_quiet}
use Rattle.sat_watch.proofs.WatchLemmas.{lit_tells}

le_tells : (a b : ℕ) → ((nat_le a b ≡ true) × (a ≤ b)) ⊎ ((nat_le a b ≡ false) × (b < a))
le_tells a b = leb_tells a b

-- where all levels are at most j, all entries are read
upto_all : (ks : List Stored) (n j : ℕ) (entries : List TrailEntry) → AreLeveled ks n entries →
    n ≤ j → upto j entries ≡ entries
upto_all ks n j [] leveled le = refl
upto_all ks n j (e ∷ older) leveled le = elim (le_tells e.level j) [
  | inl below ↦ rw below.0
      (ap (λ l. e ∷ l) (by_reason e.reason leveled.1 (λ m down lm. upto_all ks m j older down lm)))
  | inr above ↦ let at_level = leveled.0 in absurd (omega arith)
]
  where
    by_reason : (r : Option ClauseRef) →
        IsLeveledBy ks n e.lit older r (λ m. AreLeveled ks m older) →
        ((m : ℕ) → AreLeveled ks m older → m ≤ j → upto j older ≡ older) → upto j older ≡ older
    by_reason None by go = let up = by.1 in go by.0 by.2 (omega arith)
    by_reason (Some r) by go = go n by.2 le

-- the levels up to j are the levels of a trail at level j
leveled_upto : (ks : List Stored) (n j : ℕ) (entries : List TrailEntry) → AreLeveled ks n entries →
    j ≤ n → AreLeveled ks j (upto j entries)
leveled_upto ks n j [] leveled le = let none : n ≡ 0 = leveled in omega arith
leveled_upto ks n j (e ∷ older) leveled le = elim (le_tells e.level j) [
  | inl below ↦
      let at_level = leveled.0 in let same : n ≡ j = omega arith in
      rw (upto_all ks n j (e ∷ older) leveled (omega arith))
      (subst (λ m. AreLeveled ks m (e ∷ older)) same leveled)
  | inr above ↦
      let at_level = leveled.0 in
      rw above.0 (by_reason e.reason leveled.1 (omega arith)
      (λ m down lm. leveled_upto ks m j older down lm))
]
  where
    by_reason : (r : Option ClauseRef) →
        IsLeveledBy ks n e.lit older r (λ m. AreLeveled ks m older) → j < n →
        ((m : ℕ) → AreLeveled ks m older → j ≤ m → AreLeveled ks j (upto j older)) →
        AreLeveled ks j (upto j older)
    by_reason None by lt go = let up = by.1 in go by.0 by.2 (omega arith)
    by_reason (Some r) by lt go = go n by.2 (omega arith)

-- what is read at level j is true at a level of at most j
upto_true : (j : ℕ) (entries : List TrailEntry) (l : Lit) (n : ℕ) → true_at entries l ≡ Some n →
    n ≤ j → true_at (upto j entries) l ≡ Some n
upto_true j [] l n is le = is
upto_true j (e ∷ older) l n is le = elim (lit_tells e.lit l) [
  | inl same ↦
      let here : e.level ≡ n = (let x : Some e.level ≡ Some n = rw same.0 at is in cc) in
      elim (le_tells e.level j) [
        | inl below ↦ rw (below.0, same.0) (ap Some here)
        | inr above ↦ absurd (omega arith)
      ]
  | inr other ↦
      let rest = upto_true j older l n (rw other.0 at is) le in
      elim (le_tells e.level j) [
        | inl below ↦ rw (below.0, other.0) rest
        | inr above ↦ rw above.0 rest
      ]
]

upto_open : (j : ℕ) (entries : List TrailEntry) (l : Lit) → IsOpen entries l →
    IsOpen (upto j entries) l
upto_open j [] l free = free
upto_open j (e ∷ older) l free =
    let P = λ (m : Lit). variable m ≢ variable l in let ls = lits_of older in
    let rest = upto_open j older l (All-tail P e.lit ls free) in
    elim (le_tells e.level j) [
      | inl below ↦
          rw below.0 (All-cons P e.lit (lits_of (upto j older)) (All-head P e.lit ls free) rest)
      | inr above ↦ rw above.0 rest
    ]

pub upto_once : (j : ℕ) (entries : List TrailEntry) → IsOnce entries → IsOnce (upto j entries)
upto_once j [] once = tt
upto_once j (e ∷ older) once = elim (le_tells e.level j) [
  | inl below ↦ rw below.0 (upto_open j older e.lit once.0, upto_once j older once.1)
  | inr above ↦ rw above.0 (upto_once j older once.1)
]

upto_below : (j : ℕ) (entries : List TrailEntry) (l : Lit) (n : ℕ) → IsOnce entries →
    true_at (upto j entries) l ≡ Some n → (true_at entries l ≡ Some n) × (n ≤ j)
upto_below j [] l n once is = let clash : None ≡ Some n = is in cc
upto_below j (e ∷ older) l n once is = elim (le_tells e.level j) [
  | inl below ↦ elim (lit_tells e.lit l) [
    | inl same ↦ let here : e.level ≡ n =
        (let x : Some e.level ≡ Some n = rw (below.0, same.0) at is in cc) in
        (rw same.0 (ap Some here), omega arith)
    | inr other ↦ let rest =
        upto_below j older l n once.1 (rw (below.0, other.0) at is) in (rw other.0 rest.0, rest.1)
  ]
  | inr above ↦ let rest =
      upto_below j older l n once.1 (rw above.0 at is) in
      (true_stays (e ∷ []) older l n once rest.0, rest.1)
]

-- what is true at a level below those of the queue was taken from it
taken_true : (q j : ℕ) (entries : List TrailEntry) (l : Lit) (n : ℕ) →
    ((k : ℕ) (d : TrailEntry) → k < q → j < (slice_index_or entries k d).level) →
    n ≤ j → q ≤ length entries → true_at entries l ≡ Some n → true_at (drop q entries) l ≡ Some n
taken_true zero j entries l n above le few is = is
taken_true (suc q) j [] l n above le few is = is
taken_true (suc q) j (e ∷ older) l n above le few is = elim (lit_tells e.lit l) [
  | inl same ↦
      let here : e.level ≡ n = (let x : Some e.level ≡ Some n = rw same.0 at is in cc) in
      let up = above 0 e (omega arith) in absurd (omega arith)
  | inr other ↦ taken_true q j older l n (λ k d lt. above (suc k) d (omega arith)) le (omega arith)
      (rw other.0 at is)
]

module _ (ks : List Stored) (entries : List TrailEntry) (q level : ℕ) (pending : Option ClauseRef)
    (j : ℕ)
    (h : IsWatchStore ks entries q level pending) (once : IsOnce entries) (lower : j < level) where
  watched_back : (lits : Clause) → IsWatched (drop q entries) entries lits →
      IsWatched (upto j entries) (upto j entries) lits
  watched_back lits w = record {
    some = w.some;
    alone = λ a is. upto_true j entries a 0 (w.alone a is) (omega arith);
    guarded = λ v l o n lt at at_o is.
        let below = upto_below j entries (negation l) n once is in
        let taken = taken_true q j entries (negation l) n
        (λ k d lk. let cur = h.current k d lk in omega arith) below.1 h.few below.0 in
        let g = w.guarded v l o n lt at at_o taken in
        let up = g.2 in let down = below.1 in
        (g.0, upto_true j entries o g.0 g.1 (omega arith), g.2);
  }

  pending_back : (lits : Clause) → IsPendingAt entries level lits →
      IsWatched (upto j entries) (upto j entries) lits
  pending_back lits d = record {
    some = d.some;
    alone = λ a is. let at_zero = d.alone a is in absurd (omega arith);
    guarded = λ v l o n lt at at_o is.
        let below = upto_below j entries (negation l) n once is in
        let down = below.1 in
        absurd (by_place v l n lt at below.0 down);
  }
    where
      by_place : (v : ℕ) (l : Lit) (n : ℕ) → v < 2 → watch_of lits v ≡ Some l →
          true_at entries (negation l) ≡ Some n → n ≤ j → ⊥
      by_place zero l n lt at is le = let same = d.first_false l n at is in omega arith
      by_place (suc zero) l n lt at is le =
          let same : level ≡ n = (let x : Some level ≡ Some n = sym (d.second l at) ∙ is in cc) in
          omega arith
      by_place (suc (suc v)) l n lt at is le = omega arith

  -- after a way back to a lower level
  pub store_back : IsWatchStore ks (upto j entries) 0 j None
  store_back = record {
    few = omega arith;
    leveled = leveled_upto ks level j entries h.leveled (omega arith);
    current = λ k d lt. absurd (omega arith);
    watched = λ c held ne. by_pending pending refl c held;
    pending_is = tt;
  }
    where
      by_pending : (o : Option ClauseRef) → pending ≡ o → (c : ClauseRef) → is_held ks c ≡ true →
          IsWatched (upto j entries) (upto j entries) (stored_at ks c).lits
      by_pending None e c held =
          watched_back (stored_at ks c).lits
          (h.watched c held (λ x. let clash : None ≡ Some c = sym e ∙ x in cc))
      by_pending (Some b) e c held = elim (same_or_other b c) [
        | inr other ↦ watched_back (stored_at ks c).lits
            (h.watched c held (λ x. other.1 (let y : Some b ≡ Some c = sym e ∙ x in cc)))
        | inl same ↦ pending_back (stored_at ks c).lits
            (subst (λ x. IsPendingAt entries level (stored_at ks x).lits) same.1
            (subst (MayBePending ks entries level) e h.pending_is).1)
      ]

  -- each lower level is propagated
  pub propagated_below : (n : ℕ) (c : ClauseRef) → is_held ks c ≡ true →
      IsSimple n (stored_at ks c).lits →
      IsQuiet (reading_of (falses (upto j entries)) (stored_at ks c).lits)
  propagated_below n c held simple =
      watched_is_quiet n (upto j entries) (stored_at ks c).lits simple (upto_once j entries once)
      (store_back.watched c held (λ x. let clash : None ≡ Some c = x in cc))

-- the current level is propagated where nothing is queued or pending
pub propagated_now : (n : ℕ) (ks : List Stored) (entries : List TrailEntry) (level : ℕ) →
    IsWatchStore ks entries 0 level None → IsOnce entries →
    (c : ClauseRef) → is_held ks c ≡ true → IsSimple n (stored_at ks c).lits →
    IsQuiet (reading_of (falses (upto level entries)) (stored_at ks c).lits)
propagated_now n ks entries level h once c held simple =
    rw (upto_all ks level level entries h.leveled (omega arith))
    (watched_is_quiet n entries (stored_at ks c).lits simple once
    (h.watched c held (λ x. let clash : None ≡ Some c = x in cc)))

-- levels begin one by one, so there are no more of them than entries
pub few_levels : (ks : List Stored) (level : ℕ) (entries : List TrailEntry) →
    AreLeveled ks level entries → level ≤ length entries
few_levels ks level [] leveled = let none : level ≡ 0 = leveled in omega arith
few_levels ks level (e ∷ older) leveled =
    by_reason e.reason leveled.1 (λ k down. few_levels ks k older down)
  where
    by_reason : (r : Option ClauseRef) →
        IsLeveledBy ks level e.lit older r (λ m. AreLeveled ks m older) →
        ((m : ℕ) → AreLeveled ks m older → m ≤ length older) → level ≤ suc (length older)
    by_reason None by go = let below = go by.0 by.2 in let up = by.1 in omega arith
    by_reason (Some r) by go = let below = go level by.2 in omega arith

-- since the levels do not fall, what is read at level j is what is left once newer entries are
-- dropped
pub fallen_is_upto : (ks : List Stored) (n j : ℕ) (entries : List TrailEntry) →
    AreLeveled ks n entries → fallen j entries ≡ upto j entries
fallen_is_upto ks n j [] leveled = refl
fallen_is_upto ks n j (e ∷ older) leveled = elim (le_tells e.level j) [
  | inl below ↦ let at_level =
      leveled.0 in rw below.0
      (let all : upto j (e ∷ older) ≡ e ∷ older =
      upto_all ks n j (e ∷ older) leveled (omega arith) in sym (rw below.0 at all))
  | inr above ↦ rw above.0
      (by_reason e.reason leveled.1 (λ m down. fallen_is_upto ks m j older down))
]
  where
    by_reason : (r : Option ClauseRef) →
        IsLeveledBy ks n e.lit older r (λ m. AreLeveled ks m older) →
        ((m : ℕ) → AreLeveled ks m older → fallen j older ≡ upto j older) →
        fallen j older ≡ upto j older
    by_reason None by go = go by.0 by.2
    by_reason (Some r) by go = go n by.2

upto_within : (n j : ℕ) (entries : List TrailEntry) → AreWithin n entries →
    AreWithin n (upto j entries)
upto_within n j [] within = within
upto_within n j (e ∷ older) within =
    let P = λ (x : TrailEntry). IsWithin n x.lit in
    let rest = upto_within n j older (All-tail P e older within) in
    elim (le_tells e.level j) [
      | inl below ↦ rw below.0 (All-cons P e (upto j older) (All-head P e older within) rest)
      | inr above ↦ rw above.0 rest
    ]

upto_few : (j : ℕ) (entries : List TrailEntry) → length (upto j entries) ≤ length entries
upto_few j [] = omega arith
upto_few j (e ∷ older) =
    let rest = upto_few j older in
    elim (le_tells e.level j) [
      | inl below ↦ rw below.0 (omega arith)
      | inr above ↦ rw above.0 (omega arith)
    ]

-- what a trail keeps after a way back
pub trail_upto : (j : ℕ) (old new : TrailState) → new.vars ≡ old.vars →
    new.entries ≡ upto j old.entries → IsTrail old → IsTrail new
trail_upto j old new vars is t =
    let few = t.few in let fewer = upto_few j old.entries in
    rw (vars, is) (record {
      few_vars = t.few_vars;
      within = upto_within old.vars j old.entries t.within;
      once = upto_once j old.entries t.once;
      few = omega arith;
    })
