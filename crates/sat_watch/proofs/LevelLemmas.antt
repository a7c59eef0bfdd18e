-- Literals that are true at a level, and clauses that can be left alone, where the trail grows.
use Rattle.std.proofs.Common.{◌≡◌, ◌≢◌, ℕ, zero, suc, ℤ, pos, negsuc, neg_ℤ, nat_abs, ◌+◌, ◌<◌, ◌≤◌, true, false, inl, inr, List, [], ◌∷◌, ◌++◌, length, drop, set, get_or, slice_index_or, Option, None, Some, refl, sym, ap, ◌∙◌, subst, arith, length-append, length-set, drop-cons}
use Rattle.std.specs.Prelude.{IsPermutation}
use Rattle.std.proofs.lemmas.Bool.{both_ways}
use Rattle.std.specs.List.{swap}
use Rattle.std.proofs.Math.Seq.{drop-append-add}
use Rattle.std.proofs.lemmas.List.Sorted.{IsPermutation-keeps}
use Rattle.sat_clause.specs.declared.literal.Lit.{Lit}
use Rattle.sat_clause.specs.Literal.{Clause, negation, variable}
use Rattle.sat_arena.specs.declared.clause_ref.ClauseRef.{ClauseRef}
use Rattle.sat_arena.specs.Store.{Stored, is_held, stored_at}
use Rattle.sat_watch.specs.declared.entry.TrailEntry.{TrailEntry}
use Rattle.sat_watch.specs.Trail.{IsOnce, IsOpen, falses}
use Rattle.sat_watch.specs.Chains.{watch_of}
use Rattle.sat_watch.specs.Levels.{AreLeveled, IsLeveledBy, IsWatchStore, IsWatched}
use Rattle.sat_watch.specs.Watched.{AreImplied, Goes, Grows, LitsGo, OtherIsTrue, is_false, other_of, true_at}
use Rattle.sat_watch.proofs.GoesLemmas.{reason_moves}
use Rattle.sat_watch.proofs.WatchLemmas.{lit_tells}
use Rattle.sat_clause.proofs.LiteralLaws.{among_cases, among_here, among_more, negation-negation}
use Rattle.sat_watch.proofs.TrailLemmas.{never, open_not_false, open_not_true}

-- a literal whose negation is false is true at some level
pub true_level : (entries : List TrailEntry) (l : Lit) → is_false entries (negation l) ≡ true →
    (n : ℕ) × (true_at entries l ≡ Some n)
true_level [] l is = let clash : false ≡ true = is in cc
true_level (e ∷ older) l is = elim (lit_tells e.lit l) [
  | inl same ↦ (e.level, rw same.0 refl)
  | inr other ↦ elim (among_cases (falses older) (negation e.lit) (negation l) is) [
    | inl here ↦ absurd (other.1
        (sym (negation-negation e.lit) ∙ (ap negation here ∙ negation-negation l)))
    | inr later ↦ let rest = true_level older l later in (rest.0, rw other.0 rest.1)
  ]
]

-- and a literal that is true at a level has a false negation
pub true_is_false : (entries : List TrailEntry) (l : Lit) (n : ℕ) → true_at entries l ≡ Some n →
    is_false entries (negation l) ≡ true
true_is_false [] l n is = let clash : None ≡ Some n = is in cc
true_is_false (e ∷ older) l n is = elim (lit_tells e.lit l) [
  | inl same ↦ subst (λ x. is_false (e ∷ older) (negation x) ≡ true) same.1
      (among_here (falses older) (negation e.lit))
  | inr other ↦ among_more (falses older) (negation e.lit) (negation l)
      (true_is_false older l n (rw other.0 at is))
]

pub negation_true_is_false : (entries : List TrailEntry) (l : Lit) (n : ℕ) →
    true_at entries (negation l) ≡ Some n → is_false entries l ≡ true
negation_true_is_false entries l n is =
    subst (λ x. is_false entries x ≡ true) (negation-negation l)
    (true_is_false entries (negation l) n is)

pub not_own_negation : (l : Lit) → 1 ≤ variable l → l ≢ negation l
not_own_negation l some e = of_code l.code some (ap (λ (x : Lit). x.code) e) where
  of_code : (z : ℤ) → 1 ≤ nat_abs z → z ≢ neg_ℤ z
  of_code (pos zero) some e = omega arith
  of_code (pos (suc n)) some e = let clash : pos (suc n) ≡ negsuc n = e in cc
  of_code (negsuc n) some e = let clash : negsuc n ≡ pos (suc n) = e in cc

-- no literal is true and false
pub not_both : (entries : List TrailEntry) (l : Lit) → 1 ≤ variable l → IsOnce entries →
    is_false entries l ≡ true → is_false entries (negation l) ≡ true → ⊥
not_both [] l some once is is' = let clash : false ≡ true = is in both_ways false refl clash
not_both (e ∷ older) l some once is is' = elim (among_cases (falses older) (negation e.lit) l is) [
  | inl here ↦ elim (among_cases (falses older) (negation e.lit) (negation l) is') [
    | inl here' ↦ not_own_negation l some (sym here ∙ here')
    | inr later' ↦ never _
        (subst (λ (x : Lit). is_false older x ≡ true) (ap negation (sym here) ∙ negation-negation
        e.lit)
        later') (open_not_false older e.lit once.0)
  ]
  | inr later ↦ elim (among_cases (falses older) (negation e.lit) (negation l) is') [
    | inl here' ↦ never _
        (subst (λ (x : Lit). is_false older x ≡ true)
        (sym (negation-negation l) ∙ (ap negation (sym here') ∙ negation-negation e.lit)) later)
        (open_not_false older e.lit once.0)
    | inr later' ↦ not_both older l some once.1 later later'
  ]
]

-- levels stay where the trail grows
pub true_stays : (added old : List TrailEntry) (l : Lit) (n : ℕ) → IsOnce (added ++ old) →
    true_at old l ≡ Some n → true_at (added ++ old) l ≡ Some n
true_stays [] old l n once is = is
true_stays (e ∷ added) old l n once is =
    let rest = true_stays added old l n once.1 is in
    elim (lit_tells e.lit l) [
      | inl same ↦ absurd (never _ (true_is_false (added ++ old) l n rest)
          (subst (λ x. is_false (added ++ old) (negation x) ≡ false) same.1
          (open_negated (added ++ old) e.lit once.0)))
      | inr other ↦ rw other.0 rest
    ]
  where
    open_negated : (older : List TrailEntry) (m : Lit) → IsOpen older m →
        is_false older (negation m) ≡ false
    open_negated older m free = open_not_true older m free

-- no level is above the current one
pub level_within : (clauses : List Stored) (level : ℕ) (entries : List TrailEntry) (l : Lit) (n : ℕ)
    → AreLeveled clauses level entries → true_at entries l ≡ Some n → n ≤ level
level_within clauses level [] l n leveled is = let clash : None ≡ Some n = is in cc
level_within clauses level (e ∷ older) l n leveled is = elim (lit_tells e.lit l) [
  | inl same ↦ let here : e.level ≡ n = (let x : Some e.level ≡ Some n = rw same.0 at is in cc) in
      let at_level = leveled.0 in omega arith
  | inr other ↦ by_reason e.reason leveled.1
      (λ k down. level_within clauses k older l n down (rw other.0 at is))
]
  where
    by_reason : (r : Option ClauseRef) →
        IsLeveledBy clauses level e.lit older r (λ k. AreLeveled clauses k older) →
        ((k : ℕ) → AreLeveled clauses k older → n ≤ k) → n ≤ level
    by_reason None by le = let below = le by.0 by.2 in let up = by.1 in omega arith
    by_reason (Some r) by le = le level by.2

-- a clause that can be left alone still can after a walk, for what was taken before
module _ (base : List TrailEntry) (taken added : List TrailEntry) (f : Lit) (old new : Clause)
    (once : IsOnce (added ++ base)) (some : 1 ≤ variable f) (is_f_false : is_false base f ≡ true)
    (within : (l : Lit) (n : ℕ) → true_at taken l ≡ Some n → is_false base (negation l) ≡ true)
    (go : LitsGo base f old new) (w : IsWatched taken base old) where
  once_base : IsOnce base
  once_base = drop_added added once where
    drop_added : (xs : List TrailEntry) → IsOnce (xs ++ base) → IsOnce base
    drop_added [] o = o
    drop_added (x ∷ xs) o = drop_added xs o.1

  false_here : (l : Lit) (n : ℕ) → true_at taken (negation l) ≡ Some n → is_false base l ≡ true
  false_here l n is =
      subst (λ x. is_false base x ≡ true) (negation-negation l) (within (negation l) n is)

  pub guarded_still : (which : ℕ) (l o : Lit) (n : ℕ) → which < 2 → watch_of new which ≡ Some l →
      watch_of new (other_of which) ≡ Some o →
      true_at taken (negation l) ≡ Some n → (m : ℕ) × (true_at (added ++ base) o ≡ Some m) × (m ≤ n)
  guarded_still which l o n lt at at_o is = elim (go.watch which l lt at) [
    | inr moved ↦ absurd (never _ (false_here l n is) moved.1)
    | inl there ↦ elim (go.watch (other_of which) o (other_lt which lt) at_o) [
      | inl there_o ↦
          let g = w.guarded which l o n lt there there_o is in
          (g.0, true_stays added base o g.0 once g.1, g.2)
      | inr moved ↦
          let g = w.guarded which l f n lt there moved.0 is in
          absurd (not_both base f some once_base is_f_false (true_is_false base f g.0 g.1))
    ]
  ]
    where
      other_lt : (v : ℕ) → v < 2 → other_of v < 2
      other_lt zero lt = omega arith
      other_lt (suc v) lt = omega arith

-- what was taken from the queue is on the trail
pub drop_true : (q : ℕ) (entries : List TrailEntry) (l : Lit) (n : ℕ) →
    true_at (drop q entries) l ≡ Some n → is_false entries (negation l) ≡ true
drop_true zero entries l n is = true_is_false entries l n is
drop_true (suc q) [] l n is = let clash : None ≡ Some n = is in cc
drop_true (suc q) (e ∷ older) l n is =
    among_more (falses older) (negation e.lit) (negation l) (drop_true q older l n is)

-- levels and reasons stand where the clauses' literals change places
pub leveled_moves : (ks new : List Stored) (level : ℕ) (entries : List TrailEntry) →
    ((c : ClauseRef) → is_held new c ≡ is_held ks c) →
    ((c : ClauseRef) → IsPermutation (stored_at ks c).lits (stored_at new c).lits) →
    AreLeveled ks level entries → AreLeveled new level entries
leveled_moves ks new level [] held same is = is
leveled_moves ks new level (e ∷ older) held same is =
    (is.0, by_reason e.reason is.1 (λ k. leveled_moves ks new k older held same))
  where
    by_reason : (r : Option ClauseRef) →
        IsLeveledBy ks level e.lit older r (λ k. AreLeveled ks k older) →
        ((k : ℕ) → AreLeveled ks k older → AreLeveled new k older) →
        IsLeveledBy new level e.lit older r (λ k. AreLeveled new k older)
    by_reason None by go = (by.0, by.1, go by.0 by.2)
    by_reason (Some r) by go = (
      held r ∙ by.0,
      reason_moves older (stored_at ks r).lits (stored_at new r).lits e.lit
          (same r) by.1,
      go level by.2,
    )

-- and where implied entries are added
pub leveled_added : (ks : List Stored) (level : ℕ) (added old : List TrailEntry) →
    AreImplied ks level added old → AreLeveled ks level old → AreLeveled ks level (added ++ old)
leveled_added ks level [] old are is = is
leveled_added ks level (e ∷ added) old are is =
    let here = are.0 in (
      here.at_level,
      subst (λ r. IsLeveledBy ks level e.lit (added ++ old) r (λ k. AreLeveled ks k (added ++ old)))
          (sym here.is)
          (here.held, here.why, leveled_added ks level added old are.1 is),
    )

added_level : (ks : List Stored) (level : ℕ) (added old : List TrailEntry) (k : ℕ) (d : TrailEntry)
    → AreImplied ks level added old → k < length added →
    (slice_index_or added k d).level ≡ level
added_level ks level [] old k d are lt = absurd (omega arith)
added_level ks level (e ∷ added) old zero d are lt = are.0.at_level
added_level ks level (e ∷ added) old (suc k) d are lt =
    added_level ks level added old k d are.1 (omega arith)

-- the queued entries are of the current level after some were added
current_added : (ks : List Stored) (level : ℕ) (added old : List TrailEntry) (q k : ℕ)
    (d : TrailEntry) → AreImplied ks level added old →
    ((j : ℕ) (d : TrailEntry) → j < q → (slice_index_or old j d).level ≡ level) →
    k < length added + q → (slice_index_or (added ++ old) k d).level ≡ level
current_added ks level [] old q k d are cur lt = cur k d (omega arith)
current_added ks level (e ∷ added) old q zero d are cur lt = are.0.at_level
current_added ks level (e ∷ added) old q (suc k) d are cur lt =
    current_added ks level added old q k d are.1 cur (omega arith)

length_same : (xs ys : Clause) → IsPermutation xs ys → length ys ≡ length xs
length_same xs ys p =
    IsPermutation-keeps xs (λ l. length l ≡ length xs) refl
    (λ l i j li lj is. length_swapped l i j ∙ is) ys p where
      length_swapped : (l : Clause) (i j : ℕ) → length (swap l i j) ≡ length l
      length_swapped [] i j = refl
      length_swapped (x ∷ l) i j =
          length-set (set (x ∷ l) i (get_or (x ∷ l) j x)) j (get_or (x ∷ l) i x) ∙ length-set (x ∷
          l) i
          (get_or (x ∷ l) j x)

some_still : (xs ys : Clause) → length ys ≡ length xs → xs ≢ [] → ys ≢ []
some_still [] ys long ne e = ne refl
some_still (x ∷ xs) [] long ne e = absurd (omega (arith, long))
some_still (x ∷ xs) (y ∷ ys) long ne e = cc

module _ (base taken added : List TrailEntry) (f : Lit) (old new : Clause)
    (once : IsOnce (added ++ base)) (some : 1 ≤ variable f) (is_f_false : is_false base f ≡ true)
    (within : (l : Lit) (n : ℕ) → true_at taken l ≡ Some n → is_false base (negation l) ≡ true)
    (go : LitsGo base f old new) (w : IsWatched taken base old) where
  still_some : new ≢ []
  still_some = some_still old new (length_same old new go.same) w.some

  still_alone : (a : Lit) → new ≡ a ∷ [] → true_at (added ++ base) a ≡ Some 0
  still_alone a is =
      let long : length old ≡ 1 = sym (length_same old new go.same) ∙ ap length is in
      let same = go.short (omega arith) in
      true_stays added base a 0 once (w.alone a (sym same ∙ is))

  -- after a walk that found a false clause
  pub watched_still : IsWatched taken (added ++ base) new
  watched_still = record {
    some = still_some;
    alone = still_alone;
    guarded = guarded_still base taken added f old new once some is_f_false within go w;
  }

  -- after a whole walk for the negation of an entry that is taken from the queue
  pub watched_taken : (ks : List Stored) (level : ℕ) (t : TrailEntry) → f ≡ negation t.lit →
      t.level ≡ level → AreLeveled ks level (added ++ base) →
      OtherIsTrue (added ++ base) new f → IsWatched (t ∷ taken) (added ++ base) new
  watched_taken ks level t fis at_level leveled is_true = record {
    some = still_some;
    alone = still_alone;
    guarded = λ v l o n lt at at_o is. elim (lit_tells t.lit (negation l)) [
      | inl same ↦
          let lf : l ≡ f = sym (negation-negation l) ∙ (ap negation (sym same.1) ∙ sym fis) in
          let here : t.level ≡ n = (let x : Some t.level ≡ Some n = rw same.0 at is in cc) in
          let found = true_level (added ++ base) o (is_true v o lt (at ∙ ap Some lf) at_o) in
          let le = level_within ks level (added ++ base) o found.0 leveled found.1 in
          (found.0, found.1, omega arith)
      | inr other ↦ guarded_still base taken added f old new once some is_f_false within go w v l o
          n lt at at_o (rw other.0 at is)
    ];
  }

-- what the watches know stays known after a walk, with the queue longer by what was added
module _ (ks new : List Stored) (entries now : List TrailEntry) (q level : ℕ) (f : Lit)
    (h : IsWatchStore ks entries q level None)
    (go : Goes entries level f ks new entries now) (once : IsOnce now) (some : 1 ≤ variable f)
    (is_f_false : is_false entries f ≡ true) where
  abbrev pub grown : Grows new level entries now
  grown = go.grows

  once_now : IsOnce (grown.added ++ entries)
  once_now = subst IsOnce grown.is once

  leveled_now : AreLeveled new level (grown.added ++ entries)
  leveled_now =
      leveled_added new level grown.added entries grown.implied
      (leveled_moves ks new level entries go.held (λ c. (go.lits c).same) h.leveled)

  pub store_stopped : IsWatchStore new now (length grown.added + q) level None
  store_stopped =
      subst (λ t. IsWatchStore new t (length grown.added + q) level None) (sym grown.is) (record {
        few = let few = h.few in let long = length-append grown.added entries in omega arith;
        leveled = leveled_now;
        current =
            λ k d lt. current_added new level grown.added entries q k d grown.implied h.current lt;
        watched = λ c held ne. rw (drop-append-add grown.added entries q)
            (watched_still entries (drop q entries) grown.added f (stored_at ks c).lits
            (stored_at new c).lits once_now some is_f_false
            (λ l n is. drop_true q entries l n is) (go.lits c)
            (h.watched c (sym (go.held c) ∙ held) ne));
        pending_is = tt;
      })

  pub store_taken : (p : ℕ) (t : TrailEntry) → q ≡ suc p → slice_index_or entries p t ≡ t →
      f ≡ negation t.lit →
      ((c : ClauseRef) → OtherIsTrue now (stored_at new c).lits f) →
      IsWatchStore new now (length grown.added + p) level None
  store_taken p t qis at_p fis is_true =
      subst (λ x. IsWatchStore new x (length grown.added + p) level None) (sym grown.is) (record {
        few = let few = h.few in let long = length-append grown.added entries in omega arith;
        leveled = leveled_now;
        current =
            λ k d lt. current_added new level grown.added entries p k d grown.implied
            (λ j e lj. h.current j e (omega arith)) lt;
        watched =
            λ c held ne. rw (
              drop-append-add grown.added entries p,
              drop-cons entries p t (let few = h.few in omega arith),
              at_p,
            )
            (watched_taken entries (drop (suc p) entries) grown.added f (stored_at ks c).lits
            (stored_at new c).lits once_now some is_f_false
            (λ l n is. drop_true (suc p) entries l n is) (go.lits c)
            (subst (λ m. IsWatched (drop m entries) entries (stored_at ks c).lits) qis
            (h.watched c (sym (go.held c) ∙ held) ne))
            new level t fis (ap (λ (e : TrailEntry). e.level) (sym at_p) ∙ h.current p t (omega
            arith))
            leveled_now
            (subst (λ x. OtherIsTrue x (stored_at new c).lits f) grown.is (is_true c)));
        pending_is = tt;
      })
