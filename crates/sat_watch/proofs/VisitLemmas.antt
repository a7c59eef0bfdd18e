-- What a visit of a clause leaves.
use Rattle.std.proofs.Common.{◌≡◌, ◌≢◌, ℕ, zero, suc, ◌-◌, ◌<◌, ◌≤◌, pos, true, false, ◌⊎◌, inl, inr, List, [], ◌∷◌, ◌++◌, length, get_or, slice_index_or, Option, None, Some, All, Contains, refl, sym, ap, ◌∙◌, subst, arith, length-append}
use Rattle.std.specs.List.{swap}
use Rattle.std.proofs.lemmas.List.Sorted.{IsPermutation-refl, IsPermutation-swap}
use Rattle.std.proofs.lemmas.List.Edits.{swap_is}
use Rattle.sat_clause.specs.declared.literal.Lit.{Lit}
use Rattle.sat_clause.specs.Learned.{IsSimple}
use Rattle.sat_clause.specs.Literal.{Clause, IsWithin, lit, negation}
use Rattle.sat_arena.specs.declared.clause_ref.ClauseRef.{ClauseRef}
use Rattle.sat_arena.specs.Store.{Stored, is_held, link_of, stored_at}
use Rattle.sat_watch.specs.declared.entry.TrailEntry.{TrailEntry}
use Rattle.sat_watch.specs.declared.place.Place.{Place}
use Rattle.sat_watch.specs.Chains.{holders, ChainsState, GoesOn, IsChained, IsCursor, IsPlaceOf, IsRewatched, MayBePlaceOf, clause_of, head_of, lit_at, next_by, next_on, watch_of}
use Rattle.sat_watch.specs.Watched.{Goes, Grows, IsImplied, IsVisited, LitsGo, OtherIsTrue, is_false, other_of}
use Rattle.sat_watch.proofs.ChainLemmas.{lits_moved, lits_stay}
use Rattle.sat_arena.proofs.StoreLaws.{same_or_other}
use Rattle.sat_watch.proofs.PathLemmas.{advance, in_both, in_cases}
use Rattle.sat_watch.proofs.StoredLemmas.{default_free, next_is_held}
use Rattle.sat_watch.proofs.WatchLemmas.{apart_first, goes_on, lit_tells}

-- a clause in a chain is held, and its watch is at one of the first two positions
pub in_chain : (ks : List Stored) (f : Lit) (c : ClauseRef) → GoesOn (next_on ks f c) →
    (a : Option ClauseRef) × (next_on ks f c ≡ Some a)
in_chain ks f c goes = of_option (next_on ks f c) refl where
  of_option : (o : Option (Option ClauseRef)) → next_on ks f c ≡ o →
      (a : Option ClauseRef) × (next_on ks f c ≡ Some a)
  of_option None e = absurd (subst GoesOn e goes)
  of_option (Some a) e = (a, e)

pub in_chain_held : (ks : List Stored) (f : Lit) (c : ClauseRef) → GoesOn (next_on ks f c) →
    is_held ks c ≡ true
in_chain_held ks f c goes = let a = in_chain ks f c goes in next_is_held ks f c a.0 a.1

pub watch_first : (lits : Clause) (f : Lit) (x y a : Option ClauseRef) →
    next_by lits f x y ≡ Some a → (get_or lits 0 (lit (pos 0))).code ≡ f.code →
    watch_of lits 0 ≡ Some f
watch_first [] f x y a goes same = let clash : None ≡ Some a = goes in cc
watch_first (l ∷ []) f x y a goes same = let clash : None ≡ Some a = goes in cc
watch_first (l ∷ m ∷ ls) f x y a goes same = let is : l ≡ f = ap lit same in ap Some is

pub watch_second : (lits : Clause) (f : Lit) (x y a : Option ClauseRef) →
    next_by lits f x y ≡ Some a → (get_or lits 0 (lit (pos 0))).code ≢ f.code →
    watch_of lits 1 ≡ Some f
watch_second [] f x y a goes ne = let clash : None ≡ Some a = goes in cc
watch_second (l ∷ []) f x y a goes ne = let clash : None ≡ Some a = goes in cc
watch_second (l ∷ m ∷ ls) f x y a goes ne = elim (lit_tells l f) [
  | inl same ↦ absurd (ne (ap (λ (z : Lit). z.code) same.1))
  | inr other ↦ elim (lit_tells m f) [
    | inl same ↦ ap Some same.1
    | inr other' ↦ let none : next_by (l ∷ m ∷ ls) f x y ≡ None = rw (other.0, other'.0) refl in
        let clash : None ≡ Some a = sym none ∙ goes in cc
  ]
]

pub watch_within : (n : ℕ) (lits : Clause) (w : ℕ) (l : Lit) → IsSimple n lits →
    watch_of lits w ≡ Some l → IsWithin n l
watch_within n [] w l simple is = let clash : None ≡ Some l = is in cc
watch_within n (a ∷ []) w l simple is = let clash : None ≡ Some l = is in cc
watch_within n (a ∷ b ∷ ls) zero l simple is =
    let same : a ≡ l = cc in subst (IsWithin n) same (simple.within 0 a (omega arith))
watch_within n (a ∷ b ∷ ls) (suc w) l simple is =
    let same : b ≡ l = cc in subst (IsWithin n) same (simple.within 1 a (omega arith))

pub watch_contains : (lits : Clause) (w : ℕ) (l : Lit) → watch_of lits w ≡ Some l → Contains lits l
watch_contains [] w l is = let clash : None ≡ Some l = is in cc
watch_contains (a ∷ []) w l is = let clash : None ≡ Some l = is in cc
watch_contains (a ∷ b ∷ ls) zero l is = let same : a ≡ l = cc in (0, omega arith, same)
watch_contains (a ∷ b ∷ ls) (suc w) l is = let same : b ≡ l = cc in (1, omega arith, same)

-- a literal is watched at one position
pub same_which : (n : ℕ) (lits : Clause) (w v : ℕ) (f : Lit) → IsSimple n lits → w < 2 → v < 2 →
    watch_of lits w ≡ Some f → watch_of lits v ≡ Some f → w ≡ v
same_which n [] w v f simple lw lv is is' = let clash : None ≡ Some f = is in cc
same_which n (a ∷ []) w v f simple lw lv is is' = let clash : None ≡ Some f = is in cc
same_which n (a ∷ b ∷ ls) zero zero f simple lw lv is is' = refl
same_which n (a ∷ b ∷ ls) zero (suc v) f simple lw lv is is' =
    let x : a ≡ f = cc in let y : b ≡ f = cc in absurd (apart_first n a b ls simple (x ∙ sym y))
same_which n (a ∷ b ∷ ls) (suc w) zero f simple lw lv is is' =
    let x : b ≡ f = cc in let y : a ≡ f = cc in absurd (apart_first n a b ls simple (y ∙ sym x))
same_which n (a ∷ b ∷ ls) (suc w) (suc v) f simple lw lv is is' = omega arith

-- where the other watched literal at the place is true, it is wherever f is watched
pub other_true : (n : ℕ) (entries : List TrailEntry) (lits : Clause) (w : ℕ) (f : Lit) →
    IsSimple n lits → w < 2 → watch_of lits w ≡ Some f →
    ((o : Lit) → watch_of lits (other_of w) ≡ Some o → is_false entries (negation o) ≡ true) →
    OtherIsTrue entries lits f
other_true n entries lits w f simple lw is true_there = λ v o lv at_v at_o.
    let same = same_which n lits v w f simple lv lw at_v is in
    true_there o (subst (λ x. watch_of lits (other_of x) ≡ Some o) same at_o)

pub lits_refl : (base : List TrailEntry) (f : Lit) (lits : Clause) → LitsGo base f lits lits
lits_refl base f lits =
    record { same = IsPermutation-refl lits; short = λ lt. refl; watch = λ w l lt is. inl is }

pub grows_refl : (ks : List Stored) (level : ℕ) (entries : List TrailEntry) →
    Grows ks level entries entries
grows_refl ks level entries = record { added = []; is = refl; implied = tt }

pub goes_same : (base : List TrailEntry) (level : ℕ) (f : Lit) (ks : List Stored)
    (entries now : List TrailEntry) → Grows ks level entries now →
    Goes base level f ks ks entries now
goes_same base level f ks entries now grows = record {
  count = refl;
  held = λ c. refl;
  ids = λ c. refl;
  lits = λ c. lits_refl base f (stored_at ks c).lits;
  holders_same = λ l. refl;
  grows = grows;
}

-- the watches of a clause after a swap of one of them
swap_watch : (lits : Clause) (w i v : ℕ) (f l : Lit) → w < 2 → v < 2 → 2 ≤ i → i < length lits →
    watch_of lits w ≡ Some f → watch_of (swap lits w i) v ≡ Some l →
    (watch_of lits v ≡ Some l) ⊎ ((watch_of lits v ≡ Some f) × (lit_at lits i ≡ l))
swap_watch [] w i v f l lw lv low high is at = absurd (omega arith)
swap_watch (a ∷ []) w i v f l lw lv low high is at = absurd (omega arith)
swap_watch (a ∷ b ∷ ls) w zero v f l lw lv low high is at = absurd (omega arith)
swap_watch (a ∷ b ∷ ls) w (suc zero) v f l lw lv low high is at = absurd (omega arith)
swap_watch (a ∷ b ∷ ls) zero (suc (suc j)) zero f l lw lv low high is at =
    inr (
      is,
      (let e = ap (λ x. watch_of x 0)
          (swap_is (a ∷ b ∷ ls) 0 (suc (suc j)) (lit (pos 0)) (omega arith) (omega arith)) ∙ at in
          cc),
    )
swap_watch (a ∷ b ∷ ls) zero (suc (suc j)) (suc zero) f l lw lv low high is at =
    inl (ap (λ x. watch_of x 1)
    (swap_is (a ∷ b ∷ ls) 0 (suc (suc j)) (lit (pos 0)) (omega arith) (omega arith)) ∙ at)
swap_watch (a ∷ b ∷ ls) (suc zero) (suc (suc j)) zero f l lw lv low high is at =
    inl (ap (λ x. watch_of x 0)
    (swap_is (a ∷ b ∷ ls) 1 (suc (suc j)) (lit (pos 0)) (omega arith) (omega arith)) ∙ at)
swap_watch (a ∷ b ∷ ls) (suc zero) (suc (suc j)) (suc zero) f l lw lv low high is at =
    inr (
      is,
      (let e = ap (λ x. watch_of x 1)
          (swap_is (a ∷ b ∷ ls) 1 (suc (suc j)) (lit (pos 0)) (omega arith) (omega arith)) ∙ at in
          cc),
    )
swap_watch (a ∷ b ∷ ls) w (suc (suc j)) (suc (suc v)) f l lw lv low high is at =
    absurd (omega arith)
swap_watch (a ∷ b ∷ ls) (suc (suc w)) (suc (suc j)) v f l lw lv low high is at =
    absurd (omega arith)

lits_swap : (base : List TrailEntry) (lits : Clause) (w i : ℕ) (f : Lit) → w < 2 → 2 ≤ i →
    i < length lits → watch_of lits w ≡ Some f →
    is_false base (lit_at lits i) ≡ false → LitsGo base f lits (swap lits w i)
lits_swap base lits w i f lw low high is free = record {
  same = IsPermutation-swap lits (swap lits w i) w i (omega arith) high refl;
  short = λ lt. absurd (omega arith);
  watch = λ v l lv at. elim (swap_watch lits w i v f l lw lv low high is at) [
    | inl here ↦ inl here
    | inr moved ↦ inr (moved.0, subst (λ x. is_false base x ≡ false) moved.1 free)
  ];
}

module _ (n : ℕ) (old : ChainsState) (f : Lit) (at : Place) (after : Option ClauseRef)
    (chained : IsChained n old.clauses old.heads) (place : IsPlaceOf old.clauses f at)
    (goes : link_of (stored_at old.clauses at.clause) at.which ≡ after) where
  own : next_on old.clauses f at.clause ≡ Some after
  own =
      goes_on n after (stored_at old.clauses at.clause) f (chained.simple at.clause place.held)
      at.which place.which place.watch ∙ ap Some goes

  -- the clause stays in the chain
  pub visited_kept : (before : Option ClauseRef) (now : List TrailEntry) →
      OtherIsTrue now (stored_at old.clauses at.clause).lits f →
      IsVisited f before at after old old now (Some at.clause)
  visited_kept before now is_true = record {
    others = λ d ne. refl;
    cursor = λ kept rest cursor. record {
      kept_now = kept ++ at.clause ∷ [];
      is =
          advance (next_on old.clauses f) (head_of old f) kept rest at.clause before after
          cursor own;
      were = λ d is. elim (in_both d kept (at.clause ∷ []) is) [
        | inl front ↦ inl front
        | inr back ↦ elim (in_cases d at.clause [] back) [
          | inl same ↦ inr (subst (λ r. OtherIsTrue now (stored_at old.clauses r).lits f) same
              is_true)
          | inr out ↦ inl (let clash : false ≡ true = out in cc)
        ]
      ];
      more = omega (arith, length-append kept (at.clause ∷ []));
    };
  }

  module _ (entries : List TrailEntry) (before : Option Place)
      (places : MayBePlaceOf old.clauses f before) (new : ChainsState) (i : ℕ)
      (head : Option ClauseRef) (low : 2 ≤ i)
      (high : i < length (stored_at old.clauses at.clause).lits)
      (is : IsRewatched old.clauses new.clauses before at i after head) where
    stay : (d : ClauseRef) → d ≢ at.clause →
        (stored_at new.clauses d).lits ≡ (stored_at old.clauses d).lits
    stay =
        lits_stay n old.clauses new.clauses f before at i after head chained.simple place places low
        high is

    -- the clause moves to another chain
    pub visited_moved : (now : List TrailEntry) →
        ((kept rest : List ClauseRef) →
        IsCursor (next_on old.clauses f) (head_of old f) kept (at.clause ∷ rest)
        (clause_of before) (Some at.clause) →
        IsCursor (next_on new.clauses f) (head_of new f) kept rest (clause_of before) after) →
        IsVisited f (clause_of before) at after old new now (clause_of before)
    visited_moved now moves_cursor = record {
      others = stay;
      cursor = λ kept rest cursor. record {
        kept_now = kept;
        is = moves_cursor kept rest cursor;
        were = λ d there. inl there;
        more = omega arith;
      };
    }

    pub goes_moved : (level : ℕ) → ((l : Lit) → holders l new.clauses ≡ holders l old.clauses) →
        is_false entries (lit_at (stored_at old.clauses at.clause).lits i) ≡ false →
        Goes entries level f old.clauses new.clauses entries entries
    goes_moved level as_many free = record {
      holders_same = as_many;
      count = is.count;
      held = is.held;
      ids = is.ids;
      lits = λ d. elim (same_or_other d at.clause) [
        | inl same ↦ subst (λ r. LitsGo entries f (stored_at old.clauses r).lits
            (stored_at new.clauses r).lits) (sym same.1)
            (rw (lits_moved n old.clauses new.clauses f before at i after head chained.simple place
            places low high is)
            (lits_swap entries (stored_at old.clauses at.clause).lits at.which i f place.which low
            high place.watch free))
        | inr other ↦ rw (stay d other.1) (lits_refl entries f (stored_at old.clauses d).lits)
      ];
      grows = grows_refl new.clauses level entries;
    }

-- one more entry is implied
pub goes_implied : (base : List TrailEntry) (level : ℕ) (f : Lit) (ks : List Stored)
    (entries now : List TrailEntry) (e : TrailEntry) → now ≡ e ∷ entries →
    IsImplied ks level entries e → Goes base level f ks ks entries now
goes_implied base level f ks entries now e is implied =
    goes_same base level f ks entries now
    (record { added = e ∷ []; is = is; implied = (implied, tt) })

-- each literal of a clause is false where both watches and all later ones are
pub all_false : (entries : List TrailEntry) (lits : Clause) (w : ℕ) (f : Lit) → w < 2 →
    2 ≤ length lits →
    ((l : Lit) → watch_of lits w ≡ Some l → is_false entries l ≡ true) →
    is_false entries (slice_index_or lits (1 - w) (lit (pos 0))) ≡ true →
    ((k : ℕ) → 2 ≤ k → k < length lits → is_false entries (lit_at lits k) ≡ true) →
    All (λ m. is_false entries m ≡ true) lits
all_false entries [] w f lw two own other later = absurd (omega arith)
all_false entries (a ∷ []) w f lw two own other later = absurd (omega arith)
all_false entries (a ∷ b ∷ ls) zero f lw two own other later = λ k d lt. each k d lt where
  each : (k : ℕ) (d : Lit) → k < length (a ∷ b ∷ ls) →
      is_false entries (slice_index_or (a ∷ b ∷ ls) k d) ≡ true
  each zero d lt = own a refl
  each (suc zero) d lt = other
  each (suc (suc k)) d lt =
      subst (λ x. is_false entries x ≡ true) (default_free ls k (lit (pos 0)) d (omega arith))
      (later (suc (suc k)) (omega arith) lt)
all_false entries (a ∷ b ∷ ls) (suc zero) f lw two own other later = λ k d lt. each k d lt where
  each : (k : ℕ) (d : Lit) → k < length (a ∷ b ∷ ls) →
      is_false entries (slice_index_or (a ∷ b ∷ ls) k d) ≡ true
  each zero d lt = other
  each (suc zero) d lt = own b refl
  each (suc (suc k)) d lt =
      subst (λ x. is_false entries x ≡ true) (default_free ls k (lit (pos 0)) d (omega arith))
      (later (suc (suc k)) (omega arith) lt)
all_false entries (a ∷ b ∷ ls) (suc (suc w)) f lw two own other later = absurd (omega arith)

pub other_at : (lits : Clause) (w : ℕ) → w < 2 → 2 ≤ length lits →
    watch_of lits (other_of w) ≡ Some (slice_index_or lits (1 - w) (lit (pos 0)))
other_at [] w lw two = absurd (omega arith)
other_at (a ∷ []) w lw two = absurd (omega arith)
other_at (a ∷ b ∷ ls) zero lw two = refl
other_at (a ∷ b ∷ ls) (suc zero) lw two = refl
other_at (a ∷ b ∷ ls) (suc (suc w)) lw two = absurd (omega arith)

-- all literals but the other watched one are false
pub others_false : (entries : List TrailEntry) (lits : Clause) (w : ℕ) → w < 2 → 2 ≤ length lits →
    ((l : Lit) → watch_of lits w ≡ Some l → is_false entries l ≡ true) →
    ((k : ℕ) → 2 ≤ k → k < length lits → is_false entries (lit_at lits k) ≡ true) →
    (m : Lit) → Contains lits m → m ≢ slice_index_or lits (1 - w) (lit (pos 0)) →
    is_false entries m ≡ true
others_false entries [] w lw two own later m has ne = absurd (omega arith)
others_false entries (a ∷ []) w lw two own later m has ne = absurd (omega arith)
others_false entries (a ∷ b ∷ ls) zero lw two own later m has ne = each has.0 has.1 has.2 where
  each : (k : ℕ) → k < length (a ∷ b ∷ ls) → slice_index_or (a ∷ b ∷ ls) k m ≡ m →
      is_false entries m ≡ true
  each zero lt is = subst (λ x. is_false entries x ≡ true) is (own a refl)
  each (suc zero) lt is = absurd (ne (sym is))
  each (suc (suc k)) lt is =
      subst (λ x. is_false entries x ≡ true) (default_free ls k (lit (pos 0)) m (omega arith) ∙ is)
      (later (suc (suc k)) (omega arith) lt)
others_false entries (a ∷ b ∷ ls) (suc zero) lw two own later m has ne =
    each has.0 has.1 has.2 where
      each : (k : ℕ) → k < length (a ∷ b ∷ ls) → slice_index_or (a ∷ b ∷ ls) k m ≡ m →
          is_false entries m ≡ true
      each zero lt is = absurd (ne (sym is))
      each (suc zero) lt is = subst (λ x. is_false entries x ≡ true) is (own b refl)
      each (suc (suc k)) lt is =
          subst (λ x. is_false entries x ≡ true) (default_free ls k (lit (pos 0)) m (omega arith) ∙
          is)
          (later (suc (suc k)) (omega arith) lt)
others_false entries (a ∷ b ∷ ls) (suc (suc w)) lw two own later m has ne = absurd (omega arith)
