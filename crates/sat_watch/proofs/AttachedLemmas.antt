-- What the watches know once a clause is attached with its chosen literals first, and that each
-- case is chosen.
use Rattle.std.proofs.Common.{◌≡◌, ◌≢◌, ℕ, zero, suc, ◌+◌, ◌<◌, ◌≤◌, true, false, ◌⊎◌, inl, inr, List, [], ◌∷◌, ◌++◌, length, map, drop, slice_index_or, Option, None, Some, Contains, refl, sym, ap, ◌∙◌, subst, arith}
use Rattle.std.proofs.lemmas.List.{map-append}
use Rattle.std.proofs.lemmas.List.Sorted.{Contains-permutation, IsPermutation-sym, length_permutation}
use Rattle.sat_clause.specs.declared.limits.TheConstants.{LITERAL_LIMIT}
use Rattle.sat_clause.specs.declared.literal.Lit.{Lit}
use Rattle.sat_clause.specs.Learned.{IsSimple}
use Rattle.sat_clause.specs.Literal.{Clause, negation, variable}
use Rattle.sat_arena.specs.declared.clause_ref.ClauseRef.{ClauseRef}
use Rattle.sat_arena.specs.Store.{Stored, is_held, size_all}
use Rattle.sat_watch.specs.declared.entry.TrailEntry.{TrailEntry}
use Rattle.sat_watch.specs.Chains.{AreChained, ChainsState, lit_at, watch_of}
use Rattle.sat_watch.specs.Choice.{FreeSays, IsAhead, IsAttachedAs, IsTrueAt}
use Rattle.sat_watch.specs.Levels.{IsPendingAt, IsWatchStore, IsWatched}
use Rattle.sat_watch.specs.Trail.{IsOnce, TrailState}
use Rattle.sat_watch.specs.Watched.{AreWhole, is_false, true_at}
use Rattle.sat_watch.specs.Watches.{Attached, Attaches, HasOneOpen, HasOneTrue, HasTwoFree, IsOnlyOne, IsWatches, MayAttach, WatchState, attached, highest, watch_state, words_in}
use Rattle.sat_arena.proofs.StoreLaws.{push_held}
use Rattle.sat_watch.proofs.AttachStoreLemmas.{one_open, one_true, store_attached, store_pending, two_free, unit_true}
use Rattle.sat_watch.proofs.ChoiceLemmas.{at_contains, contained_at, free_level, other_at, single_highest}
use Rattle.sat_watch.proofs.FewLemmas.{simple_few}
use Rattle.sat_watch.proofs.LevelLemmas.{true_is_false, true_level}
use Rattle.sat_watch.proofs.StoredLemmas.{default_free}
use Rattle.sat_watch.proofs.WatchLemmas.{lit_tells}
use Rattle.sat_watch.proofs.TrailLemmas.{never}

-- one clause, by its order
free_watched : (q : ℕ) (entries : List TrailEntry) (order : Clause) → 2 ≤ length order →
    is_false entries (lit_at order 0) ≡ false → is_false entries (lit_at order 1) ≡ false →
    IsWatched (drop q entries) entries order
free_watched q entries [] two a b = absurd (omega arith)
free_watched q entries (x ∷ []) two a b = absurd (omega arith)
free_watched q entries (x ∷ y ∷ ls) two a b = two_free q entries x y ls a b

true_watched : (n q : ℕ) (entries : List TrailEntry) (order : Clause) (m high : ℕ) →
    IsSimple n order → IsOnce entries → 1 ≤ length order →
    true_at entries (lit_at order 0) ≡ Some m → m ≤ high →
    (2 ≤ length order → true_at entries (negation (lit_at order 1)) ≡ Some high) →
    (length order < 2 → high ≡ 0) → IsWatched (drop q entries) entries order
true_watched n q entries [] m high simple once some is le second alone = absurd (omega arith)
true_watched n q entries (x ∷ []) m high simple once some is le second alone =
    let none = alone (omega arith) in let zero_is : m ≡ 0 = omega arith in
    unit_true q entries x (is ∙ ap Some zero_is)
true_watched n q entries (x ∷ y ∷ ls) m high simple once some is le second alone =
    one_true q entries x y ls m high (simple.within 0 x (omega arith)).0 once is
    (second (omega arith)) le

pending_watched : (n : ℕ) (entries : List TrailEntry) (level : ℕ) (order : Clause) →
    IsSimple n order → 1 ≤ length order → true_at entries (lit_at order 0) ≡ None →
    true_at entries (negation (lit_at order 0)) ≡ None →
    ((m : Lit) → Contains order m → m ≢ lit_at order 0 → is_false entries m ≡ true) →
    (2 ≤ length order → true_at entries (negation (lit_at order 1)) ≡ Some level) →
    (length order < 2 → level ≡ 0) → IsPendingAt entries level order
pending_watched n entries level [] simple some nt nf others second alone = absurd (omega arith)
pending_watched n entries level (x ∷ ls) simple some nt nf others second alone =
    one_open entries level x ls nt nf
    (λ k d lk. others (slice_index_or ls k d)
    (suc k, omega arith, default_free ls k (slice_index_or ls k d) d lk)
    (λ e. simple.once 0 (suc k) d (omega arith) (omega arith) (ap variable (sym e))))
    (λ b is. of_second ls b is second)
    (λ e. alone (let none = ap length e in omega arith))
  where
    of_second : (ms : Clause) (b : Lit) → watch_of (x ∷ ms) 1 ≡ Some b →
        (2 ≤ length (x ∷ ms) → true_at entries (negation (lit_at (x ∷ ms) 1)) ≡ Some level) →
        true_at entries (negation b) ≡ Some level
    of_second [] b is known = let clash : None ≡ Some b = is in cc
    of_second (y ∷ ms) b is known =
        let yb : y ≡ b = cc in
        subst (λ (z : Lit). true_at entries (negation z) ≡ Some level) yb (known (omega arith))

words_same : (ks : List Stored) → size_all ks ≡ words_in (map attached ks)
words_same [] = refl
words_same (k ∷ ks) = ap (λ n. length k.lits + 6 + n) (words_same ks)

module _ {c c' : ChainsState} {lits : Clause} {id i j : ℕ} {r : ClauseRef} (t : TrailState)
    (q level : ℕ) (a : IsAhead c c' lits id i j r) where
  -- what contracts see of it
  pub added_state : {now pending' : Option ClauseRef} (pending : Option ClauseRef) →
      now ≡ pending' → IsAttachedAs (watch_state c t q level pending)
      (watch_state c' t q level now) lits id pending' r
  added_state pending is_pending = record {
    place = ap (λ (x : ClauseRef). x.word) a.added.place ∙ words_same c.clauses;
    order = a.order;
    same = a.same;
    is =
        λ x. record {
          vars = a.added.vars x;
          clauses = clauses_are x;
          trail =
              t.entries;
          queued = q;
          level = level;
          pending = is_pending x;
        };
  }
    where
      clause_is : ◌≡◌ {A = Attached} (attached a.added.clause)
          (record { place = r; id = id; lits = a.order })
      clause_is =
          λ x. record { place = a.added.last.place x; id = a.added.is_id x; lits = a.added.lits x }

      clauses_are : map attached c'.clauses ≡ map attached c.clauses
          ++ record { place = r; id = id; lits = a.order } ∷ []
      clauses_are =
          ap (map attached) a.added.last.is ∙
          (map-append attached c.clauses (a.added.clause ∷ []) ∙ ap
          (λ x. map attached c.clauses ++ x ∷ []) clause_is)

  long : length a.order ≡ length lits
  long = length_permutation lits a.order a.same

  fresh : is_held c.clauses a.added.clause.place ≡ false
  fresh = subst (λ x. is_held c.clauses x ≡ false) (sym a.added.last.place) a.added.last.fresh

  module _ {pending : Option ClauseRef} (chained : AreChained c')
      (given : IsWatches c t q level pending) (none : pending ≡ None) where
    h : IsWatches c t q level None
    h = subst (IsWatches c t q level) none given

    whole_now : AreWhole c' t
    whole_now = record {
      vars = h.whole.vars ∙ sym a.added.vars;
      chained = chained;
      trail = h.whole.trail;
    }

    left_alone : IsWatched (drop q t.entries) t.entries a.order → IsWatches c' t q level pending
    left_alone w = subst (IsWatches c' t q level) (sym none) (record {
      whole = whole_now;
      store = subst (λ ks. IsWatchStore ks t.entries q level None) (sym a.added.last.is)
          (store_attached c.clauses a.added.clause fresh t.entries q level h.store
          (subst (λ ls. IsWatched (drop q t.entries) t.entries ls) (sym a.added.lits) w));
    })

    pub free_watches : 2 ≤ length lits → is_false t.entries (lit_at lits i) ≡ false →
        is_false t.entries (lit_at lits j) ≡ false → IsWatches c' t q level pending
    free_watches two free_i free_j =
        left_alone (free_watched q t.entries a.order (omega (arith, long))
        (subst (λ l. is_false t.entries l ≡ false) (sym a.first) free_i)
        (subst (λ l. is_false t.entries l ≡ false) (sym (a.second two)) free_j))

    pub true_watches : i < length lits →
        is_false t.entries (lit_at lits i) ≡ false → IsTrueAt t.entries lits i →
        (2 ≤ length lits → true_at t.entries (negation (lit_at lits j)) ≡ Some
        (highest t.entries lits)) → IsWatches c' t q level pending
    true_watches li free is second =
        left_alone (true_watched c.vars q t.entries a.order is.0 (highest t.entries lits) a.simple
        h.whole.trail.once (omega (arith, long))
        (subst (λ l. true_at t.entries l ≡ Some is.0) (sym a.first) is.1) is.2
        (λ two. let two' : 2 ≤ length lits = omega (arith, long) in
        subst (λ l. true_at t.entries (negation l) ≡ Some (highest t.entries lits))
        (sym (a.second two')) (second two'))
        (λ one. single_highest t.entries lits i (omega (arith, long)) li free))

    pub pending_watches : i < length lits → IsOnlyOne t.entries lits (lit_at lits i) →
        true_at t.entries (lit_at lits i) ≡ None → level ≡ highest t.entries lits →
        (2 ≤ length lits → true_at t.entries (negation (lit_at lits j)) ≡ Some
        (highest t.entries lits)) → IsWatches c' t q level (Some r)
    pending_watches li only is at second =
        let pending_now : IsPendingAt t.entries level a.order =
        pending_watched c.vars t.entries level a.order a.simple (omega (arith, long))
        (subst (λ l. true_at t.entries l ≡ None) (sym a.first) is)
        (subst (λ l. true_at t.entries (negation l) ≡ None) (sym a.first)
        (free_level t.entries (lit_at lits i) only.1))
        (λ m has ne. only.2 m
        (Contains-permutation a.order lits m (IsPermutation-sym lits a.order a.same) has)
        (λ e. ne (e ∙ sym a.first)))
        (λ two. let two' : 2 ≤ length lits = omega (arith, long) in
        subst (λ l. true_at t.entries (negation l) ≡ Some level) (sym (a.second two'))
        (second two' ∙ ap Some (sym at)))
        (λ one. at ∙ single_highest t.entries lits i (omega (arith, long)) li only.1) in
        record {
          whole = whole_now;
          store =
              subst (λ (p : List Stored × ClauseRef). IsWatchStore p.0 t.entries q level (Some p.1))
              (λ x. (sym a.added.last.is x, a.added.last.place x))
              (store_pending c.clauses a.added.clause fresh t.entries q level h.store
              (push_held c.clauses a.added.clause)
              (subst (λ ls. IsPendingAt t.entries level ls) (sym a.added.lits) pending_now));
        }

-- the first literal that is not false stands at this position
pub record HasFree (s : WatchState) (lits : Clause) (i : ℕ) : Type 0 where
  pub simple : IsSimple s.vars lits
  pub at : FreeSays s.trail lits 0 (Some i)

module _ (s : WatchState) (lits : Clause) where
  none_free : FreeSays s.trail lits 0 None → (l : Lit) → Contains lits l →
      is_false s.trail l ≡ false → ⊥
  none_free none l has free =
      let at = contained_at lits l has in
      never _ (subst (λ x. is_false s.trail x ≡ true) at.2 (none at.0 (omega arith) at.1)) free

  -- one literal is not false
  pub some_free : MayAttach s lits → FreeSays s.trail lits 0 None → ⊥
  some_free may none = elim may [
    | inl two ↦ none_free none two.0 two.2 two.5
    | inr one ↦ elim one [
      | inl one_true ↦ none_free none one_true.0 one_true.2.0 one_true.2.1
      | inr one_open ↦ none_free none one_open.0 one_open.1.0 one_open.1.1
    ]
  ]

-- which case it is
module _ {s : WatchState} {lits : Clause} {i : ℕ} (first : HasFree s lits i) where
  only_here : (l : Lit) → IsOnlyOne s.trail lits l → lit_at lits i ≡ l
  only_here l only = elim (lit_tells (lit_at lits i) l) [
    | inl same ↦ same.1
    | inr other ↦
        let out = only.2 (lit_at lits i) (at_contains lits i first.at.1) other.1 in
        absurd (never _ out first.at.2)
  ]

  -- with two that are not false
  pub two_not_one : (j : ℕ) → j < length lits → j ≢ i → is_false s.trail (lit_at lits j) ≡ false
      →
      (l : Lit) → IsOnlyOne s.trail lits l → ⊥
  two_not_one j lj ne free_j l only =
      other_at s.vars lits i j first.simple first.at.1 lj ne (elim (lit_tells (lit_at lits j) l) [
        | inl same ↦ same.1 ∙ sym (only_here l only)
        | inr other ↦ absurd
            (never _ (only.2 (lit_at lits j) (at_contains lits j lj) other.1) free_j)
      ])

  true_here : (is : HasOneTrue s.trail lits) → true_at s.trail (lit_at lits i) ≡ Some is.1
  true_here is = subst (λ l. true_at s.trail l ≡ Some is.1) (sym (only_here is.0 is.2)) is.3

  open_here : HasOneOpen s.trail s.level lits → true_at s.trail (lit_at lits i) ≡ None
  open_here is = subst (λ l. true_at s.trail l ≡ None) (sym (only_here is.0 is.1)) is.2

  pub true_not_open : is_false s.trail (negation (lit_at lits i)) ≡ true →
      HasOneOpen s.trail s.level lits → ⊥
  true_not_open now is =
      let known = true_level s.trail (lit_at lits i) now in
      let clash : None ≡ Some known.0 = sym (open_here is) ∙ known.1 in cc

  pub open_not_true : is_false s.trail (negation (lit_at lits i)) ≡ false →
      HasOneTrue s.trail lits → ⊥
  open_not_true not_true is =
      never _ (true_is_false s.trail (lit_at lits i) is.1 (true_here is)) not_true

  pub two_not_open : (j : ℕ) → j < length lits → j ≢ i →
      is_false s.trail (lit_at lits j) ≡ false → HasOneOpen s.trail s.level lits → ⊥
  two_not_open j lj ne free_j is = two_not_one j lj ne free_j is.0 is.1

  module _ (after : FreeSays s.trail lits (i + 1) None) where
    here : (l : Lit) → Contains lits l → is_false s.trail l ≡ false → lit_at lits i ≡ l
    here l has l_free =
        let at = contained_at lits l has in
        let same : at.0 ≡ i =
        by_order (at.0) at.1 (subst (λ x. is_false s.trail x ≡ false) (sym at.2) l_free) in
        ap (lit_at lits) (sym same) ∙ at.2
      where
        order : (p m : ℕ) → (p ≡ m) ⊎ ((p < m) ⊎ (m < p))
        order zero zero = inl refl
        order zero (suc m) = inr (inl (omega arith))
        order (suc p) zero = inr (inr (omega arith))
        order (suc p) (suc m) = elim (order p m) [
          | inl same ↦ inl (ap suc same)
          | inr other ↦ elim other
              [ inl lt ↦ inr (inl (omega arith)) | inr gt ↦ inr (inr (omega arith)) ]
        ]

        by_order : (p : ℕ) → p < length lits → is_false s.trail (lit_at lits p) ≡ false → p ≡ i
        by_order p lp p_free = elim (order p i) [
          | inl same ↦ same
          | inr other ↦ elim other [
            | inl lt ↦ absurd (never _ (first.at.3 p (omega arith) lt) p_free)
            | inr gt ↦ absurd (never _ (after p (omega arith) lp) p_free)
          ]
        ]

    not_two : HasTwoFree s.trail lits → ⊥
    not_two two = two.4 (sym (here two.0 two.2 two.5) ∙ here two.1 two.3 two.6)

    pub only_one : MayAttach s lits → IsOnlyOne s.trail lits (lit_at lits i)
    only_one may = elim may [
      | inl two ↦ absurd (not_two two)
      | inr one ↦ elim one [
        | inl is ↦ subst (IsOnlyOne s.trail lits) (sym (only_here is.0 is.2)) is.2
        | inr is ↦ subst (IsOnlyOne s.trail lits) (sym (only_here is.0 is.1)) is.1
      ]
    ]

    pub is_true_here : MayAttach s lits → is_false s.trail (negation (lit_at lits i)) ≡ true →
        IsTrueAt s.trail lits i
    is_true_here may true_now = elim may [
      | inl two ↦ absurd (not_two two)
      | inr one ↦ elim one [
        | inl is ↦ (is.1, true_here is, is.4)
        | inr is ↦ absurd (true_not_open true_now is)
      ]
    ]

    pub is_open_here : MayAttach s lits → is_false s.trail (negation (lit_at lits i)) ≡ false →
        (true_at s.trail (lit_at lits i) ≡ None) × (s.level ≡ highest s.trail lits)
    is_open_here may not_true = elim may [
      | inl two ↦ absurd (not_two two)
      | inr one ↦ elim one [
        | inl is ↦ absurd (open_not_true not_true is)
        | inr is ↦ (open_here is, is.3)
      ]
    ]

    pub open_alone : is_false s.trail (negation (lit_at lits i)) ≡ false →
        HasTwoFree s.trail lits ⊎ HasOneTrue s.trail lits → ⊥
    open_alone not_true other =
        elim other [ inl two ↦ not_two two | inr is ↦ open_not_true not_true is ]

-- the clause is pending in the third case, and not in the first two
module _ {old new : WatchState} {lits : Clause} {id : ℕ} {pending : Option ClauseRef}
    {c : ClauseRef} (a : IsAttachedAs old new lits id pending c) where
  pending_is : new.pending ≡ pending
  pending_is = ap (λ (s : WatchState). s.pending) a.is

  pub attaches : (HasOneOpen old.trail old.level lits → pending ≡ Some c) →
      (HasTwoFree old.trail lits ⊎ HasOneTrue old.trail lits → pending ≡ None) →
      Attaches old new lits id c
  attaches open_pending other_not = record {
    place = a.place;
    order = a.order;
    same = a.same;
    is =
        a.is ∙ (λ x. record old {
          clauses = old.clauses ++ record { place = c; id = id; lits = a.order } ∷ [];
          pending =
              sym pending_is x;
        });
    pending = λ h. pending_is ∙ open_pending h;
    not_pending = λ h. pending_is ∙ other_not h;
  }

-- a clause of the watches' variables has not too many literals
module _ {c : ChainsState} {t : TrailState} {q level : ℕ} {pending : Option ClauseRef}
    {s : WatchState} {lits : Clause} where
  pub few_lits : IsWatches c t q level pending → watch_state c t q level pending ≡ s →
      IsSimple s.vars lits → length lits ≤ LITERAL_LIMIT
  few_lits h view simple =
      let few = simple_few c.vars lits (subst (λ (x : WatchState). IsSimple x.vars lits) (sym view)
      simple) in
      let most = h.whole.chained.few in
      omega arith
