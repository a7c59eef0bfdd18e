-- One more clause of a formula that a search takes in, under an id that is new.
use Rattle.std.specs.Prelude.{nat_lt, not, ◌||◌}
use Rattle.std.proofs.Common.{inl, inr, ◌⊎◌, ◌≡◌, ◌≢◌, ◌==◌, ◌<◌, ◌≤◌, ◌+◌, ℕ, zero, suc, Bool, true, false, cond, [], ◌∷◌, ◌++◌, length, Option, None, Some, get_or, slice_get, All, Contains, refl, sym, ap, ◌∙◌, subst, arith}
use Rattle.std.proofs.lemmas.Bool.{both_ways, cases_eq, eq-eqb, eqb-true, lt-ltb, ne_eqb}
use Rattle.std.proofs.lemmas.Bool.Decides.{nat_tests}
use Rattle.std.proofs.lemmas.List.Elements.{All-contains, All-weaker}
use Rattle.std.proofs.lemmas.List.Folds.{list_any-from_Any}
use Rattle.std.proofs.lemmas.Option.{slice_get_within}
use Rattle.list_laws.proofs.Places.{some_is}
use Rattle.sat_clause.specs.declared.literal.Lit.{Lit}
use Rattle.sat_clause.specs.Formula.{Cnf}
use Rattle.sat_clause.specs.Judge.{inputs}
use Rattle.sat_clause.specs.Learned.{IsSimple, SameLiterals}
use Rattle.sat_clause.specs.Literal.{Clause, IsWithin, is_among, negation, variable}
use Rattle.sat_clause.specs.Live.{Live, clause_at, put}
use Rattle.sat_clause.proofs.LiteralLaws.{contains_among, same_variable}
use Rattle.sat_clause.proofs.LiveLaws.{inputs_at, inputs_none}
use Rattle.sat_arena.specs.declared.clause_ref.ClauseRef.{ClauseRef}
use Rattle.sat_watch.specs.Watches.{Attached, Attaches, HasTwoFree, WatchState, id_at, is_attached}
use Rattle.sat_core.specs.ClauseList.{ClauseListState}
use Rattle.sat_core.specs.Inputs.{HasTaken, Keeps, MayKeep, is_pair, no_singles, pairs_and_below, pairs_below, picked}
use Rattle.sat_core.specs.Kept.{AreBelow, HasOnce, SameLive, is_always_true}
use Rattle.sat_core.specs.SearchStore.{IsKeeping, IsSearchStore, assigned_in, live_of, search_value}
use Rattle.sat_core.specs.Stands.{StandsFor}
use Rattle.sat_core.proofs.AttachLaws.{now_clauses, now_level, now_leveled, now_trail, now_vars}
use Rattle.sat_core.proofs.AttachedLaws.{keeping_added, same_permuted, simple_permuted}
use Rattle.sat_core.proofs.KeptLaws.{kept_alike, kept_nil, kept_put, kept_skip}
use Rattle.sat_core.proofs.SameLaws.{same_back, same_itself, same_then}
use Rattle.sat_core.proofs.SearchLaws.{below_alike, level_zero}
use Rattle.sat_core.proofs.WatchLaws.{single_found, value_added, value_found}

-- A CLAUSE UNDER A NEW ID

-- what holds once it is kept
pub record IsOneMore
    (m : ℕ) (s now_s : ClauseListState) (w now_w : WatchState) (lits : Clause) (id : ℕ)
    : Type 0 where
  pub store : IsSearchStore m 0 0 now_s now_w
  pub vars : now_w.vars ≡ w.vars
  pub trail : now_w.trail ≡ w.trail
  pub order : Clause
  pub same : SameLiterals order lits
  pub once : HasOnce order
  pub alike : SameLive (put (s.clauses ++ live_of w.clauses) id order)
      (now_s.clauses ++ live_of now_w.clauses)

put_under : (id n : ℕ) (live : Live) (clause : Clause) → 1 ≤ n → n < id → AreBelow id live →
    AreBelow id (put live n clause)
put_under id n live clause some low below k c at = by (k == n) refl at where
  by : (b : Bool) → (k == n) ≡ b → cond b (Some clause) (clause_at live k) ≡ Some c →
      (1 ≤ k) × (k < id)
  by true same at = let one = eqb-true k n same in (
    omega (arith, one, some),
    omega
        (arith, one, low),
  )
  by false same at = below k c at

module _ (m : ℕ) (s : ClauseListState) (w : WatchState) (lits : Clause) (id : ℕ)
    (store : IsSearchStore m 0 0 s w) (none_true : w.trail ≡ []) (some : 1 ≤ id) (most : id ≤ m)
    (new : clause_at (s.clauses ++ live_of w.clauses) id ≡ None) (simple : IsSimple w.vars lits)
  where
    level : w.level ≡ 0
    level = level_zero w store.leveled (ap (assigned_in w.clauses) none_true)

    -- no attached clause has the id
    other_id : (c : ClauseRef) → is_attached w.clauses c ≡ true → id_at w.clauses c ≢ id
    other_id c is same =
        let x = value_found store.keeps c is in
        let bad : None ≡ Some x.0 = sym new
        ∙ ap (clause_at (s.clauses ++ live_of w.clauses)) (sym same) ∙ x.1 in
        cc

    attached_more : (now : WatchState) (c : ClauseRef) → Attaches w now lits id c →
        HasTwoFree w.trail lits → IsOneMore m s s w now lits id
    attached_more now c does two =
        let stand = store.keeps.stand in
        let entry : Attached = record { place = c; id = id; lits = does.order } in
        let clauses : now.clauses ≡ w.clauses ++ entry ∷ [] = now_clauses does stand in
        let vars : now.vars ≡ w.vars = now_vars does stand in
        let alike : SameLive (put (s.clauses ++ live_of w.clauses) id does.order)
        (s.clauses ++ live_of now.clauses) =
        rw clauses (value_added s.clauses w.clauses entry new) in
        let keeps : IsKeeping w.vars s.clauses (w.clauses ++ entry ∷ []) =
        keeping_added w.vars s.clauses w.clauses entry store.keeps does.place
        (simple_permuted w.vars lits does.order does.same simple)
        (λ alone d d_is. other_id d d_is)
        (λ x at.
        let bad : None ≡ Some x = sym new ∙ single_found s.clauses w.clauses id x at in cc) in
        record {
          store = record {
            few_ids = store.few_ids;
            few = store.few;
            few_vars = rw vars store.few_vars;
            same_vars = store.same_vars ∙ sym vars;
            below = below_alike (suc (m + 0)) (put (s.clauses ++ live_of w.clauses) id does.order)
                (s.clauses ++ live_of now.clauses) alike
                (put_under (suc (m + 0)) id (s.clauses ++ live_of w.clauses) does.order some
                (omega (arith, most)) store.below);
            few_taken = store.few_taken;
            once = store.once;
            keeps = rw (clauses, vars) keeps;
            taken_are = λ k n x lt at. absurd (omega (arith, lt));
            waiting = inr (now_level does stand ∙ level);
            leveled = now_leveled does stand store.leveled;
            none_pending = does.not_pending (inl two);
          };
          vars = vars;
          trail = now_trail does stand;
          order = does.order;
          same = same_back lits does.order (same_permuted lits does.order does.same);
          once = (simple_permuted w.vars lits does.order does.same simple).once;
          alike = alike;
        }

    single_more : length s.clauses < m →
        IsOneMore m s (record s { clauses = put s.clauses id lits }) w w lits id
    single_more few = record {
      store = record {
        few_ids = store.few_ids;
        few = omega (arith, few);
        few_vars = store.few_vars;
        same_vars = store.same_vars;
        below = put_under (suc (m + 0)) id (s.clauses ++ live_of w.clauses) lits some
            (omega (arith, most)) store.below;
        few_taken = omega arith;
        once = λ n x at. by_once n x (n == id) at;
        keeps = record {
          stand = store.keeps.stand;
          ids = λ c d c_is d_is alone one.
              store.keeps.ids c d c_is d_is (sym (other c c_is) ∙ alone) one;
          agree = λ c x c_is at. store.keeps.agree c x c_is (sym (other c c_is) ∙ at);
          simple = store.keeps.simple;
        };
        taken_are = λ k n x lt at. absurd (omega (arith, lt));
        waiting = inr level;
        leveled = store.leveled;
        none_pending = store.none_pending;
      };
      vars = refl;
      trail = refl;
      order = lits;
      same = same_itself lits;
      once = simple.once;
      alike = λ n. refl;
    }
      where
        by_once : (n : ℕ) (x : Clause) (b : Bool) →
            cond b (Some lits) (clause_at s.clauses n) ≡ Some x → HasOnce x
        by_once n x true at = let same : lits ≡ x = cc in subst HasOnce same simple.once
        by_once n x false at = store.once n x at

        other : (c : ClauseRef) → is_attached w.clauses c ≡ true →
            clause_at (put s.clauses id lits) (id_at w.clauses c)
            ≡ clause_at s.clauses (id_at w.clauses c)
        other c is =
            rw (ne_eqb (id_at w.clauses c) id (other_id c is)) refl

    pub one_more : (now_s : ClauseListState) (now_w : WatchState) → length s.clauses < m →
        (2 ≤ length lits → HasTwoFree w.trail lits) → Keeps s now_s w now_w lits id →
        IsOneMore m s now_s w now_w lits id
    one_more now_s now_w few two keeps =
        elim (cases_short (length lits)) [
          | inl short ↦
              let is = keeps.short (omega (arith, short)) in
              subst (λ (p : ClauseListState × WatchState). IsOneMore m s p.0 w p.1 lits id)
              (λ i. (sym is.1 i, sym is.0 i)) (single_more few)
          | inr long ↦
              let is = keeps.long long in
              subst (λ (x : ClauseListState). IsOneMore m s x w now_w lits id) (sym is.0)
              (attached_more now_w is.1.0 is.1.1 (two long))
        ]
      where
        cases_short : (n : ℕ) → (n ≤ 1) ⊎ (2 ≤ n)
        cases_short zero = inl (omega arith)
        cases_short (suc zero) = inl (omega arith)
        cases_short (suc (suc n)) = inr (omega arith)

-- where nothing is true two literals are free
pub two_free : (w : WatchState) (kept : Clause) → w.trail ≡ [] → HasOnce kept → 2 ≤ length kept →
    HasTwoFree w.trail kept
two_free w [] none once long = absurd (omega (arith, long))
two_free w (a ∷ []) none once long = absurd (omega (arith, long))
two_free w (a ∷ b ∷ ls) none once long = (
  a,
  b,
  (zero, omega arith, refl),
  (suc zero, omega arith, refl),
  (λ same. once 0 1 a (omega arith) (omega arith) (ap variable same)),
  rw none refl,
  rw none refl,
)

-- ONE MORE CLAUSE OF THE FORMULA

-- the different literals of a clause of the formula are simple
pub simple_of : {formula : Cnf} {picks : ℕ → Clause → Bool} {s : ClauseListState} {w : WatchState}
    (lits clause : Clause) → HasTaken formula picks s w → All (IsWithin formula.vars) clause →
    SameLiterals lits clause → HasOnce lits → IsSimple w.vars lits
simple_of {formula} lits clause taken within same once = record {
  within = rw taken.vars (All-weaker (Contains clause) (IsWithin formula.vars)
      (λ l has. All-contains (IsWithin formula.vars) clause l within has) lits same.0);
  once = once;
}

-- picks that tell the same of each clause of the formula
pub taken_alike : (formula : Cnf) (picks more : ℕ → Clause → Bool) (s : ClauseListState)
    (w : WatchState) →
    ((k : ℕ) (c : Clause) → slice_get formula.clauses k ≡ Some c → more k c ≡ picks k c) →
    HasTaken formula picks s w → HasTaken formula more s w
taken_alike formula picks more s w same taken = record {
  store = taken.store;
  vars = taken.vars;
  none_true = taken.none_true;
  live = taken.live;
  kept = taken.kept;
  tells = λ k. taken.tells k ∙ by k (slice_get formula.clauses k) refl;
  none_zero = taken.none_zero;
}
  where
    by : (k : ℕ) (o : Option Clause) → slice_get formula.clauses k ≡ o →
        picked (picks k) o ≡ picked (more k) o
    by k None at = refl
    by k (Some c) at = rw (same k c at) refl

module _ {formula : Cnf} {picks : ℕ → Clause → Bool} {s : ClauseListState} {w : WatchState}
    {c : Clause} (more : ℕ → Clause → Bool) (k : ℕ)
    (at : slice_get formula.clauses k ≡ Some c) (not_yet : picks k c ≡ false)
    (others : (j : ℕ) (d : Clause) → j ≢ k → more j d ≡ picks j d) (now : more k c ≡ true)
    (taken : HasTaken formula picks s w) where
  not_live : clause_at taken.live (suc k) ≡ None
  not_live = taken.tells k ∙ ap (picked (picks k)) at ∙ rw not_yet refl

  -- nor is one kept under the id
  pub not_kept : clause_at (s.clauses ++ live_of w.clauses) (suc k) ≡ None
  not_kept = by (clause_at (s.clauses ++ live_of w.clauses) (suc k)) refl
    where
      by : (o : Option Clause) → clause_at (s.clauses ++ live_of w.clauses) (suc k) ≡ o → o ≡ None
      by None is = refl
      by (Some x) is =
          let d = taken.kept.are_live (suc k) x is in
          let bad : None ≡ Some d.0 = sym not_live ∙ d.1 in
          cc

  more_tells : (j : ℕ) →
      clause_at (put taken.live (suc k) c) (suc j) ≡ picked (more j) (slice_get formula.clauses j)
  more_tells j =
      elim (cases_eq j k) [
        | inl same ↦
            rw (same, eq-eqb (suc k) (suc k) refl, at, now) refl
        | inr other ↦
            rw (ne_eqb (suc j) (suc k) (omega (arith, other)))
            (taken.tells j ∙ by (slice_get formula.clauses j) other)
      ]
    where
      by : (o : Option Clause) → j ≢ k → picked (picks j) o ≡ picked (more j) o
      by None other = refl
      by (Some d) other = rw (others j d other) refl

  pub taken_more : {now_s : ClauseListState} {now_w : WatchState} {lits : Clause} →
      length s.clauses < length formula.clauses → SameLiterals lits c → IsSimple w.vars lits →
      Keeps s now_s w now_w lits (suc k) → HasTaken formula more now_s now_w
  taken_more {now_s} {now_w} {lits} few same simple keeps =
      let within = slice_get_within formula.clauses k c at in
      let one = one_more (length formula.clauses) s w lits (suc k) taken.store taken.none_true
      (omega arith) (omega (arith, within)) not_kept simple now_s now_w few
      (λ long. two_free w lits taken.none_true simple.once long) keeps in
      record {
        store = one.store;
        vars = one.vars ∙ taken.vars;
        none_true = one.trail ∙ taken.none_true;
        live = put taken.live (suc k) c;
        kept = kept_alike (put (s.clauses ++ live_of w.clauses) (suc k) one.order)
            (now_s.clauses ++ live_of now_w.clauses) (put taken.live (suc k) c)
            (put taken.live (suc k) c) one.alike (λ n. refl)
            (kept_put (s.clauses ++ live_of w.clauses) taken.live (suc k) one.order c taken.kept
            (same_then one.order lits c one.same same) one.once);
        tells = more_tells;
        none_zero = rw (ne_eqb 0 (suc k) (omega arith)) taken.none_zero;
      }

  -- one that is always true is left out
  pub taken_skip : is_always_true c ≡ true → HasTaken formula more s w
  taken_skip always = record {
    store = taken.store;
    vars = taken.vars;
    none_true = taken.none_true;
    live = put taken.live (suc k) c;
    kept = kept_skip (s.clauses ++ live_of w.clauses) taken.live (suc k) c taken.kept not_kept
        always;
    tells = more_tells;
    none_zero = rw (ne_eqb 0 (suc k) (omega arith)) taken.none_zero;
  }

  pub may_keep : {lits : Clause} → length s.clauses < length formula.clauses →
      IsSimple w.vars lits → MayKeep s w lits (suc k)
  may_keep few simple = record {
    simple = simple;
    none_true = taken.none_true;
    quiet = taken.store.none_pending;
    same_vars = taken.store.same_vars;
    few_vars = rw taken.store.same_vars taken.store.few_vars;
    few = let most = taken.store.few_ids in omega (arith, few, most);
    new = by (clause_at s.clauses (suc k)) refl;
  }
    where
      by : (o : Option Clause) → clause_at s.clauses (suc k) ≡ o → o ≡ None
      by None is = refl
      by (Some x) is =
          let bad : None ≡ Some x = sym not_kept ∙ single_found s.clauses w.clauses (suc k) x is in
          cc

-- AT THE START AND AT THE END

pub taken_none : (formula : Cnf) (picks : ℕ → Clause → Bool) (w : WatchState) →
    ((k : ℕ) (c : Clause) → picks k c ≡ false) → length formula.clauses ≤ 4294967295 →
    formula.vars ≤ 100000000 → w ≡ record {
      vars = formula.vars;
      clauses = [];
      trail = [];
      queued = 0;
      level = 0;
      pending = None;
    } → HasTaken formula picks (no_singles formula) w
taken_none formula picks w none few few_vars is = rw is (record {
  store = record {
    few_ids = omega (arith, few);
    few = omega arith;
    few_vars = few_vars;
    same_vars = refl;
    below = λ n c at. cc;
    few_taken = omega arith;
    once = λ n x at. cc;
    keeps = record {
      stand = tt;
      ids = λ c d c_is d_is alone one. absurd (both_ways false refl c_is);
      agree = λ c x c_is at. absurd (both_ways false refl c_is);
      simple = λ c c_is. absurd (both_ways false refl c_is);
    };
    taken_are = λ k n x lt at. absurd (omega (arith, lt));
    waiting = inr refl;
    leveled = record { levels = tt; current = refl };
    none_pending = refl;
  };
  vars = refl;
  none_true = refl;
  live = [];
  kept = kept_nil;
  tells = λ k. by k (slice_get formula.clauses k);
  none_zero = refl;
})
  where
    by : (k : ℕ) (o : Option Clause) → ◌≡◌ {A = Option Clause} None (picked (picks k) o)
    by k None = refl
    by k (Some c) = rw (none k c) refl

pub taken_all : (formula : Cnf) (picks : ℕ → Clause → Bool) (s : ClauseListState)
    (w : WatchState) →
    ((k : ℕ) (c : Clause) → slice_get formula.clauses k ≡ Some c → picks k c ≡ true) →
    HasTaken formula picks s w →
    StandsFor (search_value (length formula.clauses) 0 s w) formula []
taken_all formula picks s w all taken = record {
  vars = taken.vars;
  inputs = refl;
  added = refl;
  clauses = kept_alike (s.clauses ++ live_of w.clauses) (s.clauses ++ live_of w.clauses)
      taken.live (inputs formula) (λ n. refl) same taken.kept;
}
  where
    by : (k : ℕ) (o : Option Clause) → slice_get formula.clauses k ≡ o → picked (picks k) o ≡ o
    by k None at = refl
    by k (Some c) at = rw (all k c at) refl

    same : SameLive taken.live (inputs formula)
    same zero = taken.none_zero ∙ sym (inputs_none formula)
    same (suc k) =
        taken.tells k ∙ by k (slice_get formula.clauses k) refl ∙ sym (inputs_at formula k)

-- a clause that is attached is kept
pub keeps_attached : (s : ClauseListState) (w now : WatchState) (lits : Clause) (id : ℕ)
    (c : ClauseRef) → 2 ≤ length lits → Attaches w now lits id c → Keeps s s w now lits id
keeps_attached s w now lits id c long does = record {
  short = λ few. absurd (omega (arith, few, long));
  long = λ _. (refl, (c, does));
}

-- PAIRS FIRST

below_next : (j n : ℕ) → j ≢ n → nat_lt j (suc n) ≡ nat_lt j n
below_next j n other = grind (arith, nat_tests)

pub pairs_next : (n j : ℕ) (d : Clause) → j ≢ n → pairs_below (suc n) j d ≡ pairs_below n j d
pairs_next n j d other = rw (below_next j n other) refl

pub others_next : (n j : ℕ) (d : Clause) → j ≢ n →
    pairs_and_below (suc n) j d ≡ pairs_and_below n j d
others_next n j d other = rw (below_next j n other) refl

below_none : (k : ℕ) → nat_lt k 0 ≡ false
below_none k = grind (arith, nat_tests)

below_here : (n : ℕ) → nat_lt n (suc n) ≡ true
below_here n = grind (arith, nat_tests)

below_itself : (n : ℕ) → nat_lt n n ≡ false
below_itself n = grind (arith, nat_tests)

pub pairs_none : (k : ℕ) (c : Clause) → pairs_below 0 k c ≡ false
pairs_none k c = rw (below_none k) refl

-- a pair at the next position is not yet picked, and then it is
pub pair_not_yet : (n : ℕ) (c : Clause) → pairs_below n n c ≡ false
pair_not_yet n c = rw (below_itself n) refl

pub pair_now : (n : ℕ) (c : Clause) → is_pair c ≡ true → pairs_below (suc n) n c ≡ true
pair_now n c is = rw (below_here n, is) refl

-- what is no pair is passed over
pub pairs_pass : (formula : Cnf) (n : ℕ) (c : Clause) → slice_get formula.clauses n ≡ Some c →
    is_pair c ≡ false → (s : ClauseListState) (w : WatchState) →
    HasTaken formula (pairs_below n) s w → HasTaken formula (pairs_below (suc n)) s w
pairs_pass formula n c at is s w taken =
    taken_alike formula (pairs_below n) (pairs_below (suc n)) s w
    (λ k d k_at. elim (cases_eq k n) [
      | inl same ↦
          let one : d ≡ c = some_is (sym k_at ∙ ap (slice_get formula.clauses) same ∙ at) in
          rw (one, same, below_here n, below_itself n, is) refl
      | inr other ↦ pairs_next n k d other
    ]) taken

-- all pairs are picked
pub pairs_all : (formula : Cnf) (s : ClauseListState) (w : WatchState) →
    HasTaken formula (pairs_below (length formula.clauses)) s w →
    HasTaken formula (pairs_and_below 0) s w
pairs_all formula s w taken =
    taken_alike formula (pairs_below (length formula.clauses)) (pairs_and_below 0) s w
    (λ k c at.
    let within = slice_get_within formula.clauses k c at in
    rw (lt-ltb k (length formula.clauses) within, below_none k) (by (is_pair c))) taken
  where
    by : (b : Bool) → (b || false) ≡ b
    by true = refl
    by false = refl

-- another is not yet picked, and then it is
pub other_not_yet : (n : ℕ) (c : Clause) → is_pair c ≡ false → pairs_and_below n n c ≡ false
other_not_yet n c is = rw (is, below_itself n) refl

pub other_now : (n : ℕ) (c : Clause) → is_pair c ≡ false → pairs_and_below (suc n) n c ≡ true
other_now n c is = rw (is, below_here n) refl

pub all_picked : (formula : Cnf) (k : ℕ) (c : Clause) → slice_get formula.clauses k ≡ Some c →
    pairs_and_below (length formula.clauses) k c ≡ true
all_picked formula k c at =
    let within = slice_get_within formula.clauses k c at in
    rw (lt-ltb k (length formula.clauses) within) (by (is_pair c))
  where
    by : (b : Bool) → (b || true) ≡ true
    by true = refl
    by false = refl

-- two different literals are a pair, or always true
pub two_always : (c : Clause) (d e : Lit) → length c ≡ 2 → get_or c 0 d ≢ get_or c 1 e →
    is_pair c ≡ false → is_always_true c ≡ true
two_always [] d e two other is = absurd (omega (arith, two))
two_always (a ∷ []) d e two other is = absurd (omega (arith, two))
two_always (a ∷ b ∷ x ∷ rest) d e two other is = absurd (omega (arith, two))
two_always (a ∷ b ∷ []) d e two other is =
    let same = eqb-true (variable a) (variable b) (not_false (variable a == variable b) is) in
    elim (same_variable a b same) [
      | inl one ↦ absurd (other one)
      | inr negated ↦
          list_any-from_Any (λ (l : Lit). is_among (a ∷ b ∷ []) (negation l)) (a ∷ b ∷ []) (
            1,
            b,
            omega arith,
            refl,
            contains_among (a ∷ b ∷ []) (negation b) (0, omega arith, negated),
          )
    ]
  where
    not_false : (t : Bool) → not t ≡ false → t ≡ true
    not_false true e = refl
    not_false false e = cc

-- what is not two different literals is no pair
pub not_two : (c : Clause) → length c ≢ 2 → is_pair c ≡ false
not_two [] other = refl
not_two (a ∷ []) other = refl
not_two (a ∷ b ∷ []) other = absurd (other refl)
not_two (a ∷ b ∷ c ∷ rest) other = refl

pub twice_no_pair : (c : Clause) (d e : Lit) → get_or c 0 d ≡ get_or c 1 e → is_pair c ≡ false
twice_no_pair [] d e same = refl
twice_no_pair (a ∷ []) d e same = refl
twice_no_pair (a ∷ b ∷ []) d e same =
    ap not (eq-eqb (variable a) (variable b) (ap variable same))
twice_no_pair (a ∷ b ∷ c ∷ rest) d e same = refl

-- a pair is there already, and what is always true is left out
pub others_pass : (formula : Cnf) (n : ℕ) (c : Clause) → slice_get formula.clauses n ≡ Some c →
    (is_pair c ≡ false → is_always_true c ≡ true) → (s : ClauseListState) (w : WatchState) →
    HasTaken formula (pairs_and_below n) s w → HasTaken formula (pairs_and_below (suc n)) s w
others_pass formula n c at always s w taken = by (is_pair c) refl where
  by : (b : Bool) → is_pair c ≡ b → HasTaken formula (pairs_and_below (suc n)) s w
  by true is =
      taken_alike formula (pairs_and_below n) (pairs_and_below (suc n)) s w
      (λ k d k_at. elim (cases_eq k n) [
        | inl same ↦
            let one : d ≡ c = some_is (sym k_at ∙ ap (slice_get formula.clauses) same ∙ at) in
            rw (one, is) refl
        | inr other ↦ others_next n k d other
      ]) taken
  by false is =
      taken_skip (pairs_and_below (suc n)) n at (other_not_yet n c is) (others_next n)
      (other_now n c is) taken (always is)

-- a pair has no variable twice
pub pair_once : (c : Clause) → is_pair c ≡ true → HasOnce c
pair_once [] is = cc
pair_once (a ∷ []) is = cc
pair_once (a ∷ b ∷ c ∷ rest) is = cc
pair_once (a ∷ b ∷ []) is = λ i j d below within same. by i j d below within same
  where
    by : (i j : ℕ) (d : Lit) → i < j → j < 2 →
        variable (get_or (a ∷ b ∷ []) i d) ≡ variable (get_or (a ∷ b ∷ []) j d) → ⊥
    by zero zero d below within same = omega (arith, below)
    by zero (suc zero) d below within same =
        let one : not (variable a == variable b) ≡ false =
        ap not (eq-eqb (variable a) (variable b) same) in
        both_ways (not (variable a == variable b)) one is
    by zero (suc (suc j)) d below within same = omega (arith, within)
    by (suc i) j d below within same = omega (arith, below, within)

pub pair_long : (c : Clause) → is_pair c ≡ true → 2 ≤ length c
pair_long [] is = cc
pair_long (a ∷ []) is = cc
pair_long (a ∷ b ∷ []) is = omega arith
pair_long (a ∷ b ∷ c ∷ rest) is = cc
