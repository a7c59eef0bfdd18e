-- The way back to learn a clause, and what one more clause makes of a search.
use Rattle.std.specs.Prelude.{max, nat_le, unwrap_or}
use Rattle.std.proofs.Common.{inl, inr, ◌≡◌, ◌≢◌, ◌<◌, ◌≤◌, ◌+◌, ◌-◌, ℕ, zero, suc, add-one, ℤ, true, List, [], ◌∷◌, ◌++◌, length, Option, None, Some, slice_get, get_or, Contains, refl, sym, ap, ◌∙◌, subst, arith}
use Rattle.std.proofs.Math.Nat.{le-max_left, le-max_right}
use Rattle.std.proofs.lemmas.Bool.{cases_eq, le-leb, lt-ltb}
use Rattle.std.proofs.lemmas.List.{length-append}
use Rattle.std.proofs.lemmas.Option.{slice_get-get_or, slice_get_within}
use Rattle.list_laws.proofs.Places.{get-cases, some_is}
use Rattle.std.proofs.lemmas.List.Elements.{All-contains, All-contains_itself, All-filter}
use Rattle.sat_clause.specs.declared.literal.Lit.{Lit}
use Rattle.sat_clause.specs.Learned.{IsSimple}
use Rattle.sat_clause.specs.Literal.{Clause, IsWithin, is_among, negation, variable}
use Rattle.sat_clause.specs.Live.{clause_at, put}
use Rattle.sat_clause.specs.Trail.{IsOpen as IsOpenOn}
use Rattle.sat_clause.proofs.LiteralLaws.{negation-negation}
use Rattle.sat_clause.proofs.ReadingLaws.{IsFalseOr}
use Rattle.sat_clause.proofs.TrailLaws.{open_not_false, open_not_true}
use Rattle.sat_arena.specs.declared.clause_ref.ClauseRef.{ClauseRef}
use Rattle.sat_order.specs.Order.{OrderState}
use Rattle.sat_watch.specs.declared.entry.TrailEntry.{TrailEntry}
use Rattle.sat_watch.specs.Levels.{upto}
use Rattle.sat_watch.specs.Trail.{lits_of as watch_lits}
use Rattle.sat_watch.specs.Watched.{IsReason, is_false, true_at}
use Rattle.sat_watch.specs.Watches.{Attached, Attaches, HasCause, HasLevels, HasOneOpen, MayAttach, WatchState, gone_back, highest, implied, is_attached, lits_at}
use Rattle.sat_watch.proofs.LevelLemmas.{true_level}
use Rattle.sat_core.specs.ClauseList.{ClauseListState}
use Rattle.sat_core.specs.Levels.{Assigned, IsAsserting, level_of, lits_of, made_false, up_to}
use Rattle.sat_core.specs.Ranking.{IsRanked}
use Rattle.sat_core.specs.SearchStore.{EndsAsserting, IsLearnedClause, IsLeveled, IsSearchStore, Learns, SameKept, assigned, assigned_in, live_of, search_value}
use Rattle.sat_core.specs.Stands.{SearchValue}
use Rattle.sat_core.proofs.AttachLaws.{contains_assigned, implied_pending, now_attached, now_clauses, now_leveled, now_reason, now_trail, now_vars, true_entry, true_none}
use Rattle.sat_core.proofs.AttachedLaws.{same_permuted, simple_permuted}
use Rattle.sat_core.proofs.DecideLaws.{leveled_implied, value_stays}
use Rattle.sat_core.proofs.LearnedLaws.{all_false_or, first_is_open}
use Rattle.sat_core.proofs.LevelLaws.{in_made_false, none_above, only_entry}
use Rattle.sat_core.proofs.RankingLaws.{ranked_more}
use Rattle.sat_core.proofs.SameLaws.{same_back}
use Rattle.sat_core.proofs.SearchLaws.{attached_alike, kept_lower, lower_leveled, store_attached, store_lower}
use Rattle.sat_core.proofs.WatchLaws.{falses_in, lits_in, up_to_in}

-- THE HIGHEST LEVEL

max_le : (a b n : ℕ) → a ≤ n → b ≤ n → max a b ≤ n
max_le a b n la lb = omega arith

highest_most : (trail : List TrailEntry) (lits : Clause) (n : ℕ) →
    ((l : Lit) → Contains lits l → unwrap_or (true_at trail (negation l)) 0 ≤ n)
    → highest trail lits ≤ n
highest_most trail [] n all = omega arith
highest_most trail (l ∷ ls) n all =
    max_le (unwrap_or (true_at trail (negation l)) 0) (highest trail ls) n (all l
    (zero, omega arith, refl))
    (highest_most trail ls n (λ m has. all m (suc has.0, omega (arith, has.1), has.2)))

highest_least : (trail : List TrailEntry) (lits : Clause) (l : Lit) → Contains lits l
    → unwrap_or (true_at trail (negation l)) 0 ≤ highest trail lits
highest_least trail [] l (k, within, is) = absurd (omega (arith, within))
highest_least trail (x ∷ xs) l (zero, within, is) =
    let same : x ≡ l = is in
    subst (λ (m : Lit). unwrap_or (true_at trail (negation m)) 0 ≤ highest trail (x ∷ xs)) same
    (le-max_left (unwrap_or (true_at trail (negation x)) 0) (highest trail xs))
highest_least trail (x ∷ xs) l (suc k, within, is) =
    let rest = highest_least trail xs l (k, omega (arith, within), is) in
    let up = le-max_right (unwrap_or (true_at trail (negation x)) 0) (highest trail xs) in
    omega (arith, rest, up)

-- THE LAST LITERAL

pub last_literal : (xs front : Clause) (first l : Lit) → xs ≡ front ++ first ∷ []
    → slice_get xs (length xs - 1) ≡ Some l → l ≡ first
last_literal xs front first l is at =
    let there = subst (λ (ys : Clause). slice_get ys (length ys - 1) ≡ Some l) is at in
    elim (get-cases front first l (length (front ++ first ∷ []) - 1) there) [
      | inl last ↦ sym last.1
      | inr earlier ↦
          let within = slice_get_within front (length (front ++ first ∷ []) - 1) l earlier in
          absurd (omega (arith, within, length-append front (first ∷ [])))
    ]

pub has_last : (xs : Clause) → xs ≢ [] → slice_get xs (length xs - 1) ≢ None
has_last [] some none = some refl
has_last (x ∷ xs) some none =
    let at = slice_get-get_or (x ∷ xs) (length (x ∷ xs) - 1) x (omega arith) in
    let bad : None ≡ Some (get_or (x ∷ xs) (length (x ∷ xs) - 1) x) = sym none ∙ at in cc

-- THE WAY BACK

-- a clause is learned: it went back, and attaches the clause
module _ {i a t back : ℕ} {s : ClauseListState} {w after : WatchState} {value : SearchValue}
    {clause : Clause} {hints : List ℤ} (store : IsSearchStore i a t s w)
    (view : search_value i a s w ≡ value) (known : IsLearnedClause value clause hints back)
    (some : clause ≢ []) (goes : after ≡ gone_back back w) where
  learned : IsLearnedClause (search_value i a s w) clause hints back
  learned = subst (λ (v : SearchValue). IsLearnedClause v clause hints back) (sym view) known

  abbrev entries : List Assigned
  entries = assigned_in w.clauses w.trail

  abbrev gone : WatchState
  gone = record w { trail = upto back w.trail; queued = 0; level = back; pending = None }

  begun : 1 ≤ level_of entries
  begun = elim (cases_eq (level_of entries) 0) [
    | inl none ↦ absurd (some (learned.none none))
    | inr other ↦ omega (arith, other)
  ]

  ending : EndsAsserting entries back clause
  ending = learned.asserts begun

  abbrev first : Lit
  first = ending.1

  asserts : IsAsserting entries (level_of entries) back first clause
  asserts = ending.3

  back_below : back < w.level
  back_below = let below = asserts.below in omega (arith, below, store.leveled.current)

  after_is : after ≡ gone
  after_is = goes ∙ rw (lt-ltb back w.level back_below) refl

  gone_trail : up_to back entries ≡ assigned_in w.clauses gone.trail
  gone_trail = up_to_in w.clauses back w.trail

  gone_leveled : IsLeveled gone
  gone_leveled = lower_leveled back store (omega (arith, back_below))

  all_taken : t ≡ length s.clauses
  all_taken = elim store.waiting [
    | inl all ↦ all
    | inr low ↦ absurd (omega
        (arith, low, back_below))
  ]

  store_gone : IsSearchStore i a t s gone
  store_gone = store_lower back store (omega (arith, back_below)) (inl all_taken)

  pub store_back : IsSearchStore i a t s after
  store_back = subst (IsSearchStore i a t s) (sym after_is) store_gone

  pub vars_back : after.vars ≡ w.vars
  vars_back = ap (λ (x : WatchState). x.vars) after_is

  pub kept_back : SameKept value (search_value i a s after)
  kept_back =
      subst (λ (v : SearchValue). SameKept v (search_value i a s after)) view
      (subst (λ (x : WatchState). SameKept (search_value i a s w) (search_value i a s x))
      (sym after_is) (kept_lower back store (omega (arith, back_below))))

  first_open : IsOpenOn (watch_lits gone.trail) first
  first_open =
      subst (λ (ls : List Lit). IsOpenOn ls first) (ap lits_of gone_trail
      ∙ lits_in w.clauses gone.trail)
      (first_is_open (s.clauses ++ live_of w.clauses) w.vars entries back first clause learned.trail
      asserts)

  abbrev set_gone : List Lit
  set_gone = made_false (up_to back entries)

  falses_gone : (m : Lit) → is_among set_gone m ≡ true → is_false gone.trail m ≡ true
  falses_gone m is =
      subst (λ (set : List Lit). is_among set m
      ≡ true) (ap made_false gone_trail ∙ falses_in w.clauses gone.trail) is

  others_false : (m : Lit) → Contains clause m → m ≢ first → is_false gone.trail m ≡ true
  others_false m has other =
      elim (All-contains (IsFalseOr set_gone first) clause m
      (all_false_or (s.clauses ++ live_of w.clauses) entries
      (level_of entries) back first clause learned.trail.once asserts back (omega arith)) has) [
        | inl is ↦ falses_gone m is
        | inr same ↦ absurd (other same)
      ]

  levels_low : (x : Lit) (n : ℕ) → true_at gone.trail x ≡ Some n → n ≤ back
  levels_low x n is =
      let e = true_entry gone.trail x n is in
      let low = All-contains (λ (y : Assigned). y.level ≤ level_of
      (assigned_in w.clauses gone.trail)) (assigned_in w.clauses gone.trail)
      (assigned w.clauses e.0)
      (none_above (assigned_in w.clauses gone.trail) gone_leveled.levels)
      (contains_assigned w.clauses gone.trail e.0 e.1) in
      omega (arith, low, gone_leveled.current, e.3)

  level_low : (x : Lit) → unwrap_or (true_at gone.trail x) 0 ≤ back
  level_low x = by (true_at gone.trail x) refl
    where
      by : (o : Option ℕ) → true_at gone.trail x ≡ o → unwrap_or o 0 ≤ back
      by None is = omega arith
      by (Some n) is = levels_low x n is

  highest_some : 1 ≤ back → back ≤ highest gone.trail clause
  highest_some one =
      let high = asserts.highest one in
      let l : Lit = high.0 in
      let f : Assigned = high.2.0 in
      let level : f.level ≡ back = high.2.3 in
      let under : nat_le f.level back ≡ true = le-leb f.level back (omega (arith, level)) in
      let is : is_among set_gone l ≡ true = subst (λ (x : Lit). is_among set_gone x
      ≡ true) high.2.2 (in_made_false back entries f high.2.1 under) in
      let there : is_false gone.trail (negation (negation l)) ≡ true =
      subst (λ (x : Lit). is_false gone.trail x
      ≡ true) (sym (negation-negation l)) (falses_gone l is) in
      let at = true_level gone.trail (negation l) there in
      let e = true_entry gone.trail (negation l) at.0 at.1 in
      let e_in : Contains (up_to back entries) (assigned w.clauses e.0) =
      subst (λ (es : List Assigned). Contains es (assigned w.clauses e.0)) (sym gone_trail)
      (contains_assigned w.clauses gone.trail e.0 e.1) in
      let e_all : Contains entries (assigned w.clauses e.0) =
      All-contains (Contains entries) (up_to back entries) (assigned w.clauses e.0)
      (All-filter (λ (x : Assigned). nat_le x.level back) (Contains entries) entries
      (All-contains_itself entries)) e_in in
      let lit_is : (e.0).lit ≡ f.lit = e.2 ∙ ap negation (sym high.2.2) ∙ negation-negation f.lit in
      let one_entry : assigned w.clauses e.0 ≡ f =
      only_entry entries learned.trail.once (assigned w.clauses e.0) f e_all high.2.1
      (ap variable lit_is) in
      let n_is : at.0 ≡ back = sym e.3 ∙ ap (λ (x : Assigned). x.level) one_entry ∙ level in
      let most = highest_least gone.trail clause l high.1 in
      let value : unwrap_or (true_at gone.trail (negation l)) 0 ≡ at.0 =
      ap (λ (o : Option ℕ). unwrap_or o 0) at.1 in
      omega (arith, n_is, most, value)

  highest_back : back ≡ highest gone.trail clause
  highest_back =
      let most = highest_most gone.trail clause back (λ l has. level_low (negation l)) in
      elim (cases_eq back 0) [
        | inl none ↦ omega (arith, most, none)
        | inr other ↦ let least = highest_some (omega (arith, other)) in omega (arith, most, least)
      ]

  one_open : HasOneOpen gone.trail gone.level clause
  one_open = (
    first,
    (asserts.has, open_not_false (watch_lits gone.trail) first first_open, others_false),
    true_none gone.trail first (open_not_true (watch_lits gone.trail) first first_open),
    highest_back,
  )

  pub learn_may : MayAttach after clause
  learn_may = rw after_is (inr (inr one_open))

  pub learn_simple : IsSimple after.vars clause
  learn_simple = rw vars_back learned.simple

  -- WITH THE CLAUSE

  module _ {now : WatchState} {id : ℕ} {c : ClauseRef} {l : Lit}
      (attaches : Attaches after now clause id c) (next : id ≡ suc (i + a))
      (last : slice_get clause (length clause - 1) ≡ Some l) where
    does : Attaches gone now clause id c
    does = subst (λ (x : WatchState). Attaches x now clause id c) after_is attaches

    l_is : l ≡ first
    l_is = last_literal clause ending.0 first l ending.2 last

    pub learn_inside : IsWithin now.vars l
    learn_inside =
        let has : Contains clause first = asserts.has in
        rw (now_vars does store.keeps.stand, l_is)
        (All-contains (IsWithin w.vars) clause first learned.simple.within has)

    pub learn_open : IsOpenOn (watch_lits now.trail) l
    learn_open = rw (now_trail does store.keeps.stand, l_is) first_open

    pub learn_attached : is_attached now.clauses c ≡ true
    learn_attached = now_attached does store.keeps.stand

    pub learn_reason : IsReason now.trail (lits_at now.clauses c) l
    learn_reason =
        now_reason does store.keeps.stand l (record {
          has = rw l_is asserts.has;
          others = rw l_is
              others_false;
        })

    pub store_learned : suc (i + a) ≤ 4294967295 → IsSearchStore i (a + 1) t s (implied l c now)
    store_learned few =
        rw add-one (store_attached does.order c does.same does.place store_gone next learned.simple
        (implied l c now) (omega (arith, few)) (now_clauses does store.keeps.stand)
        (now_vars does store.keeps.stand) (inl all_taken)
        (leveled_implied now l c (now_leveled does store.keeps.stand gone_leveled))
        (implied_pending now l c (does.pending one_open)))

    pub ranked_learned : {order : OrderState} → IsRanked after.vars after.trail order →
        IsRanked now.vars (implied l c now).trail order
    ranked_learned {order} ranked =
        let e : TrailEntry = record { lit = l; level = now.level; reason = Some c } in
        rw (now_vars does store.keeps.stand)
        (ranked_more (e ∷ now.trail) (λ l some. value_stays (e ∷ [])
        now.trail l (rw (now_trail does store.keeps.stand) some))
        (subst (λ (x : WatchState). IsRanked x.vars x.trail order) after_is ranked))

    pub learns : Learns value (search_value i (a + 1) s (implied l c now)) clause
    learns = rw (← view, add-one) (record {
      vars = now_vars does store.keeps.stand;
      inputs = refl;
      added = refl;
      order = does.order;
      same = same_back clause does.order (same_permuted clause does.order does.same);
      once = (simple_permuted w.vars clause does.order does.same learned.simple).once;
      clauses = λ n.
          ap (λ (j : ℕ). clause_at (put (s.clauses ++ live_of w.clauses) j does.order) n) (sym next)
          ∙ attached_alike does.order c does.same does.place store_gone next learned.simple n
          ∙ ap (λ (ks : List Attached). clause_at (s.clauses ++ live_of ks) n) (sym
          (now_clauses does store.keeps.stand));
    })

-- REASONS

-- an entry's reason is attached
pub reason_attached : (ks : List Attached) (level : ℕ) (trail : List TrailEntry) (e : TrailEntry)
    (c : ClauseRef) → HasLevels ks level trail → Contains trail e →
    e.reason ≡ Some c → is_attached ks c ≡ true
reason_attached ks level [] e c levels (k, within, is) some = absurd (omega (arith, within))
reason_attached ks level (x ∷ older) e c levels (zero, within, is) some =
    let same : x ≡ e = is in
    by x.reason (ap (λ (y : TrailEntry). y.reason) same ∙ some) levels.1
  where
    by : (r : Option ClauseRef) → r ≡ Some c
        → HasCause ks level x.lit older r (λ n. HasLevels ks n older) → is_attached ks c ≡ true
    by None is cause = cc
    by (Some r) is cause = subst (λ (d : ClauseRef). is_attached ks d ≡ true) (some_is is) cause.0
reason_attached ks level (x ∷ older) e c levels (suc k, within, is) some =
    by x.reason levels.1 (λ n rest. reason_attached ks n older e c rest (
      k,
      omega
          (arith, within),
      is,
    ) some)
  where
    by : (r : Option ClauseRef) → HasCause ks level x.lit older r (λ n. HasLevels ks n older)
        → ((n : ℕ) → HasLevels ks n older → is_attached ks c ≡ true) → is_attached ks c ≡ true
    by None cause deeper = deeper cause.0 cause.2
    by (Some r) cause deeper = deeper level cause.2
