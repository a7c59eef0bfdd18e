-- A walk along a chain: where it begins, goes on and ends.
use Rattle.std.proofs.Common.{◌≡◌, ◌≢◌, ℕ, suc, ◌+◌, ◌^◌, ◌<◌, ◌≤◌, Bool, true, false, inl, inr, List, [], ◌∷◌, ◌++◌, length, Option, None, Some, All, refl, sym, ap, ◌∙◌, subst, arith, length-append}
use Rattle.std.proofs.lemmas.List.{append-nil}
use Rattle.sat_clause.specs.declared.literal.Lit.{Lit}
use Rattle.sat_clause.specs.Literal.{Clause, IsWithin, is_among, negation}
use Rattle.sat_arena.specs.declared.clause_ref.ClauseRef.{ClauseRef}
use Rattle.sat_arena.specs.Store.{Stored, is_held, stored_at}
use Rattle.sat_watch.specs.declared.entry.TrailEntry.{TrailEntry}
use Rattle.sat_watch.specs.declared.place.Place.{Place}
use Rattle.sat_watch.specs.Chains.{ChainsState, GoesOn, HasCursor, IsChained, IsCursor, head_of, holders, is_in, is_watched, next_by, next_on, watch_of, watchers}
use Rattle.sat_watch.specs.Tails.{IsTail}
use Rattle.sat_watch.specs.Watched.{Goes, IsVisited, IsWalking, OtherIsTrue, chain_length, is_false}
use Rattle.sat_watch.proofs.GoesLemmas.{counted_most, few_passing, few_refs, goes_trans, grows_true, rest_length}
use Rattle.sat_watch.proofs.PathLemmas.{at_end, at_first, in_both, once_before, path_goes_on}
use Rattle.sat_arena.proofs.StoreLaws.{not_held}
use Rattle.sat_watch.proofs.StoredLemmas.{next_is_held}
use Rattle.sat_watch.proofs.TailLemmas.{pair_true, tail_all, tail_length, tail_rest}
use Rattle.sat_watch.proofs.VisitLemmas.{goes_same, grows_refl}
use Rattle.sat_watch.proofs.WatchLemmas.{lit_tells, own_next, pick}
use Rattle.sat_clause.proofs.LiteralLaws.{among_here, among_more}
use Rattle.sat_watch.proofs.TrailLemmas.{never}

-- a clause in a literal's chain has the literal
next_among : (lits : Clause) (f : Lit) (x y a : Option ClauseRef) → next_by lits f x y ≡ Some a →
    is_among lits f ≡ true
next_among [] f x y a goes = let clash : None ≡ Some a = goes in cc
next_among (l ∷ []) f x y a goes = let clash : None ≡ Some a = goes in cc
next_among (l ∷ m ∷ ls) f x y a goes = elim (lit_tells l f) [
  | inl same ↦ subst (λ z. is_among (l ∷ m ∷ ls) z ≡ true) same.1 (among_here (m ∷ ls) l)
  | inr other ↦ elim (lit_tells m f) [
    | inl same ↦ among_more (m ∷ ls) l f
        (subst (λ z. is_among (m ∷ ls) z ≡ true) same.1 (among_here ls m))
    | inr other' ↦ let none : next_by (l ∷ m ∷ ls) f x y ≡ None = rw (other.0, other'.0) refl in
        let clash : None ≡ Some a = sym none ∙ goes in cc
  ]
]

-- a clause that watches a literal is in its chain
watched_goes : (lits : Clause) (f : Lit) (x y : Option ClauseRef) → is_watched lits f ≡ true →
    (a : Option ClauseRef) × (next_by lits f x y ≡ Some a)
watched_goes [] f x y is = let clash : false ≡ true = is in cc
watched_goes (l ∷ []) f x y is = let clash : false ≡ true = is in cc
watched_goes (l ∷ m ∷ ls) f x y is = elim (lit_tells l f) [
  | inl same ↦ (x, rw same.0 refl)
  | inr other ↦ elim (lit_tells m f) [
    | inl same ↦ (y, rw (other.0, same.0) refl)
    | inr other' ↦
        let none : is_watched (l ∷ m ∷ ls) f ≡ false = rw (other.0, other'.0) refl in
        let clash : false ≡ true = sym none ∙ is in cc
  ]
]

-- a clause that watches a literal is held
watched_held : (ks : List Stored) (c : ClauseRef) (v : ℕ) (f : Lit) →
    watch_of (stored_at ks c).lits v ≡ Some f → is_held ks c ≡ true
watched_held ks c v f at = by_test (is_held ks c) refl where
  by_test : (b : Bool) → is_held ks c ≡ b → is_held ks c ≡ true
  by_test true e = e
  by_test false e =
      let clash : None ≡ Some f =
      sym (ap (λ (k : Stored). watch_of k.lits v) (not_held ks c e)) ∙ at in cc

pub walk_begins : (entries : List TrailEntry) (level : ℕ) (f : Lit) (s : ChainsState) (visits : ℕ)
    (next : Option ClauseRef) →
    IsChained s.vars s.clauses s.heads → IsWithin s.vars f → next ≡ head_of s f →
    IsWalking entries level f s.clauses visits s entries None next visits
walk_begins entries level f s visits next chained within is =
    let chain = chained.chains f within in
    let few = few_refs (λ k. is_among k.lits f) s.clauses chain.refs chain.is.once (λ d there.
    let goes = path_goes_on (next_on s.clauses f) (head_of s f) None chain.refs d
    chain.is.back there in
    let k = stored_at s.clauses d in
    (next_is_held s.clauses f d goes.0 goes.1, next_among k.lits f k.link0 k.link1 goes.0 goes.1))
    in
    record {
      kept = [];
      rest = chain.refs;
      cursor =
          subst (λ o. IsCursor (next_on s.clauses f) (head_of s f) [] chain.refs None o)
          (sym is) chain.is;
      kept_true = λ d there. let clash : false ≡ true = there in cc;
      goes =
          goes_same entries level f s.clauses entries entries (grows_refl s.clauses level entries);
      few = omega (arith, few);
      each = omega arith;
    }

module _ {base : List TrailEntry} {level : ℕ} {f : Lit} {old : List Stored} {start : ℕ}
    {s : ChainsState} {entries : List TrailEntry} {before next : Option ClauseRef} {visits : ℕ}
    (w : IsWalking base level f old start s entries before next visits) where
  module _ {c : ClauseRef} (is : next ≡ Some c) where
    cursor_here : IsCursor (next_on s.clauses f) (head_of s f) w.kept w.rest
        before (Some c)
    cursor_here =
        subst (λ o. IsCursor (next_on s.clauses f) (head_of s f) w.kept w.rest
        before o) is w.cursor

    first : (others : List ClauseRef) × (w.rest ≡ c ∷ others)
    first =
        at_first (next_on s.clauses f) (head_of s f) w.kept w.rest before c
        cursor_here

    cursor_first : IsCursor (next_on s.clauses f) (head_of s f) w.kept (c ∷ first.0)
        before (Some c)
    cursor_first =
        subst (λ l. IsCursor (next_on s.clauses f) (head_of s f) w.kept l before
        (Some c)) first.1 cursor_here

    -- with the visit of this clause they are still few
    pub few_here : visits + 1 ≤ start + holders f old
    few_here =
        let few = w.few in let long : length w.rest ≡ suc (length first.0) = ap length first.1 in
        omega arith

    -- so the counter does not run over
    pub counts_here : length s.clauses < 2 ^ 63 → visits + 1 ≤ start + 2 ^ 63
    counts_here few =
        let least = few_here in let count = w.goes.count in
        let most = counted_most (λ k. is_among k.lits f) old in omega arith

    pub goes_here : GoesOn (next_on s.clauses f c)
    goes_here = let back = cursor_first.back in subst GoesOn (sym back.1.1) tt

    pub has_cursor : (at : Place) → at.clause ≡ c →
        HasCursor (next_on s.clauses f) (head_of s f) before (Some at.clause)
    has_cursor at same = record {
      kept = w.kept;
      rest = c ∷ first.0;
      is =
          subst (λ r. IsCursor (next_on s.clauses f) (head_of s f) w.kept (c ∷ first.0)
          before (Some r)) (sym same) cursor_first;
    }

    module _ {at : Place} {after last : Option ClauseRef} {new : ChainsState}
        {now : List TrailEntry} (same : at.clause ≡ c)
        (visited : IsVisited f before at after s new now last)
        (goes : Goes entries level f s.clauses new.clauses entries now) where
      here : IsCursor (next_on s.clauses f) (head_of s f) w.kept (at.clause ∷ first.0)
          before (Some at.clause)
      here =
          subst (λ r. IsCursor (next_on s.clauses f) (head_of s f) w.kept (r ∷ first.0)
          before (Some r)) (sym same) cursor_first

      pub walks_on : IsWalking base level f old start new now last after (visits + 1)
      walks_on =
          let moved = visited.cursor w.kept first.0 here in
          let few = w.few in let each = w.each in let more = moved.more in
          let long : length w.rest ≡ suc (length first.0) = ap length first.1 in
          record {
            kept = moved.kept_now;
            rest = first.0;
            cursor = moved.is;
            kept_true = λ d there. elim (moved.were d there) [
              | inl was ↦
                  let apart : d ≢ at.clause =
                  λ e. never (is_in w.kept at.clause)
                  (subst (λ r. is_in w.kept r ≡ true) e was)
                  (once_before w.kept at.clause first.0 here.once) in
                  rw (visited.others d apart)
                  (grows_true new.clauses level entries now (stored_at s.clauses d).lits f
                  goes.grows (w.kept_true d was))
              | inr is_true ↦ is_true
            ];
            goes = goes_trans w.goes goes;
            few = omega arith;
            each = omega arith;
          }

      pub walk_shorter : chain_length (length new.clauses) (next_on new.clauses f) after
          < chain_length (length s.clauses) (next_on s.clauses f) next
      walk_shorter =
          let moved = visited.cursor w.kept first.0 here in
          let long : length w.rest ≡ suc (length first.0) = ap length first.1 in
          let was = rest_length s.clauses f (head_of s f) w.kept w.rest before
          next w.cursor in
          let now_is = rest_length new.clauses f (head_of new f) moved.kept_now first.0
          last after moved.is in
          rw (was, now_is, long) (omega arith)

  -- from this place on the chain is a tail, whose other literals are made true
  module _ (os : List Lit) (cs : List ClauseRef) {now : List TrailEntry}
      (tail : IsTail s.clauses f next os cs None)
      (goes : Goes entries level f s.clauses s.clauses entries now) where
    rest_is : w.rest ≡ cs
    rest_is = tail_rest s.clauses f next os cs w.rest tail w.cursor.back

    rest_long : length w.rest ≡ length os
    rest_long = ap length rest_is ∙ tail_length s.clauses f next os cs None tail

    -- with the visits of its clauses they are still few
    pub tail_few : visits + length os ≤ start + holders f old
    tail_few = let few = w.few in let long = rest_long in omega arith

    -- each clause that watches f was counted, or is in the tail
    pub tail_counts : IsChained s.vars s.clauses s.heads →
        start + watchers f s.clauses ≤ visits + length os
    tail_counts chained =
        let each = w.each in let long = rest_long in
        let few = few_passing (λ k. is_watched k.lits f) 0 s.clauses (w.kept ++ w.rest)
        chained.placed
        (λ d held watches. let k = stored_at s.clauses d in
        let on = watched_goes k.lits f k.link0 k.link1 watches in
        w.cursor.whole d on.0 on.1) in
        omega (arith, length-append w.kept w.rest)

    -- the other watched literal of each clause that watches f is true
    pub tail_ends : All (λ o. is_false now (negation o) ≡ true) os →
        IsChained s.vars s.clauses s.heads → (c : ClauseRef) →
        OtherIsTrue now (stored_at s.clauses c).lits f
    tail_ends all chained c = λ v o lt at at_o.
        let k = stored_at s.clauses c in
        let held = watched_held s.clauses c v f at in
        let simple = chained.simple c held in
        let on = own_next s.vars k.lits v f k.link0 k.link1 simple lt at in
        elim (in_both c w.kept w.rest
        (w.cursor.whole c (pick v k.link0 k.link1) on)) [
          | inl kept ↦
              grows_true s.clauses level entries now k.lits f goes.grows (w.kept_true c kept) v o lt
              at at_o
          | inr rest ↦
              let pair = tail_all s.clauses f (λ m. is_false now (negation m) ≡ true) next os cs
              None c tail all (subst (λ l. is_in l c ≡ true) rest_is rest) in
              pair_true s.vars s.clauses f pair.0 c now simple pair.1 pair.2 v o lt at at_o
        ]

  -- at the end each clause of the chain was kept
  all_kept : next ≡ None → (c : ClauseRef) (a : Option ClauseRef) →
      next_on s.clauses f c ≡ Some a → is_in w.kept c ≡ true
  all_kept is c a goes =
      let none = at_end (next_on s.clauses f) (head_of s f) w.kept w.rest before
      (subst (λ x. IsCursor (next_on s.clauses f) (head_of s f) w.kept w.rest
      before x) is w.cursor) in
      subst (λ l. is_in l c ≡ true) (ap (λ l. w.kept ++ l) none ∙ append-nil w.kept)
      (w.cursor.whole c a goes)

  -- each clause that still watches f was counted
  pub walk_counts : next ≡ None → IsChained s.vars s.clauses s.heads →
      start + watchers f s.clauses ≤ visits
  walk_counts is chained =
      let each = w.each in
      let few = few_passing (λ k. is_watched k.lits f) 0 s.clauses w.kept chained.placed
      (λ d held watches. let k = stored_at s.clauses d in
      let goes = watched_goes k.lits f k.link0 k.link1 watches in
      all_kept is d goes.0 goes.1) in
      omega arith

  -- the other watched literal of each clause that watches f is true
  pub walk_ends : next ≡ None → IsChained s.vars s.clauses s.heads → (c : ClauseRef) →
      OtherIsTrue entries (stored_at s.clauses c).lits f
  walk_ends is chained c = λ v o lt at at_o.
      let k = stored_at s.clauses c in
      let held = watched_held s.clauses c v f at in
      let goes = own_next s.vars k.lits v f k.link0 k.link1 (chained.simple c held) lt at in
      w.kept_true c (all_kept is c (pick v k.link0 k.link1) goes) v o lt at at_o
