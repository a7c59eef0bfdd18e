-- What the watches know once a clause is attached, in its three cases.
use Rattle.std.proofs.Common.{◌≡◌, ◌≢◌, ℕ, zero, suc, ◌<◌, ◌≤◌, true, false, inl, inr, List, [], ◌∷◌, ◌++◌, length, drop, Option, None, Some, All, sym, ap, ◌∙◌, subst, arith}
use Rattle.sat_clause.specs.declared.literal.Lit.{Lit}
use Rattle.sat_clause.specs.Literal.{Clause, negation, variable}
use Rattle.sat_arena.specs.declared.clause_ref.ClauseRef.{ClauseRef}
use Rattle.sat_arena.specs.Store.{Stored, is_held, stored_at}
use Rattle.sat_watch.specs.declared.entry.TrailEntry.{TrailEntry}
use Rattle.sat_watch.specs.Trail.{IsOnce}
use Rattle.sat_watch.specs.Chains.{watch_of}
use Rattle.sat_watch.specs.Levels.{AreLeveled, IsPendingAt, IsLeveledBy, IsWatchStore, IsWatched}
use Rattle.sat_watch.specs.Watched.{IsReason, is_false, other_of, true_at}
use Rattle.sat_watch.proofs.AttachLemmas.{held_push_other, push_other, push_same}
use Rattle.sat_watch.proofs.LevelLemmas.{drop_true, not_both, true_is_false}
use Rattle.sat_arena.proofs.StoreLaws.{same_or_other}
use Rattle.sat_watch.proofs.PropagatedLemmas.{drop_level}
use Rattle.sat_clause.proofs.LiteralLaws.{negation-negation}
use Rattle.sat_watch.proofs.TrailLemmas.{never}

module _ (ks : List Stored) (k : Stored) (fresh : is_held ks k.place ≡ false) where
  held_is_other : (c : ClauseRef) → is_held ks c ≡ true → c ≢ k.place
  held_is_other c held e =
      never (is_held ks k.place) (subst (λ r. is_held ks r ≡ true) e held) fresh

  -- reasons stay reasons
  leveled_push : (level : ℕ) (entries : List TrailEntry) → AreLeveled ks level entries →
      AreLeveled (ks ++ k ∷ []) level entries
  leveled_push level [] is = is
  leveled_push level (e ∷ older) is =
      (is.0, by_reason e.reason is.1 (λ n below. leveled_push n older below)) where
        by_reason : (r : Option ClauseRef) →
            IsLeveledBy ks level e.lit older r (λ n. AreLeveled ks n older) →
            ((n : ℕ) → AreLeveled ks n older → AreLeveled (ks ++ k ∷ []) n older) →
            IsLeveledBy (ks ++ k ∷ []) level e.lit older r (λ n. AreLeveled (ks ++ k ∷ []) n older)
        by_reason None by go = (by.0, by.1, go by.0 by.2)
        by_reason (Some r) by go =
            let ne = held_is_other r by.0 in (
              held_push_other ks k r ne ∙ by.0,
              subst (λ (x : Stored). IsReason older x.lits e.lit) (sym (push_other ks k r ne)) by.1,
              go level by.2,
            )

  module _ (entries : List TrailEntry) (q level : ℕ) (h : IsWatchStore ks entries q level None)
    where
      old_watched : (c : ClauseRef) → c ≢ k.place → is_held (ks ++ k ∷ []) c ≡ true →
          IsWatched (drop q entries) entries (stored_at (ks ++ k ∷ []) c).lits
      old_watched c ne held =
          subst (λ (x : Stored). IsWatched (drop q entries) entries x.lits)
          (sym (push_other ks k c ne))
          (h.watched c (sym (held_push_other ks k c ne) ∙ held)
          (λ x. let clash : None ≡ Some c = x in cc))

      -- a clause that can be left alone is attached
      pub store_attached : IsWatched (drop q entries) entries k.lits →
          IsWatchStore (ks ++ k ∷ []) entries q level None
      store_attached w = record {
        few = h.few;
        leveled = leveled_push level entries h.leveled;
        current = h.current;
        pending_is = tt;
        watched = λ c held ne. elim (same_or_other c k.place) [
          | inl same ↦ subst (λ r. IsWatched (drop q entries) entries
              (stored_at (ks ++ k ∷ []) r).lits) (sym same.1)
              (subst (λ (x : Stored). IsWatched (drop q entries) entries x.lits)
              (sym (push_same ks k fresh)) w)
          | inr other ↦ old_watched c other.1 held
        ];
      }

      -- a clause that is pending is attached
      pub store_pending : is_held (ks ++ k ∷ []) k.place ≡ true → IsPendingAt entries level k.lits →
          IsWatchStore (ks ++ k ∷ []) entries q level (Some k.place)
      store_pending held d = record {
        few = h.few;
        leveled = leveled_push level entries h.leveled;
        current = h.current;
        pending_is = (
          held,
          subst (λ (x : Stored). IsPendingAt entries level x.lits) (sym (push_same ks k fresh))
              d,
        );
        watched = λ c c_held ne. elim (same_or_other c k.place) [
          | inl same ↦ absurd (ne (ap Some (sym same.1)))
          | inr other ↦ old_watched c other.1 c_held
        ];
      }

-- first case: the first two literals are not false
pub two_free : (q : ℕ) (entries : List TrailEntry) (a b : Lit) (ls : Clause) →
    is_false entries a ≡ false → is_false entries b ≡ false →
    IsWatched (drop q entries) entries (a ∷ b ∷ ls)
two_free q entries a b ls free_a free_b = record {
  some = λ e. cc;
  alone = λ x is. absurd (omega (arith, ap length is));
  guarded = λ v l o n lt at at_o is. absurd (by_place v l n lt at is);
}
  where
    by_place : (v : ℕ) (l : Lit) (n : ℕ) → v < 2 → watch_of (a ∷ b ∷ ls) v ≡ Some l →
        true_at (drop q entries) (negation l) ≡ Some n → ⊥
    by_place zero l n lt at is = let al : a ≡ l = cc in
        never _ (subst (λ (z : Lit). is_false entries z ≡ true) (negation-negation l ∙ sym al)
        (drop_true q entries (negation l) n is)) free_a
    by_place (suc v) l n lt at is = let bl : b ≡ l = cc in
        never _ (subst (λ (z : Lit). is_false entries z ≡ true) (negation-negation l ∙ sym bl)
        (drop_true q entries (negation l) n is)) free_b

-- second case: the first literal is true, at no higher level than the second is false
pub one_true : (q : ℕ) (entries : List TrailEntry) (a b : Lit) (ls : Clause) (m n : ℕ) →
    1 ≤ variable a → IsOnce entries → true_at entries a ≡ Some m →
    true_at entries (negation b) ≡ Some n → m ≤ n → IsWatched (drop q entries) entries (a ∷ b ∷ ls)
one_true q entries a b ls m n some once a_true b_false le = record {
  some = λ e. cc;
  alone = λ x is. absurd (omega (arith, ap length is));
  guarded = λ v l o j lt at at_o is. by_place v l o j lt at at_o is;
}
  where
    by_place : (v : ℕ) (l o : Lit) (j : ℕ) → v < 2 → watch_of (a ∷ b ∷ ls) v ≡ Some l →
        watch_of (a ∷ b ∷ ls) (other_of v) ≡ Some o →
        true_at (drop q entries) (negation l) ≡ Some j →
        (i : ℕ) × (true_at entries o ≡ Some i) × (i ≤ j)
    by_place zero l o j lt at at_o is = let al : a ≡ l = cc in
        absurd (not_both entries a some once
        (subst (λ (z : Lit). is_false entries z ≡ true) (negation-negation l ∙ sym al)
        (drop_true q entries (negation l) j is)) (true_is_false entries a m a_true))
    by_place (suc v) l o j lt at at_o is =
        let bl : b ≡ l = cc in let ao : a ≡ o = cc in
        let here : true_at entries (negation b) ≡ Some j =
        subst (λ (z : Lit). true_at entries (negation z) ≡ Some j) (sym bl)
        (drop_level q entries (negation l) j once is) in
        let same : n ≡ j = (let x : Some n ≡ Some j = sym b_false ∙ here in cc) in
        (m, subst (λ (z : Lit). true_at entries z ≡ Some m) ao a_true, omega (arith, same, le))

pub unit_true : (q : ℕ) (entries : List TrailEntry) (a : Lit) → true_at entries a ≡ Some 0 →
    IsWatched (drop q entries) entries (a ∷ [])
unit_true q entries a is_true = record {
  some = λ e. cc;
  alone = λ x is. let ax : a ≡ x = cc in subst (λ (z : Lit). true_at entries z ≡ Some 0) ax is_true;
  guarded = λ v l o n lt at at_o is. let clash : None ≡ Some l = at in cc;
}

-- third case: the first literal is open, the others are false, the second since the current level
pub one_open : (entries : List TrailEntry) (level : ℕ) (a : Lit) (ls : Clause) →
    true_at entries a ≡ None → true_at entries (negation a) ≡ None →
    All (λ m. is_false entries m ≡ true) ls →
    ((b : Lit) → watch_of (a ∷ ls) 1 ≡ Some b → true_at entries (negation b) ≡ Some level) →
    (ls ≡ [] → level ≡ 0) →
    IsPendingAt entries level (a ∷ ls)
one_open entries level a ls not_true not_false others second alone = record {
  some = λ e. cc;
  alone = λ x is. alone cc;
  others =
      λ x xs is. let same : ls ≡ xs = cc in
      subst (All (λ m. is_false entries m ≡ true)) same others;
  second = second;
  first = λ x n at is. of_first ls x n at is not_true;
  first_false = λ x n at is. of_false ls x n at is not_false;
}
  where
    of_first : (ms : Clause) (x : Lit) (n : ℕ) → watch_of (a ∷ ms) 0 ≡ Some x →
        true_at entries x ≡ Some n → true_at entries a ≡ None → n ≡ level
    of_first [] x n at is none = let clash : None ≡ Some x = at in cc
    of_first (b ∷ ms) x n at is none =
        let ax : a ≡ x = cc in
        let clash : None ≡ Some n = sym none ∙ (ap (true_at entries) ax ∙ is) in cc

    of_false : (ms : Clause) (x : Lit) (n : ℕ) → watch_of (a ∷ ms) 0 ≡ Some x →
        true_at entries (negation x) ≡ Some n → true_at entries (negation a) ≡ None → n ≡ level
    of_false [] x n at is none = let clash : None ≡ Some x = at in cc
    of_false (b ∷ ms) x n at is none =
        let ax : a ≡ x = cc in
        let clash : None ≡ Some n =
        sym none ∙ (ap (λ (z : Lit). true_at entries (negation z)) ax ∙ is) in cc
