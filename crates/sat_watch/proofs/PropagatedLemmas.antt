-- What the watches know after a decision, an implied literal and a way back, and that it settles
-- the clauses.
use Rattle.std.proofs.Common.{◌≡◌, ◌≢◌, ℕ, zero, suc, ◌<◌, ◌≤◌, Bool, true, false, inl, inr, List, [], ◌∷◌, length, drop, slice_index_or, Option, None, Some, All, Contains, refl, sym, ap, ◌∙◌, subst, arith}
use Rattle.std.proofs.lemmas.List.Elements.{All-contains, All-weaker}
use Rattle.sat_clause.specs.declared.literal.Lit.{Lit}
use Rattle.sat_clause.specs.Learned.{IsSimple}
use Rattle.sat_clause.specs.Literal.{Clause, negation, variable}
use Rattle.sat_clause.specs.Rup.{reading_of}
use Rattle.sat_arena.specs.declared.clause_ref.ClauseRef.{ClauseRef}
use Rattle.sat_arena.specs.Store.{Stored, is_held, stored_at}
use Rattle.sat_watch.specs.declared.entry.TrailEntry.{TrailEntry}
use Rattle.sat_watch.specs.Trail.{IsOnce, IsOpen, falses}
use Rattle.sat_watch.specs.Chains.{watch_of}
use Rattle.sat_watch.specs.Levels.{IsPendingAt, IsWatchStore, IsWatched, MayBePending, pending_without}
use Rattle.sat_clause.specs.Settled.{IsQuiet}
use Rattle.sat_watch.specs.Watched.{IsReason, is_false, other_of, true_at}
use Rattle.sat_watch.proofs.LevelLemmas.{drop_true, not_both, true_is_false, true_level, true_stays}
use Rattle.sat_arena.proofs.StoreLaws.{same_or_other}
use Rattle.sat_clause.proofs.ReadingLaws.{IsFalseOr, conflict_all, two_open, unit_is_open}
use Rattle.sat_watch.proofs.WatchLemmas.{apart_first, lit_tells}
use Rattle.sat_clause.proofs.LiteralLaws.{among_more, negation-negation}
use Rattle.sat_watch.proofs.TrailLemmas.{never, open_not_false}

-- a clause with a true literal is quiet
pub true_is_quiet : (entries : List TrailEntry) (x : Lit) (lits : Clause) → 1 ≤ variable x →
    IsOnce entries → Contains lits x → is_false entries (negation x) ≡ true →
    IsQuiet (reading_of (falses entries) lits)
true_is_quiet entries x lits some once has is = record {
  no_conflict =
      λ e. not_both entries x some once
      (All-contains (λ (m : Lit). is_false entries m ≡ true) lits x
      (conflict_all (falses entries) lits e) has) is;
  no_unit =
      λ l e. elim (All-contains (IsFalseOr (falses entries) l) lits x
      (unit_is_open (falses entries) l lits e).0.rest has) [
        | inl out ↦ not_both entries x some once out is
        | inr same ↦ never _ (subst (λ (y : Lit). is_false entries (negation y) ≡ true) same is)
            (unit_is_open (falses entries) l lits e).1
      ];
}

-- a clause that can be left alone is quiet where nothing is queued
pub watched_is_quiet : (n : ℕ) (entries : List TrailEntry) (lits : Clause) → IsSimple n lits →
    IsOnce entries → IsWatched entries entries lits →
    IsQuiet (reading_of (falses entries) lits)
watched_is_quiet n entries [] simple once w = absurd (w.some refl)
watched_is_quiet n entries (a ∷ []) simple once w =
    true_is_quiet entries a (a ∷ []) (simple.within 0 a (omega arith)).0 once (0, omega arith, refl)
    (true_is_false entries a 0 (w.alone a refl))
watched_is_quiet n entries (a ∷ b ∷ ls) simple once w =
    let some_a = (simple.within 0 a (omega arith)).0 in
    let some_b = (simple.within 1 a (omega arith)).0 in
    by_tests (is_false entries a) (is_false entries b) refl refl some_a some_b
  where
    guard : (v : ℕ) (l o : Lit) → v < 2 → watch_of (a ∷ b ∷ ls) v ≡ Some l →
        watch_of (a ∷ b ∷ ls) (other_of v) ≡ Some o → is_false entries l ≡ true →
        is_false entries (negation o) ≡ true
    guard v l o lt at at_o is =
        let level = true_level entries (negation l)
        (subst (λ (x : Lit). is_false entries x ≡ true) (sym (negation-negation l)) is) in
        let found = w.guarded v l o level.0 lt at at_o level.1 in
        true_is_false entries o found.0 found.1

    by_tests : (x y : Bool) → is_false entries a ≡ x → is_false entries b ≡ y → 1 ≤ variable a →
        1 ≤ variable b → IsQuiet (reading_of (falses entries) (a ∷ b ∷ ls))
    by_tests true y ex ey sa sb =
        true_is_quiet entries b (a ∷ b ∷ ls) sb once (1, omega arith, refl)
        (guard 0 a b (omega arith) refl refl ex)
    by_tests false true ex ey sa sb =
        true_is_quiet entries a (a ∷ b ∷ ls) sa once (0, omega arith, refl)
        (guard 1 b a (omega arith) refl refl ey)
    by_tests false false ex ey sa sb =
        two_open (falses entries) a b (a ∷ b ∷ ls) (0, omega arith, refl) (1, omega arith, refl)
        (apart_first n a b ls simple) ex ey

-- a clause can still be left alone beside one more entry
watched_more : (taken old : List TrailEntry) (e : TrailEntry) (lits : Clause) → IsOnce (e ∷ old) →
    IsWatched taken old lits → IsWatched taken (e ∷ old) lits
watched_more taken old e lits once w = record {
  some = w.some;
  alone = λ a is. true_stays (e ∷ []) old a 0 once (w.alone a is);
  guarded =
      λ v l o n lt at at_o is. let g = w.guarded v l o n lt at at_o is in
      (g.0, true_stays (e ∷ []) old o g.0 once g.1, g.2);
}

-- after a decision
pub store_assume : (ks : List Stored) (entries : List TrailEntry) (level : ℕ) (l : Lit) →
    IsOpen entries l → IsOnce entries → IsWatchStore ks entries 0 level None →
    IsWatchStore ks (record { lit = l; level = suc level; reason = None } ∷ entries) 1 (suc level)
    None
store_assume ks entries level l free once h = record {
  few = omega arith;
  leveled = (refl, (level, refl, h.leveled));
  current = λ k d lt. first k d lt;
  watched =
      λ c held ne. watched_more entries entries
      (record { lit = l; level = suc level; reason = None }) (stored_at ks c).lits (free, once)
      (h.watched c held ne);
  pending_is = tt;
}
  where
    first : (k : ℕ) (d : TrailEntry) → k < 1 →
        (slice_index_or (record { lit = l; level = suc level; reason = None } ∷ entries) k d).level
        ≡ suc level
    first zero d lt = refl
    first (suc k) d lt = absurd (omega arith)

pub drop_level : (q : ℕ) (entries : List TrailEntry) (l : Lit) (n : ℕ) → IsOnce entries →
    true_at (drop q entries) l ≡ Some n → true_at entries l ≡ Some n
drop_level zero entries l n once is = is
drop_level (suc q) [] l n once is = is
drop_level (suc q) (e ∷ older) l n once is =
    true_stays (e ∷ []) older l n once (drop_level q older l n once.1 is)

module _ (ks : List Stored) (entries : List TrailEntry) (q level : ℕ) (pending : Option ClauseRef)
    (l : Lit) (r : ClauseRef)
    (h : IsWatchStore ks entries q level pending) (free : IsOpen entries l) (once : IsOnce entries)
    (held : is_held ks r ≡ true)
    (why : IsReason entries (stored_at ks r).lits l) where
  abbrev pub implied_entry : TrailEntry
  implied_entry = record { lit = l; level = level; reason = Some r }

  new_true : true_at (implied_entry ∷ entries) l ≡ Some level
  new_true = elim (lit_tells l l) [ inl same ↦ rw same.0 refl | inr other ↦ absurd (other.1 refl) ]

  -- the pending clause can be left alone once its literal is true
  pending_done : IsPendingAt entries level (stored_at ks r).lits →
      IsWatched (drop q entries) (implied_entry ∷ entries) (stored_at ks r).lits
  pending_done d = of_lits (stored_at ks r).lits d why where
    first_is : (a : Lit) (ls : Clause) → IsPendingAt entries level (a ∷ ls) →
        IsReason entries (a ∷ ls) l → l ≡ a
    first_is a ls d y = elim (lit_tells l a) [
      | inl same ↦ same.1
      | inr other ↦ absurd
          (never _ (in_rest a ls y.has other.1 (d.others a ls refl)) (open_not_false entries l
          free))
    ]
      where
        in_rest : (a : Lit) (ls : Clause) → Contains (a ∷ ls) l → l ≢ a →
            All (λ m. is_false entries m ≡ true) ls → is_false entries l ≡ true
        in_rest a ls has ne all = by_place has.0 has.1 has.2 where
          by_place : (k : ℕ) → k < length (a ∷ ls) → slice_index_or (a ∷ ls) k l ≡ l →
              is_false entries l ≡ true
          by_place zero lt is = absurd (ne (sym is))
          by_place (suc k) lt is =
              subst (λ (x : Lit). is_false entries x ≡ true) is (all k l (omega arith))

    of_lits : (lits : Clause) → IsPendingAt entries level lits → IsReason entries lits l →
        IsWatched (drop q entries) (implied_entry ∷ entries) lits
    of_lits [] d y = absurd (d.some refl)
    of_lits (a ∷ []) d y =
        let same = first_is a [] d y in record {
          some = d.some;
          alone = λ x is. let ax : a ≡ x = cc in let zero_level = d.alone a refl in
              subst (λ (z : Lit). true_at (implied_entry ∷ entries) z ≡ Some 0) (same ∙ ax)
              (new_true ∙ ap Some zero_level);
          guarded = λ v x o n lt at at_o is. let clash : None ≡ Some x = at in cc;
        }
    of_lits (a ∷ b ∷ ls) d y =
        let same = first_is a (b ∷ ls) d y in record {
          some = d.some;
          alone = λ x is. absurd (omega (arith, ap length is));
          guarded = λ v x o n lt at at_o is. by_place v x o n lt at at_o is same;
        }
      where
        by_place : (v : ℕ) (x o : Lit) (n : ℕ) → v < 2 → watch_of (a ∷ b ∷ ls) v ≡ Some x →
            watch_of (a ∷ b ∷ ls) (other_of v) ≡ Some o →
            true_at (drop q entries) (negation x) ≡ Some n → l ≡ a →
            (m : ℕ) × (true_at (implied_entry ∷ entries) o ≡ Some m) × (m ≤ n)
        by_place zero x o n lt at at_o is same =
            let ax : a ≡ x = cc in
            absurd (never _ (subst (λ (z : Lit). is_false entries z ≡ true)
            (negation-negation x ∙ (sym ax ∙ sym same)) (drop_true q entries (negation x) n is))
            (open_not_false entries l free))
        by_place (suc v) x o n lt at at_o is same =
            let bx : b ≡ x = cc in let ao : a ≡ o = cc in
            let here : true_at entries (negation b) ≡ Some n =
            subst (λ (z : Lit). true_at entries (negation z) ≡ Some n) (sym bx)
            (drop_level q entries (negation x) n once is) in
            let now : level ≡ n =
            (let z : Some level ≡ Some n = sym (d.second b refl) ∙ here in cc) in (
              level,
              subst (λ (z : Lit). true_at (implied_entry ∷ entries) z ≡ Some level)
                  (same ∙ ao) new_true,
              omega (arith, now),
            )

  pending_more : (lits : Clause) → IsPendingAt entries level lits →
      IsPendingAt (implied_entry ∷ entries) level lits
  pending_more lits d = record {
    some = d.some;
    alone = d.alone;
    others =
        λ a ls is. All-weaker (λ m. is_false entries m ≡ true)
        (λ m. is_false (implied_entry ∷ entries) m ≡ true)
        (λ m f. among_more (falses entries) (negation l) m f) ls (d.others a ls is);
    second =
        λ b at. true_stays (implied_entry ∷ []) entries (negation b) level (free, once)
        (d.second b at);
    first = λ a n at is. elim (lit_tells l a) [
      | inl same ↦ (let x : Some level ≡ Some n = rw same.0 at is in let y : level ≡ n = cc in
          sym y)
      | inr other ↦ d.first a n at (rw other.0 at is)
    ];
    first_false = λ a n at is. elim (lit_tells l (negation a)) [
      | inl same ↦ (let x : Some level ≡ Some n = rw same.0 at is in let y : level ≡ n = cc in
          sym y)
      | inr other ↦ d.first_false a n at (rw other.0 at is)
    ];
  }

  -- after an implied literal
  pub store_imply : IsWatchStore ks (implied_entry ∷ entries) (suc q) level
      (pending_without r pending)
  store_imply = record {
    few = let few = h.few in omega arith;
    leveled = (refl, (held, why, h.leveled));
    current = λ k d lt. at_place k d lt;
    watched = λ c c_held ne. by_pending pending refl c c_held ne;
    pending_is = left pending refl;
  }
    where
      at_place : (k : ℕ) (d : TrailEntry) → k < suc q →
          (slice_index_or (implied_entry ∷ entries) k d).level ≡ level
      at_place zero d lt = refl
      at_place (suc k) d lt = h.current k d (omega arith)

      by_pending : (o : Option ClauseRef) → pending ≡ o → (c : ClauseRef) → is_held ks c ≡ true →
          pending_without r o ≢ Some c →
          IsWatched (drop q entries) (implied_entry ∷ entries) (stored_at ks c).lits
      by_pending None e c c_held ne =
          watched_more (drop q entries) entries implied_entry (stored_at ks c).lits (free, once)
          (h.watched c c_held (λ x. let clash : None ≡ Some c = sym e ∙ x in cc))
      by_pending (Some b) e c c_held ne = elim (same_or_other b c) [
        | inr other ↦ watched_more (drop q entries) entries implied_entry (stored_at ks c).lits
            (free, once)
            (h.watched c c_held (λ x. other.1 (let y : Some b ≡ Some c = sym e ∙ x in cc)))
        | inl same ↦ elim (same_or_other r b) [
          | inl rb ↦ subst (λ x. IsWatched (drop q entries) (implied_entry ∷ entries)
              (stored_at ks x).lits) (rb.1 ∙ same.1)
              (pending_done (subst (λ x. IsPendingAt entries level (stored_at ks x).lits) (sym rb.1)
              (subst (MayBePending ks entries level) e h.pending_is).1))
          | inr rb ↦ absurd (ne (rw rb.0 (ap Some same.1)))
        ]
      ]

      left : (o : Option ClauseRef) → pending ≡ o →
          MayBePending ks (implied_entry ∷ entries) level (pending_without r o)
      left None e = tt
      left (Some b) e = elim (same_or_other r b) [
        | inl rb ↦ rw rb.0 tt
        | inr rb ↦ rw rb.0 (let known = subst (MayBePending ks entries level) e h.pending_is in
            (known.0, pending_more (stored_at ks b).lits known.1))
      ]
