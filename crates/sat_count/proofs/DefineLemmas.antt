-- The four clauses that define a new variable v by others: by x, and by a and b. No clause before
-- them has it, so the first two follow by resolution with none, and the others by resolution with
-- these two.
use Rattle.std.proofs.Common.{◌≡◌, ◌≢◌, ℕ, suc, ◌<◌, ℤ, pos, negsuc, Bool, true, false, Some, None, List, [], ◌∷◌, refl, sym, arith}
use Rattle.std.specs.Prelude.{◌==◌, ◌&&◌, ◌||◌, not}
use Rattle.std.proofs.lemmas.Bool.{false_from_ne_true, ne_eqb}
use Rattle.std.proofs.lemmas.Bool.Decides.{Decides-eqb, Decides-int_eq}
use Rattle.std.specs.Ordering.{int_eq}
use Rattle.sat_clause.specs.declared.literal.Lit.{Lit}
use Rattle.sat_clause.specs.Literal.{Clause, is_among}
use Rattle.sat_clause.specs.Live.{Live, clause_at}
use Rattle.sat_clause.proofs.LiteralLaws.{among_here, among_more}
use Rattle.sat_rat.specs.FullRup.{full_rup, has_id, is_left_out, is_satisfied}
use Rattle.sat_count.specs.Names.{no, yes}
use Rattle.sat_count.proofs.HintLemmas.{over-no, over-yes, past-no, past-yes}

-- no clause has a literal of the variable
abbrev pub IsNew : ℕ → Live → Type 0
IsNew v [] = Unit {0}
IsNew v (entry ∷ live) =
    (is_among entry.1 (yes v) ≡ false) × (is_among entry.1 (no v) ≡ false) × IsNew v live

and-false : (b : Bool) → (b && false) ≡ false
and-false true = refl
and-false false = refl

or-true : (b : Bool) → (b || true) ≡ true
or-true true = refl
or-true false = refl

new-yes : (v : ℕ) (ids : List ℕ) (live : Live) → IsNew v live → is_left_out (yes v) ids live ≡ false
new-yes v ids [] new = refl
new-yes v ids (entry ∷ live) new =
    rw (new.0, and-false (not (has_id ids entry.0)), new-yes v (entry.0 ∷ ids) live new.2) refl

new-no : (v : ℕ) (ids : List ℕ) (live : Live) → IsNew v live → is_left_out (no v) ids live ≡ false
new-no v ids [] new = refl
new-no v ids (entry ∷ live) new =
    rw (new.1, and-false (not (has_id ids entry.0)), new-no v (entry.0 ∷ ids) live new.2) refl

module _ (live : Live) (v x a b n : ℕ) (new : IsNew v live) (xv : x ≢ v) (av : a ≢ v) (bv : b ≢ v)
  where
    abbrev by_kept : Clause
    by_kept = yes v ∷ no x ∷ []

    abbrev by_moved : Clause
    by_moved = yes v ∷ no a ∷ no b ∷ []

    abbrev or_moved : Clause
    or_moved = no v ∷ yes x ∷ yes a ∷ []

    abbrev or_given : Clause
    or_given = no v ∷ yes x ∷ yes b ∷ []

    abbrev live_one : Live
    live_one = (suc n, by_kept) ∷ live

    abbrev live_two : Live
    live_two = (suc (suc n), by_moved) ∷ live_one

    abbrev live_three : Live
    live_three = (suc (suc (suc n)), or_moved) ∷ live_two

    abbrev hints : List ℤ
    hints = negsuc n ∷ negsuc (suc n) ∷ []

    pub first-follows : full_rup live by_kept [] ≡ None
    first-follows = rw (new-no v [] live new) refl

    kept-lacks : is_among by_kept (no v) ≡ false
    kept-lacks = over-yes (no x ∷ []) v v (past-no [] x v xv refl)

    pub second-follows : full_rup live_one by_moved [] ≡ None
    second-follows = rw (kept-lacks, new-no v (suc n ∷ []) live new) refl

    same : (k : ℕ) → (k == k) ≡ true
    same k = (Decides-eqb k k).1 refl

    below-other : (k m : ℕ) → k < m → (k == m) ≡ false
    below-other k m low = ne_eqb k m (omega (arith, low))

    above-other : (k m : ℕ) → m < k → (k == m) ≡ false
    above-other k m low = ne_eqb k m (omega (arith, low))

    same-lit : (l : Lit) → int_eq l.code l.code ≡ true
    same-lit l = (Decides-int_eq l.code l.code).1 refl

    other-lit : (l m : Lit) → l.code ≢ m.code → int_eq l.code m.code ≡ false
    other-lit l m other = false_from_ne_true (int_eq l.code m.code)
        (λ e. other ((Decides-int_eq l.code m.code).0 e))

    signs : {k m : ℕ} → pos (suc k) ≡ negsuc m → ⊥
    signs e = cc

    -- the clauses that have the variable plain are named by the groups
    first-at-two : clause_at live_two (suc n) ≡ Some by_kept
    first-at-two = rw (below-other (suc n) (suc (suc n)) (omega arith), same (suc n)) refl

    second-at-two : clause_at live_two (suc (suc n)) ≡ Some by_moved
    second-at-two = rw (same (suc (suc n))) refl

    left-none : is_left_out (yes v) (suc n ∷ suc (suc n) ∷ []) live_two ≡ false
    left-none = rw (
      above-other (suc (suc n)) (suc n) (omega arith),
      same (suc (suc n)),
      same (suc n),
      below-other (suc n) (suc (suc n)) (omega arith),
      new-yes v (suc n ∷ suc (suc n) ∷ suc n ∷ suc (suc n) ∷ []) live new,
    ) refl

    has-yes : is_among by_kept (yes v) ≡ true
    has-yes = among_here (no x ∷ []) (yes v)

    moved-yes : is_among by_moved (yes v) ≡ true
    moved-yes = among_here (no a ∷ no b ∷ []) (yes v)

    -- where x is false the first clause is satisfied
    kept-true : (rest : List Lit) → is_satisfied (no v ∷ yes x ∷ rest) (yes v) by_kept ≡ true
    kept-true rest = rw (
      same-lit (yes v),
      other-lit (no x) (yes v) (λ e. signs (sym e)),
      among_more (yes x ∷ rest) (no v) (yes x) (among_here rest (yes x)),
    ) refl

    -- and where a or b is, the second
    moved-true : is_satisfied or_moved (yes v) by_moved ≡ true
    moved-true = rw (
      same-lit (yes v),
      other-lit (no a) (yes v) (λ e. signs (sym e)),
      among_more (yes x ∷ yes a ∷ []) (no v) (yes a)
          (among_more (yes a ∷ []) (yes x) (yes a) (among_here [] (yes a))),
    ) refl

    pub third-follows : full_rup live_two or_moved hints ≡ None
    third-follows = rw (
      first-at-two,
      second-at-two,
      has-yes,
      above-other (suc (suc n)) (suc n) (omega arith),
      same (suc (suc n)),
      same (suc n),
      below-other (suc n) (suc (suc n)) (omega arith),
      new-yes v (suc n ∷ suc (suc n) ∷ suc n ∷ suc (suc n) ∷ []) live new,
      kept-true (yes a ∷ []),
      moved-true,
    ) refl

    -- with the third clause live as well
    first-at-three : clause_at live_three (suc n) ≡ Some by_kept
    first-at-three = rw (
      below-other (suc n) (suc (suc (suc n))) (omega arith),
      below-other (suc n) (suc (suc n)) (omega arith),
      same (suc n),
    ) refl

    second-at-three : clause_at live_three (suc (suc n)) ≡ Some by_moved
    second-at-three = rw (
      below-other (suc (suc n)) (suc (suc (suc n))) (omega arith),
      same (suc (suc n)),
    ) refl

    given-true : is_satisfied or_given (yes v) by_moved ≡ true
    given-true = rw (
      same-lit (yes v),
      other-lit (no a) (yes v) (λ e. signs (sym e)),
      other-lit (no b) (yes v) (λ e. signs (sym e)),
      among_more (yes x ∷ yes b ∷ []) (no v) (yes b)
          (among_more (yes b ∷ []) (yes x) (yes b) (among_here [] (yes b))),
    ) (or-true (is_among or_given (yes a)))

    third-lacks : is_among or_moved (yes v) ≡ false
    third-lacks = over-no (yes x ∷ yes a ∷ []) v v
        (past-yes (yes a ∷ []) x v xv (past-yes [] a v av refl))

    pub fourth-follows : full_rup live_three or_given hints ≡ None
    fourth-follows = rw (
      first-at-three,
      second-at-three,
      has-yes,
      third-lacks,
      above-other (suc (suc (suc n))) (suc n) (omega arith),
      above-other (suc (suc (suc n))) (suc (suc n)) (omega arith),
      above-other (suc (suc n)) (suc n) (omega arith),
      same (suc (suc n)),
      same (suc n),
      below-other (suc n) (suc (suc n)) (omega arith),
      below-other (suc (suc n)) (suc (suc (suc n))) (omega arith),
      below-other (suc n) (suc (suc (suc n))) (omega arith),
      new-yes v (suc n ∷ suc (suc n) ∷ suc (suc (suc n)) ∷ suc n ∷ suc (suc n) ∷ []) live new,
      kept-true (yes b ∷ []),
      given-true,
    ) refl
