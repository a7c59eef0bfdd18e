-- A new variable, by four clauses more.
use Rattle.std.proofs.Common.{◌≡◌, ◌≢◌, ℕ, suc, ◌+◌, ◌<◌, ℤ, pos, negsuc, Bool, true, false, None, List, [], ◌∷◌, All, length, refl, sym, subst, ap, ◌∙◌, arith}
use Rattle.std.proofs.lemmas.List.Elements.{All-cons, All-contains, All-head, All-nil, All-tail, All-weaker}
use Rattle.sat_clause.specs.declared.limits.TheConstants.{LITERAL_LIMIT}
use Rattle.sat_clause.specs.declared.literal.Lit.{Lit}
use Rattle.sat_clause.specs.Literal.{Clause, IsWithin, is_among, variable}
use Rattle.sat_clause.specs.Live.{Live, named, put}
use Rattle.sat_clause.proofs.LiteralLaws.{among_contains}
use Rattle.sat_rat.specs.FullJudge.{full_judge_from}
use Rattle.sat_rat.specs.FullRup.{full_rup}
use Rattle.sat_count.specs.Names.{no, yes}
use Rattle.sat_count.specs.Refuting.{Adds, Defines, Grows, IsRefutation, RefutationState, added, live_of, widened}
use Rattle.sat_count.proofs.DefineLemmas.{IsNew, first-follows, fourth-follows, second-follows, third-follows}
use Rattle.sat_count.proofs.GrowLemmas.{grows-on, holds-at}
use Rattle.sat_count.proofs.RefutingLemmas.{add-adds, add-refutes, live-added, live-widened}

-- ---- a clause of variables up to one lacks the next

pub within-yes : (n name : ℕ) → name < n → IsWithin n (yes name)
within-yes n name low = (omega arith, omega (arith, low))

pub within-no : (n name : ℕ) → name < n → IsWithin n (no name)
within-no n name low = (omega arith, omega (arith, low))

pub within-two : (n : ℕ) (a b : Lit) → IsWithin n a → IsWithin n b → All (IsWithin n) (a ∷ b ∷ [])
within-two n a b wa wb =
    All-cons (IsWithin n) a (b ∷ []) wa (All-cons (IsWithin n) b [] wb (All-nil (IsWithin n)))

pub within-three : (n : ℕ) (a b c : Lit) → IsWithin n a → IsWithin n b → IsWithin n c
    → All (IsWithin n) (a ∷ b ∷ c ∷ [])
within-three n a b c wa wb wc =
    All-cons (IsWithin n) a (b ∷ c ∷ []) wa (within-two n b c wb wc)

lacks : (n : ℕ) (clause : Clause) (l : Lit) → n < variable l → All (IsWithin n) clause
    → is_among clause l ≡ false
lacks n clause l past within = go (is_among clause l) refl
  where
    go : (b : Bool) → is_among clause l ≡ b → b ≡ false
    go true e =
        let there = All-contains (IsWithin n) clause l within (among_contains clause l e) in
        absurd (omega (arith, there.1, past))
    go false e = refl

new-name : (n : ℕ) (live : Live) → All (λ (entry : ℕ × Clause). All (IsWithin n) entry.1) live
    → IsNew n live
new-name n [] all = tt
new-name n (entry ∷ live) all =
    let P : ℕ × Clause → Type 0 = λ e. All (IsWithin n) e.1 in
    let here : All (IsWithin n) entry.1 = All-head P entry live all in (
      lacks n entry.1 (yes n) (omega arith) here,
      lacks n entry.1 (no n) (omega arith) here,
      new-name n live (All-tail P entry live all),
    )

-- ---- one variable more

widen-within : (n : ℕ) (live : Live)
    → All (λ (entry : ℕ × Clause). All (IsWithin n) entry.1) live
    → All (λ (entry : ℕ × Clause). All (IsWithin (suc n)) entry.1) live
widen-within n live all =
    All-weaker (λ (entry : ℕ × Clause). All (IsWithin n) entry.1)
    (λ (entry : ℕ × Clause). All (IsWithin (suc n)) entry.1)
    (λ entry within. All-weaker (IsWithin n) (IsWithin (suc n))
    (λ l w. (w.0, omega (arith, w.1))) entry.1 within) live all

pub live-wide : (r : RefutationState) → live_of (widened r) ≡ live_of r
live-wide r = live-widened r r.last_id (suc r.last_variable)

pub widen-refutes : (r : RefutationState) → IsRefutation r → r.last_variable < LITERAL_LIMIT
    → IsRefutation (widened r)
widen-refutes r is room =
    let same : live_of (widened r) ≡ live_of r = live-wide r in
    record {
      ahead = λ more. is.ahead more
          ∙ ap (λ (live : Live). full_judge_from (suc (length r.steps)) live more) (sym same);
      literals = is.literals;
      within = subst (λ (live : Live). All (λ (entry : ℕ × Clause).
          All (IsWithin (suc r.last_variable)) entry.1) live) (sym same)
          (widen-within r.last_variable (live_of r) is.within);
      low = λ id c h. is.low id c (record {
        there = ap (λ (live : Live). named live (pos id)) (sym same) ∙ h.there;
      });
      few = omega (arith, room);
    }

module _ (r : RefutationState) (is : IsRefutation r) (room : r.last_variable < LITERAL_LIMIT)
    (x a b : ℕ) (x_low : x < r.last_variable) (a_low : a < r.last_variable)
    (b_low : b < r.last_variable)
  where
    abbrev v : ℕ
    v = r.last_variable

    abbrev n : ℕ
    n = r.last_id

    abbrev pub by_kept : Clause
    by_kept = yes v ∷ no x ∷ []

    abbrev pub by_moved : Clause
    by_moved = yes v ∷ no a ∷ no b ∷ []

    abbrev pub or_moved : Clause
    or_moved = no v ∷ yes x ∷ yes a ∷ []

    abbrev pub or_given : Clause
    or_given = no v ∷ yes x ∷ yes b ∷ []

    abbrev pub groups : List ℤ
    groups = negsuc n ∷ negsuc (suc n) ∷ []

    abbrev pub zeroth : RefutationState
    zeroth = widened r

    abbrev pub first : RefutationState
    first = added zeroth by_kept []

    abbrev pub second : RefutationState
    second = added first by_moved []

    abbrev pub third : RefutationState
    third = added second or_moved groups

    abbrev pub fourth : RefutationState
    fourth = added third or_given groups

    fresh : IsNew v (live_of r)
    fresh = new-name v (live_of r) is.within

    xv : x ≢ v
    xv = omega (arith, x_low)

    av : a ≢ v
    av = omega (arith, a_low)

    bv : b ≢ v
    bv = omega (arith, b_low)

    pub first-good : full_rup (live_of zeroth) by_kept [] ≡ None
    first-good = subst (λ (live : Live). full_rup live by_kept [] ≡ None) (sym (live-wide r))
        (first-follows (live_of r) v x a b n fresh xv av bv)

    low-v : v < suc v
    low-v = omega arith

    low-x : x < suc v
    low-x = omega (arith, x_low)

    low-a : a < suc v
    low-a = omega (arith, a_low)

    low-b : b < suc v
    low-b = omega (arith, b_low)

    pub first-within : All (IsWithin (suc v)) by_kept
    first-within = within-two (suc v) (yes v) (no x) (within-yes (suc v) v low-v)
        (within-no (suc v) x low-x)

    pub second-within : All (IsWithin (suc v)) by_moved
    second-within = within-three (suc v) (yes v) (no a) (no b) (within-yes (suc v) v low-v)
        (within-no (suc v) a low-a) (within-no (suc v) b low-b)

    pub third-within : All (IsWithin (suc v)) or_moved
    third-within = within-three (suc v) (no v) (yes x) (yes a) (within-no (suc v) v low-v)
        (within-yes (suc v) x low-x) (within-yes (suc v) a low-a)

    pub fourth-within : All (IsWithin (suc v)) or_given
    fourth-within = within-three (suc v) (no v) (yes x) (yes b) (within-no (suc v) v low-v)
        (within-yes (suc v) x low-x) (within-yes (suc v) b low-b)

    is-zeroth : IsRefutation zeroth
    is-zeroth = widen-refutes r is room

    some : (l : Lit) (ls : Clause) → (l ∷ ls) ≢ []
    some l ls e = cc

    is-first : IsRefutation first
    is-first = add-refutes zeroth is-zeroth by_kept [] (some (yes v) (no x ∷ [])) first-within
        first-good

    live-first : live_of first ≡ (suc n, by_kept) ∷ live_of r
    live-first = live-added zeroth is-zeroth by_kept []
        ∙ ap (λ (live : Live). put live (suc n) by_kept) (live-wide r)

    pub second-good : full_rup (live_of first) by_moved [] ≡ None
    second-good = subst (λ (live : Live). full_rup live by_moved [] ≡ None) (sym live-first)
        (second-follows (live_of r) v x a b n fresh xv av bv)

    is-second : IsRefutation second
    is-second = add-refutes first is-first by_moved [] (some (yes v) (no a ∷ no b ∷ []))
        second-within second-good

    live-second : live_of second ≡ (suc (suc n), by_moved) ∷ (suc n, by_kept) ∷ live_of r
    live-second = live-added first is-first by_moved []
        ∙ ap (λ (live : Live). put live (suc (suc n)) by_moved) live-first

    pub third-good : full_rup (live_of second) or_moved groups ≡ None
    third-good = subst (λ (live : Live). full_rup live or_moved groups ≡ None) (sym live-second)
        (third-follows (live_of r) v x a b n fresh xv av bv)

    is-third : IsRefutation third
    is-third = add-refutes second is-second or_moved groups (some (no v) (yes x ∷ yes a ∷ []))
        third-within third-good

    live-third : live_of third
        ≡ (suc (suc (suc n)), or_moved) ∷ (suc (suc n), by_moved) ∷ (suc n, by_kept) ∷ live_of r
    live-third = live-added second is-second or_moved groups
        ∙ ap (λ (live : Live). put live (suc (suc (suc n))) or_moved) live-second

    pub fourth-good : full_rup (live_of third) or_given groups ≡ None
    fourth-good = subst (λ (live : Live). full_rup live or_given groups ≡ None) (sym live-third)
        (fourth-follows (live_of r) v x a b n fresh xv av bv)

    add-first : Adds zeroth first by_kept
    add-first = add-adds zeroth is-zeroth by_kept []

    add-second : Adds first second by_moved
    add-second = add-adds first is-first by_moved []

    add-third : Adds second third or_moved
    add-third = add-adds second is-second or_moved groups

    add-fourth : Adds third fourth or_given
    add-fourth = add-adds third is-third or_given groups

    grow-zeroth : Grows r zeroth
    grow-zeroth = record {
      cnf = refl;
      ids = omega arith;
      variables = omega arith;
      kept = λ id clause h. record {
        there = ap (λ (live : Live). named live (pos id)) (live-wide r) ∙ h.there;
      };
      added = record { each = λ id behind last. absurd (omega (arith, behind, last)) };
    }

    from-third : Grows third fourth
    from-third = add-fourth.grows

    from-second : Grows second fourth
    from-second = grows-on second third fourth add-third.grows from-third

    from-first : Grows first fourth
    from-first = grows-on first second fourth add-second.grows from-second

    pub four-define : Defines r fourth x a b
    four-define = record {
      last = omega arith;
      variables = refl;
      meaning = record {
        by_kept = holds-at fourth (suc n) (n + 1) by_kept (omega arith)
            (from-first.kept (suc n) by_kept add-first.holds);
        by_moved = holds-at fourth (suc (suc n)) (n + 2) by_moved (omega arith)
            (from-second.kept (suc (suc n)) by_moved add-second.holds);
        or_moved = holds-at fourth (suc (suc (suc n))) (n + 3) or_moved (omega arith)
            (from-third.kept (suc (suc (suc n))) or_moved add-third.holds);
        or_given = holds-at fourth (suc (suc (suc (suc n)))) (n + 4) or_given (omega arith)
            add-fourth.holds;
      };
      grows = grows-on r zeroth fourth grow-zeroth
          (grows-on zeroth first fourth add-first.grows from-first);
    }
