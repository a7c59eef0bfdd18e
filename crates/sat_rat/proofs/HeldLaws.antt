-- How often a literal stands in live clauses, where they change.
use Rattle.std.specs.Prelude.{if◌then◌else◌, nat_lt}
use Rattle.std.proofs.Common.{◌≡◌, ℕ, zero, suc, ◌+◌, ◌≤◌, Bool, true, false, not, cond, ◌||◌, ◌&&◌, ◌==◌, List, [], ◌∷◌, Some, refl, sym, ap, ◌∙◌, subst, arith}
use Rattle.std.proofs.lemmas.Bool.{both_ways, eqb-true, eq-eqb, ne_eqb}
use Rattle.std.proofs.lemmas.Bool.Decides.{nat_tests}
use Rattle.sat_clause.specs.declared.literal.Lit.{Lit}
use Rattle.sat_clause.specs.Literal.{is_among}
use Rattle.sat_clause.specs.Live.{Live, clause_at, without}
use Rattle.sat_rat.specs.Counts.{held, times, times_in}
use Rattle.sat_rat.specs.FullRup.{has_id, is_left_out}
use Rattle.sat_rat.proofs.CountLaws.{times_among, times_not_among}

-- ---- the same ids

same_more : (ids js : List ℕ) (a : ℕ) → ((q : ℕ) → has_id ids q ≡ has_id js q) →
    (q : ℕ) → has_id (a ∷ ids) q ≡ has_id (a ∷ js) q
same_more ids js a same q = ap (λ b. (q == a) || b) (same q)

pub held_same : (l : Lit) (ids js : List ℕ) (live : Live) → ((q : ℕ) → has_id ids q ≡ has_id js q) →
    held l ids live ≡ held l js live
held_same l ids js [] same = refl
held_same l ids js (entry ∷ live) same =
    let rest = held_same l (entry.0 ∷ ids) (entry.0 ∷ js) live (same_more ids js entry.0 same) in
    rw (same entry.0, rest) refl

swapped : (a b c : Bool) → (a || (b || c)) ≡ (b || (a || c))
swapped true true c = refl
swapped true false c = refl
swapped false true c = refl
swapped false false c = refl

swap_ids : (a b : ℕ) (ids : List ℕ) (q : ℕ) → has_id (a ∷ b ∷ ids) q ≡ has_id (b ∷ a ∷ ids) q
swap_ids a b ids q = swapped (q == a) (q == b) (has_id ids q)

again_id : (a : ℕ) (ids : List ℕ) → has_id ids a ≡ true → (q : ℕ) →
    has_id (a ∷ ids) q ≡ has_id ids q
again_id a ids is q = by (q == a) refl where
  by : (b : Bool) → (q == a) ≡ b → (b || has_id ids q) ≡ has_id ids q
  by true same = sym (subst (λ (k : ℕ). has_id ids k ≡ true) (sym (eqb-true q a same)) is)
  by false apart = refl

first_id : (a : ℕ) (ids : List ℕ) → has_id (a ∷ ids) a ≡ true
first_id a ids = rw (eq-eqb a a refl) refl

-- ---- a clause goes

pub held_without : (l : Lit) (live : Live) (ids : List ℕ) (id : ℕ) →
    held l ids (without live id) ≡ held l (id ∷ ids) live
held_without l [] ids id = refl
held_without l (entry ∷ live) ids id =
    by (id == entry.0) refl (held_without l live ids id) (held_without l live (entry.0 ∷ ids) id)
  where
    by : (b : Bool) → (id == entry.0) ≡ b →
        held l ids (without live id) ≡ held l (id ∷ ids) live →
        held l (entry.0 ∷ ids) (without live id) ≡ held l (id ∷ entry.0 ∷ ids) live →
        held l ids (if not b then entry ∷ without live id else without live id)
        ≡ (if has_id (id ∷ ids) entry.0 then 0 else times l entry.1)
        + held l (entry.0 ∷ id ∷ ids) live
    by true same gone kept =
        let is : id ≡ entry.0 = eqb-true id entry.0 same in
        let here : has_id (id ∷ ids) entry.0 ≡ true =
        subst (λ (k : ℕ). has_id (id ∷ ids) k ≡ true) is (first_id id ids) in
        let again : held l (entry.0 ∷ id ∷ ids) live ≡ held l (id ∷ ids) live =
        held_same l (entry.0 ∷ id ∷ ids) (id ∷ ids) live (again_id entry.0 (id ∷ ids) here) in
        rw here (omega (arith, gone, again))
    by false apart gone kept =
        let other : (entry.0 == id) ≡ false =
        ne_eqb entry.0 id (λ e. both_ways _ apart (eq-eqb id entry.0 (sym e))) in
        let swap : held l (id ∷ entry.0 ∷ ids) live ≡ held l (entry.0 ∷ id ∷ ids) live =
        held_same l (id ∷ entry.0 ∷ ids) (entry.0 ∷ id ∷ ids) live (swap_ids id entry.0 ids) in
        rw (other, kept, swap) refl

-- ---- one clause of all

pub held_split : (l : Lit) (live : Live) (ids : List ℕ) (id : ℕ) → has_id ids id ≡ false →
    held l ids live ≡ times_in l (clause_at live id) + held l (id ∷ ids) live
held_split l [] ids id none = refl
held_split l (entry ∷ live) ids id none =
    by (id == entry.0) refl (λ apart. held_split l live (entry.0 ∷ ids) id apart)
  where
    by : (b : Bool) → (id == entry.0) ≡ b →
        (has_id (entry.0 ∷ ids) id ≡ false → held l (entry.0 ∷ ids) live
        ≡ times_in l (clause_at live id) + held l (id ∷ entry.0 ∷ ids) live) →
        (if has_id ids entry.0 then 0 else times l entry.1) + held l (entry.0 ∷ ids) live
        ≡ times_in l (cond b (Some entry.1) (clause_at live id))
        + ((if has_id (id ∷ ids) entry.0 then 0 else times l entry.1)
        + held l (entry.0 ∷ id ∷ ids) live)
    by true same rest =
        let is : id ≡ entry.0 = eqb-true id entry.0 same in
        let here : has_id (id ∷ ids) entry.0 ≡ true =
        subst (λ (k : ℕ). has_id (id ∷ ids) k ≡ true) is (first_id id ids) in
        let free : has_id ids entry.0 ≡ false =
        subst (λ (k : ℕ). has_id ids k ≡ false) is none in
        let alike : held l (entry.0 ∷ id ∷ ids) live ≡ held l (entry.0 ∷ ids) live =
        held_same l (entry.0 ∷ id ∷ ids) (entry.0 ∷ ids) live
        (λ q. subst (λ (k : ℕ). has_id (entry.0 ∷ k ∷ ids) q ≡ has_id (entry.0 ∷ ids) q) (sym is)
        (again_id entry.0 (entry.0 ∷ ids) (first_id entry.0 ids) q)) in
        rw (here, free) (omega (arith, alike))
    by false apart rest =
        let other : (entry.0 == id) ≡ false =
        ne_eqb entry.0 id (λ e. both_ways _ apart (eq-eqb id entry.0 (sym e))) in
        let behind = rest (rw (apart, none) refl) in
        let swap : held l (id ∷ entry.0 ∷ ids) live ≡ held l (entry.0 ∷ id ∷ ids) live =
        held_same l (id ∷ entry.0 ∷ ids) (entry.0 ∷ id ∷ ids) live (swap_ids id entry.0 ids) in
        rw other (omega (arith, behind, swap))

-- ---- whether a clause is left out

plus_none : (n : ℕ) → 0 + n ≡ n
plus_none n = omega arith

pub positive : (n : ℕ) → 1 ≤ n → nat_lt 0 n ≡ true
positive zero some = absurd (omega arith)
positive (suc n) some = grind (arith, nat_tests)

pub left_out_held : (l : Lit) (live : Live) (ids : List ℕ) →
    is_left_out l ids live ≡ nat_lt 0 (held l ids live)
left_out_held l [] ids = refl
left_out_held l (entry ∷ live) ids =
    by (has_id ids entry.0) (is_among entry.1 l) refl (left_out_held l live (entry.0 ∷ ids))
  where
    by : (h a : Bool) → is_among entry.1 l ≡ a →
        is_left_out l (entry.0 ∷ ids) live ≡ nat_lt 0 (held l (entry.0 ∷ ids) live) →
        (not h && a || is_left_out l (entry.0 ∷ ids) live)
        ≡ nat_lt 0 ((if h then 0 else times l entry.1) + held l (entry.0 ∷ ids) live)
    by true a among rest =
        rest ∙ ap (nat_lt 0) (sym (plus_none (held l (entry.0 ∷ ids) live)))
    by false true among rest =
        let some = times_among l entry.1 among in
        sym (positive _ (omega (arith, some)))
    by false false among rest =
        rw (times_not_among l entry.1 among)
        (rest ∙ ap (nat_lt 0) (sym (plus_none (held l (entry.0 ∷ ids) live))))
