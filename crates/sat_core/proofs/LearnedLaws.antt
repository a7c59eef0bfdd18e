-- A clause that comes of a false one and of marked reasons follows by them; an asserting one is
-- new, and the trail that is cut back to it is again one of the clauses.
use Rattle.std.specs.Prelude.{nat_le}
use Rattle.std.proofs.Common.{inl, inr, ◌⊎◌, ◌≡◌, ◌≢◌, ◌<◌, ◌≤◌, ◌-◌, ℕ, zero, suc, ℤ, pos, Bool, true, false, List, [], ◌∷◌, ◌++◌, Option, None, Some, slice_get, Contains, All, refl, sym, ap, ◌∙◌, subst, arith}
use Rattle.std.proofs.lemmas.Bool.{both_ways, false_from_ne_true, leb-true, le-leb}
use Rattle.std.proofs.lemmas.List.{append_assoc, append-nil}
use Rattle.std.proofs.lemmas.List.Elements.{All-contains, All-contains_itself, All-filter, All-head, All-tail, All-weaker, filter_passes}
use Rattle.sat_clause.specs.declared.literal.Lit.{Lit}
use Rattle.sat_clause.specs.declared.reading.Reading.TheVariants.{Conflict, Unit}
use Rattle.sat_clause.specs.Learned.{IsFresh}
use Rattle.sat_clause.specs.Literal.{Clause, is_among, negation, variable}
use Rattle.sat_clause.specs.Live.{Live, clause_at, named}
use Rattle.sat_clause.specs.Rup.{Reads, reading_of, rup}
use Rattle.sat_clause.specs.Trail.{IsOnce, IsOpen}
use Rattle.sat_clause.proofs.LiteralLaws.{among_cases, among_contains, among_here, among_more, contains_among, variable_negation}
use Rattle.sat_clause.proofs.ReadingLaws.{IsFalseOr, all_conflict, follow_conflict, follow_unit, not_quiet, open_is_unit, unit_is_open}
use Rattle.sat_core.specs.Levels.{AreAccounted, AreCaused, Assigned, HasCause, IsAccounted, IsAsserting, IsDerived, IsFalseFrom, IsMarked, IsPropagatedBelow, IsPropagatedTrail, level_of, lits_of, made_false, marked_ids, marked_reason, up_to}
use Rattle.sat_core.proofs.LevelLaws.{in_made_false, not_in_made_false, only_entry, open_from_entries}

-- HINTS

-- what is false behind the marked reasons
abbrev pub known_by : Clause → List Assigned → List Bool → List Lit
known_by clause [] marks = clause
known_by clause (e ∷ older) [] = clause
known_by clause (e ∷ older) (true ∷ marks) = negation e.lit ∷ known_by clause older marks
known_by clause (e ∷ older) (false ∷ marks) = known_by clause older marks

clause_known : (clause : Clause) (trail : List Assigned) (marks : List Bool) (m : Lit) → is_among
    clause m ≡ true →
    is_among (known_by clause trail marks) m ≡ true
clause_known clause [] marks m is = is
clause_known clause (e ∷ older) [] m is = is
clause_known clause (e ∷ older) (true ∷ marks) m is =
    among_more (known_by clause older marks) (negation e.lit) m
    (clause_known clause older marks m is)
clause_known clause (e ∷ older) (false ∷ marks) m is = clause_known clause older marks m is

marked_known : (clause : Clause) (trail : List Assigned) (marks : List Bool) (e : Assigned) (k : ℕ)
    →
    slice_get trail k ≡ Some e → slice_get marks k ≡ Some true →
    is_among (known_by clause trail marks) (negation e.lit) ≡ true
marked_known clause [] marks e k at mark = cc
marked_known clause (x ∷ older) [] e k at mark = cc
marked_known clause (x ∷ older) (true ∷ marks) e zero at mark =
    let same : x ≡ e = cc in
    subst (λ (y : Assigned). is_among (negation x.lit ∷ known_by clause older marks)
    (negation y.lit) ≡ true) same
    (among_here (known_by clause older marks) (negation x.lit))
marked_known clause (x ∷ older) (false ∷ marks) e zero at mark = cc
marked_known clause (x ∷ older) (true ∷ marks) e (suc k) at mark =
    among_more (known_by clause older marks) (negation x.lit) (negation e.lit)
    (marked_known clause older marks e k at mark)
marked_known clause (x ∷ older) (false ∷ marks) e (suc k) at mark = marked_known clause older marks
    e k at mark

accounted_known : (clause : Clause) (trail : List Assigned) (marks : List Bool) (m : Lit) →
    IsAccounted clause trail marks m → is_among (known_by clause trail marks) m ≡ true
accounted_known clause trail marks m (inl has) = clause_known clause trail marks m
    (contains_among clause m has)
accounted_known clause trail marks m (inr some) =
    let e : Assigned = some.0 in
    subst (λ (l : Lit). is_among (known_by clause trail marks) l ≡ true) some.2
    (marked_known clause trail marks e some.1.0 some.1.1 some.1.2)

-- a literal of another variable than all entries that is not in the clause is not known
not_known : (clause : Clause) (trail : List Assigned) (marks : List Bool) (m : Lit) → is_among
    clause m ≡ false →
    IsOpen (lits_of trail) m → is_among (known_by clause trail marks) m ≡ false
not_known clause [] marks m out free = out
not_known clause (e ∷ older) [] m out free = out
not_known clause (e ∷ older) (false ∷ marks) m out free =
    not_known clause older marks m out
    (All-tail (λ (x : Lit). variable x ≢ variable m) e.lit (lits_of older) free)
not_known clause (e ∷ older) (true ∷ marks) m out free =
    let P = λ (x : Lit). variable x ≢ variable m in
    false_from_ne_true _ (λ is. elim
    (among_cases (known_by clause older marks) (negation e.lit) m is) [
      | inl same ↦ All-head P e.lit (lits_of older) free
          (sym (variable_negation e.lit) ∙ ap variable same)
      | inr later ↦ both_ways _ (not_known clause older marks m out
          (All-tail P e.lit (lits_of older) free)) later
    ])

-- no literal of an open variable stands in a clause
not_in : (clause : Clause) (l m : Lit) → IsOpen clause l → variable m ≡ variable l → is_among clause
    m ≡ false
not_in clause l m free same =
    false_from_ne_true _ (λ is. All-contains (λ (x : Lit). variable x ≢ variable l) clause m free
    (among_contains clause m is) same)

-- the marks of the older entries
pub marked_later : (x e : Assigned) (older : List Assigned) (mark : Bool) (marks : List Bool) →
    IsMarked older marks e →
    IsMarked (x ∷ older) (mark ∷ marks) e
marked_later x e older mark marks (k, at, is) = (suc k, at, is)

module _ (live : Live) (none : clause_at live 0 ≡ None) (clause : Clause) where
  pub named_is : (id : ℕ) (c : Clause) → clause_at live id ≡ Some c → named live (pos id) ≡ Some c
  named_is zero c is = let bad : None ≡ Some c = sym none ∙ is in cc
  named_is (suc n) c is = is

  -- a marked reason makes its entry true behind the marked older ones
  pub reason_reads : (older : List Assigned) (marks : List Bool) (e : Assigned) (id : ℕ)
      (c : Clause) → IsOpen (lits_of older) e.lit → IsOpen clause e.lit →
      clause_at live id ≡ Some c →
      reading_of (made_false older) c ≡ Unit e.lit →
      All (λ m. (m ≡ e.lit) ⊎ IsAccounted clause older marks m) c →
      Reads (known_by clause older marks) (named live (pos id)) (Unit e.lit)
  reason_reads older marks e id c free apart is cause all =
      let known : List Lit = known_by clause older marks in
      let one = unit_is_open (made_false older) e.lit c cause in
      let free_too : IsOpen (lits_of older) (negation e.lit) =
      λ k d within same. free k d within (same ∙ variable_negation e.lit) in
      let reads : reading_of known c ≡ Unit e.lit =
      open_is_unit known e.lit c (record {
        has = one.0.has;
        free = not_known clause older marks e.lit (not_in clause e.lit e.lit apart refl) free;
        rest = All-weaker (λ m. (m ≡ e.lit) ⊎ IsAccounted clause older marks m)
            (IsFalseOr known e.lit)
            (λ m h. elim h [
              | inl same ↦ inr same
              | inr acc ↦ inl
                  (accounted_known clause older marks m acc)
            ]) c all;
      }) (not_known clause older marks (negation e.lit)
      (not_in clause e.lit (negation e.lit) apart (variable_negation e.lit)) free_too) in
      rw (named_is id c is) reads

  lead : (trail : List Assigned) (marks : List Bool) (rest : List ℤ) → IsOnce (lits_of trail) →
      AreCaused live trail →
      AreAccounted live clause trail marks →
      ((e : Assigned) → IsMarked trail marks e → IsOpen clause e.lit) →
      rup live clause (marked_ids trail marks ++ rest) ≡ rup live (known_by clause trail marks) rest
  lead [] marks rest once caused accounted apart = refl
  lead (e ∷ older) [] rest once caused accounted apart = refl
  lead (e ∷ older) (false ∷ marks) rest once caused accounted apart =
      ap (λ (hs : List ℤ). rup live clause (hs ++ rest)) (append-nil (marked_ids older marks))
      ∙ lead older marks rest once.1 caused.1 accounted
      (λ f m. apart f (marked_later e f older false marks m))
  lead (e ∷ older) (true ∷ marks) rest once caused accounted apart =
      let id : ℕ = accounted.0.0 in
      let c : Clause = accounted.0.1 in
      let why : e.reason ≡ Some id = accounted.0.2 in
      let is : clause_at live id ≡ Some c = accounted.0.3 in
      let reads : Reads (made_false older) (clause_at live id) (Unit e.lit) = subst
      (HasCause live older e.lit) why caused.0 in
      let cause : reading_of (made_false older) c ≡ Unit e.lit = subst
      (λ (o : Option Clause). Reads (made_false older) o (Unit e.lit)) is reads in
      let says = reason_reads older marks e id c once.0 (apart e (zero, refl, refl)) is cause
      accounted.0.4 in
      ap (λ (r : Option ℕ). rup live clause
      ((marked_ids older marks ++ marked_reason true r) ++ rest)) why
      ∙ ap (rup live clause) (append_assoc (marked_ids older marks) (pos id ∷ []) rest)
      ∙ lead older marks (pos id ∷ rest) once.1 caused.1 accounted.1
      (λ f m. apart f (marked_later e f older true marks m))
      ∙ follow_unit (known_by clause older marks) (named live (pos id)) e.lit rest _ says

  -- so what comes of them follows by their ids and that of the false clause
  pub derived_follows : (trail : List Assigned) (marks : List Bool) (id : ℕ) (conflict : Clause) →
      IsOnce (lits_of trail) →
      AreCaused live trail → clause_at live id ≡ Some conflict → IsDerived live trail conflict
      clause marks →
      rup live clause (marked_ids trail marks ++ pos id ∷ []) ≡ None
  derived_follows trail marks id conflict once caused is derived =
      let known : List Lit = known_by clause trail marks in
      let all : All (λ (m : Lit). is_among known m ≡ true) conflict =
      All-weaker (IsAccounted clause trail marks) (λ (m : Lit). is_among known m ≡ true)
      (λ m acc. accounted_known clause trail marks m acc) conflict derived.ends in
      let reads : Reads known (named live (pos id)) Conflict = rw (named_is id conflict is)
      (all_conflict known conflict all) in
      lead trail marks (pos id ∷ []) once caused derived.accounted derived.apart
      ∙ follow_conflict known (named live (pos id)) _ reads

-- ASSERTING CLAUSES

module _ (clauses : Live) (trail : List Assigned) (level back : ℕ) (first : Lit) (clause : Clause)
    (once : IsOnce (lits_of trail)) (asserts : IsAsserting trail level back first clause) where
  -- below a level at which a literal became false none of its variable's is
  later_other : (j k : ℕ) (l : Lit) → j < k → IsFalseFrom trail k l → (e : Assigned) → Contains
      trail e →
      nat_le e.level j ≡ true → variable e.lit ≢ variable l
  later_other j k l below from e has is same =
      let f : Assigned = from.0 in
      let one : e ≡ f = only_entry trail once e f has from.1
      (same ∙ ap variable (sym from.2) ∙ variable_negation f.lit) in
      let at : e.level ≡ k = ap (λ (x : Assigned). x.level) one ∙ from.3 in
      let under = leb-true e.level j is in
      absurd (omega (arith, at, under, below))

  later_open : (j k : ℕ) (l : Lit) → j < k → IsFalseFrom trail k l → is_among
      (made_false (up_to j trail)) l ≡ false
  later_open j k l below from =
      not_in_made_false j trail l (λ e has is same. later_other j k l below from e has is
      (sym (variable_negation e.lit) ∙ ap variable same))

  later_not_true : (j k : ℕ) (l : Lit) → j < k → IsFalseFrom trail k l →
      is_among (made_false (up_to j trail)) (negation l) ≡ false
  later_not_true j k l below from =
      not_in_made_false j trail (negation l)
      (λ e has is same. later_other j k l below from e has is
      (sym (variable_negation e.lit) ∙ ap variable same ∙ variable_negation l))

  -- from the level `back` on its other literals are false
  pub all_false_or : (j : ℕ) → back ≤ j → All (IsFalseOr (made_false (up_to j trail)) first) clause
  all_false_or j most =
      All-weaker (λ l. (l ≡ first) ⊎ ((k : ℕ) × (1 ≤ k) × (k ≤ back) × IsFalseFrom trail k l))
      (IsFalseOr (made_false (up_to j trail)) first)
      (λ l which. elim which [
        | inl same ↦ inr same
        | inr from ↦
            let e : Assigned = from.3.0 in
            let at : e.level ≡ from.0 = from.3.3 in
            let under : nat_le e.level j ≡ true = le-leb e.level j (omega (arith, at, from.2, most))
            in
            inl (subst (λ (x : Lit). is_among (made_false (up_to j trail)) x ≡ true) from.3.2
            (in_made_false j trail e from.3.1 under))
      ]) clause asserts.lower

  -- it is new where the clauses were propagated below the current level
  pub asserting_is_fresh : IsPropagatedBelow clauses trail level → IsFresh clauses clause
  asserting_is_fresh propagated id old at all =
      let below : back < level = asserts.below in
      let j : ℕ = level - 1 in
      let under : j < level = omega (arith, below) in
      not_quiet (made_false (up_to j trail)) first old
      (later_open j level first under asserts.last)
      (later_not_true j level first under asserts.last)
      (All-weaker (Contains clause) (IsFalseOr (made_false (up_to j trail)) first)
      (λ m has. All-contains (IsFalseOr (made_false (up_to j trail)) first) clause m
      (all_false_or j (omega (arith, below))) has) old all)
      (propagated j under id old at)

module _ (clauses : Live) (vars : ℕ) (trail : List Assigned) (back : ℕ) (first : Lit)
    (clause : Clause) (holds : IsPropagatedTrail clauses vars trail)
    (asserts : IsAsserting trail (level_of trail) back first clause) where
  pub first_is_open : IsOpen (lits_of (up_to back trail)) first
  first_is_open =
      open_from_entries (up_to back trail) first (λ f has.
      let low : nat_le f.level back ≡ true = All-contains
      (λ (x : Assigned). nat_le x.level back ≡ true) (up_to back trail) f
      (λ k d within. filter_passes (λ (e : Assigned). nat_le e.level back) trail k d within) has
      in
      let there : Contains trail f = All-contains (Contains trail) (up_to back trail) f
      (All-filter (λ (e : Assigned). nat_le e.level back) (Contains trail) trail
      (All-contains_itself trail)) has in
      later_other clauses trail (level_of trail) back first clause holds.once asserts back
      (level_of trail) first asserts.below asserts.last f there low)
