-- What the kept clauses say holds of the live ones; and the kept clauses with one more.
use Rattle.std.proofs.Common.{inl, inr, ◌⊎◌, ◌≡◌, ◌==◌, ◌<◌, ◌≤◌, ℕ, zero, suc, ℤ, pos, negsuc, neg_ℤ, nat_abs, Bool, true, false, cond, not, List, [], ◌∷◌, length, Option, None, Some, slice_get, slice_index_or, get_or, Contains, All, Any, refl, sym, ap, ◌∙◌, subst, arith}
use Rattle.std.proofs.lemmas.Bool.{both_ways, cases_order, eqb-true}
use Rattle.std.proofs.lemmas.List.{get_or_default}
use Rattle.std.proofs.lemmas.List.Elements.{All-contains, All-weaker}
use Rattle.std.proofs.lemmas.List.Folds.{Any-from_list_any}
use Rattle.std.proofs.lemmas.Option.{slice_get-get_or}
use Rattle.sat_clause.specs.declared.literal.Lit.{Lit}
use Rattle.sat_clause.specs.declared.reading.Reading.{Reading}
use Rattle.sat_clause.specs.declared.reading.Reading.TheVariants.{Conflict, Unit, Satisfied, Unresolved}
use Rattle.sat_clause.specs.Formula.{Cnf, IsTrueClause, Satisfies, makes_number_true, makes_true}
use Rattle.sat_clause.specs.Literal.{Clause, IsWithin, is_among, negation, variable}
use Rattle.sat_clause.specs.Learned.{EachIsUsed, HintHas, IsFresh, IsRelevant, IsSimple, SameLiterals}
use Rattle.sat_clause.specs.Live.{Live, clause_at, named, put}
use Rattle.sat_clause.specs.Rup.{Reads, follow, lead_on, reading_of, rup}
use Rattle.sat_clause.proofs.LiteralLaws.{among_contains, negation_differs, variable_negation}
use Rattle.sat_core.specs.Kept.{AreAmong, AreBelow, AreKept, HasOnce, SameLive, is_always_true}
use Rattle.sat_core.proofs.SameLaws.{same_back, same_conflict, same_then, same_unit}

-- of a variable one literal stands in a clause that has none twice
of_one_variable : (clause : Clause) (a b : Lit) → HasOnce clause → variable a ≡ variable b →
    Contains clause a → Contains clause b → a ≡ b
of_one_variable clause a b once same (j, j_in, j_is) (k, k_in, k_is) =
    let j_too : get_or clause j b ≡ a = get_or_default clause j b a j_in ∙ j_is in
    let k_too : get_or clause k a ≡ b = get_or_default clause k a b k_in ∙ k_is in
    elim (cases_order j k) [
      | inl at ↦ sym j_is ∙ ap (λ (i : ℕ). get_or clause i a) at ∙ k_too
      | inr apart ↦ elim apart [
        | inl below ↦ absurd (once j k a below k_in
            (ap variable j_is ∙ same ∙ sym (ap variable k_too)))
        | inr above ↦ absurd (once k j b above j_in
            (ap variable k_is ∙ sym same ∙ sym (ap variable j_too)))
      ]
    ]

-- so a literal does not stand in it with its negation
not_both : (n : ℕ) (clause : Clause) (l : Lit) → IsSimple n clause → Contains clause l →
    Contains clause (negation l) → ⊥
not_both n clause l simple has has_negation =
    let within : IsWithin n l = All-contains (IsWithin n) clause l simple.within has in
    negation_differs l within.0
    (of_one_variable clause (negation l) l simple.once (variable_negation l) has_negation has)

-- of a variable with a value one literal is true
one_is_true : (values : List Bool) (z : ℤ) → 1 ≤ nat_abs z → nat_abs z ≤ length values →
    (makes_number_true values z ≡ true) ⊎ (makes_number_true values (neg_ℤ z) ≡ true)
one_is_true values (pos zero) some most = absurd (omega (arith, some))
one_is_true values (pos (suc n)) some most =
    let same : slice_index_or values n true ≡ slice_index_or values n false = get_or_default values
    n true false (omega (arith, most)) in
    elim (slice_index_or values n false) as
    (λ b. slice_index_or values n false ≡ b → (b ≡ true) ⊎
    (not (slice_index_or values n true) ≡ true)) [
      | true ↦ λ is. inl refl
      | false ↦ λ is. inr (rw (same, is) refl)
    ] refl
one_is_true values (negsuc n) some most =
    let same : slice_index_or values n true ≡ slice_index_or values n false = get_or_default values
    n true false (omega (arith, most)) in
    elim (slice_index_or values n false) as
    (λ b. slice_index_or values n false ≡ b → (not (slice_index_or values n true) ≡ true) ⊎
    (b ≡ true)) [
      | true ↦ λ is. inr refl
      | false ↦ λ is. inl (rw (same, is) refl)
    ] refl

true_here : (values : List Bool) (clause : Clause) (l : Lit) → Contains clause l →
    makes_true values l ≡ true → IsTrueClause values clause
true_here values clause l has is = (has.0, l, has.1, has.2, is)

-- a literal and its negation stand in a clause that is always true
opposite : (clause : Clause) → is_always_true clause ≡ true →
    (l : Lit) × Contains clause l × Contains clause (negation l)
opposite clause is =
    let some = Any-from_list_any (λ l. is_among clause (negation l)) clause is in
    let l : Lit = some.1 in
    (l, (some.0, some.2, some.3), among_contains clause (negation l) some.4)

-- so values make it true, whatever they are
always_true : (values : List Bool) (clause : Clause) → All (IsWithin (length values)) clause →
    is_always_true clause ≡ true → IsTrueClause values clause
always_true values clause within is =
    let both = opposite clause is in
    let l : Lit = both.0 in
    let l_in : IsWithin (length values) l = All-contains (IsWithin (length values)) clause l within
    both.1 in
    elim (one_is_true values l.code l_in.0 l_in.1) [
      | inl plain ↦ true_here values clause l both.1 plain
      | inr negated ↦ true_here values clause (negation l) both.2 negated
    ]

module _ (kept live : Live) (are : AreAmong kept live) where
  -- a hint that names a kept clause names a live one with the same literals
  pub named_kept : (h : ℤ) (c : Clause) → named kept h ≡ Some c →
      (d : Clause) × (named live h ≡ Some d) × SameLiterals c d
  named_kept (pos zero) c is = cc
  named_kept (pos (suc n)) c is = are (suc n) c is
  named_kept (negsuc n) c is = cc

  -- hints that are good over the kept clauses are good over the live ones
  pub rup_kept : (set : List Lit) (hints : List ℤ) → rup kept set hints ≡ None →
      rup live set hints ≡ None
  rup_kept set [] e = cc
  rup_kept set (h ∷ hints) e =
      by (named kept h) refl e (λ l. rup_kept (negation l ∷ set) hints)
    where
      said : (c d : Clause) → SameLiterals c d → (r : Reading) → reading_of set c ≡ r →
          lead_on r hints (λ l. rup kept (negation l ∷ set) hints) ≡ None →
          ((l : Lit) → rup kept (negation l ∷ set) hints ≡ None → rup live (negation l ∷ set) hints
          ≡ None) →
          lead_on (reading_of set d) hints (λ l. rup live (negation l ∷ set) hints) ≡ None
      said c d same Conflict is e more = rw (same_conflict set c d same is) e
      said c d same (Unit l) is e more = rw (same_unit set l c d same is) (more l e)
      said c d same Satisfied is e more = cc
      said c d same Unresolved is e more = cc

      by : (o : Option Clause) → named kept h ≡ o →
          follow set o hints (λ l. rup kept (negation l ∷ set) hints) ≡ None →
          ((l : Lit) → rup kept (negation l ∷ set) hints ≡ None → rup live (negation l ∷ set) hints
          ≡ None) →
          rup live set (h ∷ hints) ≡ None
      by None is e more = cc
      by (Some c) is e more =
          let d = named_kept h c is in rw d.1 (said c d.0 d.2 (reading_of set c) refl e more)

module _ (kept live : Live) (among : AreAmong kept live) where
  unit_kept : (set : List Lit) (h : ℤ) (l : Lit) → Reads set (named kept h) (Unit l) →
      Reads set (named live h) (Unit l)
  unit_kept set h l reads = by (named kept h) refl reads
    where
      by : (o : Option Clause) → named kept h ≡ o → Reads set o (Unit l) →
          Reads set (named live h) (Unit l)
      by None is reads = absurd reads
      by (Some c) is reads =
          let d = named_kept kept live among h c is in rw d.1 (same_unit set l c d.0 d.2 reads)

  has_kept : (l : Lit) (h : ℤ) → HintHas kept l h → HintHas live l h
  has_kept l h has =
      let d = named_kept kept live among h has.0 has.1 in
      (d.0, d.1, All-contains (Contains d.0) has.0 l d.2.0 has.2)

  some_kept : (l : Lit) (hints : List ℤ) → Any (HintHas kept l) hints → Any (HintHas live l) hints
  some_kept l hints some = (some.0, some.1, some.2, some.3, has_kept l some.1 some.4)

  used_kept : (set : List Lit) (hints : List ℤ) → EachIsUsed kept set hints →
      EachIsUsed live set hints
  used_kept set [] used = tt
  used_kept set (h ∷ []) used = tt
  used_kept set (h ∷ next ∷ hints) used = (
    used.0,
    unit_kept set h used.0 used.1,
    some_kept (negation used.0) (next ∷ hints) used.2,
    used_kept (negation used.0 ∷ set) (next ∷ hints) used.3,
  )

  -- and they are needed as much
  pub relevant_kept : (clause : Clause) (hints : List ℤ) → IsRelevant kept clause hints →
      IsRelevant live clause hints
  relevant_kept clause hints relevant = record {
    each_literal = All-weaker (λ l. Any (HintHas kept l) hints) (λ l. Any (HintHas live l) hints)
        (λ l some. some_kept l hints some) clause relevant.each_literal;
    each_hint = used_kept clause hints relevant.each_hint;
  }

module _ (kept live : Live) (are : AreKept kept live) where
  -- a clause into which no kept clause fits is new
  pub fresh_kept : (n : ℕ) (clause : Clause) → IsSimple n clause → IsFresh kept clause →
      IsFresh live clause
  fresh_kept n clause simple fresh id d at all = by (is_always_true d) refl
    where
      by : (b : Bool) → is_always_true d ≡ b → ⊥
      by true is =
          let both = opposite d is in
          let l : Lit = both.0 in
          not_both n clause l simple (All-contains (Contains clause) d l all both.1)
          (All-contains (Contains clause) d (negation l) all both.2)
      by false is =
          let c = are.are_all id d at is in
          fresh id c.0 c.1 (All-weaker (Contains d) (Contains clause)
          (λ m has. All-contains (Contains clause) d m all has) c.0 c.2.0)

  -- values that make the kept clauses true make each live clause true
  true_kept : (values : List Bool) →
      ((id : ℕ) (c : Clause) → clause_at kept id ≡ Some c → All (IsWithin (length values)) c →
      IsTrueClause values c) →
      (id : ℕ) (d : Clause) → clause_at live id ≡ Some d → All (IsWithin (length values)) d →
      IsTrueClause values d
  true_kept values satisfied id d at within = by (is_always_true d) refl
    where
      by : (b : Bool) → is_always_true d ≡ b → IsTrueClause values d
      by true is = always_true values d within is
      by false is =
          let c = are.are_all id d at is in
          let some : IsTrueClause values c.0 = satisfied id c.0 c.1
          (All-weaker (Contains d) (IsWithin (length values))
          (λ l has. All-contains (IsWithin (length values)) d l within has) c.0 c.2.0) in
          let l : Lit = some.1 in
          true_here values d l (All-contains (Contains d) c.0 l c.2.0 (some.0, some.2, some.3))
          some.4

  -- so they satisfy the formula whose clauses are live
  pub model_kept : (formula : Cnf) (values : List Bool) → length values ≡ formula.vars →
      All (All (IsWithin formula.vars)) formula.clauses →
      ((i : ℕ) (c : Clause) → slice_get formula.clauses i ≡ Some c → clause_at live (suc i) ≡ Some
      c) →
      ((id : ℕ) (c : Clause) → clause_at kept id ≡ Some c → All (IsWithin (length values)) c →
      IsTrueClause values c) →
      Satisfies values formula
  model_kept formula values many within inputs_live satisfied = record {
    one_each = many;
    each_clause = λ k d inside.
        let c : Clause = get_or formula.clauses k d in
        let here : slice_get formula.clauses k ≡ Some c = slice_get-get_or formula.clauses k d
        inside in
        let c_in : All (IsWithin (length values)) c = rw many (within k d inside) in
        true_kept values satisfied (suc k) c (inputs_live k c here) c_in;
  }

none_at : (o : Option Clause) → ((c : Clause) → o ≡ Some c → ⊥) → o ≡ None
none_at None never_some = refl
none_at (Some c) never_some = absurd (never_some c refl)

-- the next id has no clause
pub none_next : (id : ℕ) (live : Live) → AreBelow id live → clause_at live id ≡ None
none_next id live below =
    none_at (clause_at live id) (λ c at. let old = below id c at in omega (arith, old.1))

-- nor has 0
pub none_zero : (id : ℕ) (live : Live) → AreBelow id live → clause_at live 0 ≡ None
none_zero id live below =
    none_at (clause_at live 0) (λ c at. let old = below 0 c at in omega (arith, old.0))

-- one more clause under the next id
pub put_below : (id : ℕ) (live : Live) (clause : Clause) → 1 ≤ id → AreBelow id live →
    AreBelow (suc id) (put live id clause)
put_below id live clause some below n c at = by (n == id) refl at where
  by : (b : Bool) → (n == id) ≡ b → cond b (Some clause) (clause_at live n) ≡ Some c → (1 ≤ n) ×
      (n < suc id)
  by true same at = let one = eqb-true n id same in (omega (arith, one, some), omega (arith, one))
  by false same at = let old = below n c at in (old.0, omega (arith, old.1))

-- maps with the same clauses
pub kept_alike : (kept more live now : Live) → SameLive kept more → SameLive live now →
    AreKept kept live → AreKept more now
kept_alike kept more live now same_kept same_live are = record {
  are_live = λ id c at.
      let d = are.are_live id c (same_kept id ∙ at) in (d.0, sym (same_live id) ∙ d.1, d.2);
  are_all = λ id d at not_always.
      let c = are.are_all id d (same_live id ∙ at) not_always in
      (c.0, sym (same_kept id) ∙ c.1, c.2);
  once = λ id c at. are.once id c (same_kept id ∙ at);
}

-- the same clauses in other orders
pub kept_same : (kept now live : Live) → AreAmong kept now → AreAmong now kept →
    ((id : ℕ) (c : Clause) → clause_at now id ≡ Some c → HasOnce c) → AreKept kept live →
    AreKept now live
kept_same kept now live among back once are = record {
  are_live = λ id c at.
      let x = back id c at in
      let d = are.are_live id x.0 x.1 in
      (d.0, d.1, same_then c x.0 d.0 x.2 d.2);
  are_all = λ id d at not_always.
      let x = are.are_all id d at not_always in
      let c = among id x.0 x.1 in
      (c.0, c.1, same_then c.0 x.0 d (same_back x.0 c.0 c.2) x.2);
  once = once;
}

pub kept_nil : AreKept [] []
kept_nil = record {
  are_live = λ id c at. cc;
  are_all = λ id d at not_always. cc;
  once = λ id c at. cc;
}

-- one more clause
pub kept_put : (kept live : Live) (id : ℕ) (c d : Clause) → AreKept kept live → SameLiterals c d →
    HasOnce c → AreKept (put kept id c) (put live id d)
kept_put kept live id c d are same once = record {
  are_live = λ n x at. live_at n x (n == id) at;
  are_all = λ n x at not_always. all_at n x not_always (n == id) at;
  once = λ n x at. once_at n x (n == id) at;
}
  where
    live_at : (n : ℕ) (x : Clause) (b : Bool) → cond b (Some c) (clause_at kept n) ≡ Some x →
        (y : Clause) × (cond b (Some d) (clause_at live n) ≡ Some y) × SameLiterals x y
    live_at n x true at = let is : c ≡ x = cc in
        (d, refl, subst (λ (z : Clause). SameLiterals z d) is same)
    live_at n x false at = are.are_live n x at

    all_at : (n : ℕ) (y : Clause) → is_always_true y ≡ false → (b : Bool) → cond b (Some d)
        (clause_at live n) ≡ Some y →
        (x : Clause) × (cond b (Some c) (clause_at kept n) ≡ Some x) × SameLiterals x y
    all_at n y not_always true at = let is : d ≡ y = cc in
        (c, refl, subst (λ (z : Clause). SameLiterals c z) is same)
    all_at n y not_always false at = are.are_all n y at not_always

    once_at : (n : ℕ) (x : Clause) (b : Bool) → cond b (Some c) (clause_at kept n) ≡ Some x →
        HasOnce x
    once_at n x true at = let is : c ≡ x = cc in subst HasOnce is once
    once_at n x false at = are.once n x at

-- one more clause that is always true is not kept
pub kept_skip : (kept live : Live) (id : ℕ) (d : Clause) → AreKept kept live → clause_at kept id ≡
    None →
    is_always_true d ≡ true → AreKept kept (put live id d)
kept_skip kept live id d are new always = record {
  are_live = λ n x at. live_at n x at (n == id) refl;
  are_all = λ n y at not_always. all_at n y not_always (n == id) at;
  once = are.once;
}
  where
    live_at : (n : ℕ) (x : Clause) → clause_at kept n ≡ Some x → (b : Bool) → (n == id) ≡ b →
        (y : Clause) × (cond b (Some d) (clause_at live n) ≡ Some y) × SameLiterals x y
    live_at n x at true is =
        let same : n ≡ id = eqb-true n id is in
        let none : clause_at kept n ≡ None = ap (clause_at kept) same ∙ new in
        let bad : None ≡ Some x = sym none ∙ at in cc
    live_at n x at false is = are.are_live n x at

    all_at : (n : ℕ) (y : Clause) → is_always_true y ≡ false → (b : Bool) → cond b (Some d)
        (clause_at live n) ≡ Some y →
        (x : Clause) × (clause_at kept n ≡ Some x) × SameLiterals x y
    all_at n y not_always true at = let is : d ≡ y = cc in absurd
        (both_ways _ not_always (ap is_always_true (sym is) ∙ always))
    all_at n y not_always false at = are.are_all n y at not_always
