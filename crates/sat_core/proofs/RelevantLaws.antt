-- What is derived needs its hints.
use Rattle.std.proofs.Common.{inl, inr, ◌⊎◌, ◌≡◌, ℕ, zero, suc, ℤ, pos, Bool, true, false, List, [], ◌∷◌, ◌++◌, take, Option, None, Some, slice_get, Contains, All, Any, refl, sym, ap, ◌∙◌, subst, arith}
use Rattle.std.proofs.lemmas.List.{append_assoc, append-nil, get_or_append_left, length-append}
use Rattle.std.proofs.lemmas.List.Elements.{All-weaker}
use Rattle.sat_clause.specs.declared.literal.Lit.{Lit}
use Rattle.sat_clause.specs.declared.reading.Reading.TheVariants.{Unit}
use Rattle.sat_clause.specs.Learned.{EachIsUsed, HintHas, IsRelevant}
use Rattle.sat_clause.specs.Literal.{Clause, negation}
use Rattle.sat_clause.specs.Live.{Live, clause_at}
use Rattle.sat_clause.specs.Rup.{Reads, reading_of}
use Rattle.sat_clause.specs.Trail.{IsOnce, IsOpen}
use Rattle.sat_core.specs.Levels.{AreAccounted, AreCaused, AreNeeded, Assigned, HasCause, IsDerived, IsMarked, StandsInReason, lits_of, made_false, marked_ids, marked_reason}
use Rattle.sat_core.proofs.LearnedLaws.{known_by, marked_later, named_is, reason_reads}

any-cons : {X : Type 0} (P : X → Type 0) (x : X) (xs : List X) → Any P xs → Any P (x ∷ xs)
any-cons P x xs (k, y, within, at, is) = (suc k, y, omega (arith, within), at, is)

any-front : {X : Type 0} (P : X → Type 0) (xs ys : List X) → Any P xs → Any P (xs ++ ys)
any-front P xs ys (k, x, within, at, is) = (
  k,
  x,
  omega (arith, within, length-append xs ys),
  get_or_append_left xs ys x k within ∙ at,
  is,
)

any-back : {X : Type 0} (P : X → Type 0) (xs ys : List X) → Any P ys → Any P (xs ++ ys)
any-back P [] ys some = some
any-back P (x ∷ xs) ys some = any-cons P x (xs ++ ys) (any-back P xs ys some)

-- the id of a marked entry's reason is among the marked ids
marked_has : (P : ℤ → Type 0) (trail : List Assigned) (marks : List Bool) (e : Assigned) (id k : ℕ)
    → slice_get trail k ≡ Some e → slice_get marks k ≡ Some true → e.reason ≡ Some id →
    P (pos id) → Any P (marked_ids trail marks)
marked_has P [] marks e id k at mark why is = cc
marked_has P (x ∷ older) [] e id k at mark why is = cc
marked_has P (x ∷ older) (m ∷ marks) e id zero at mark why is =
    let same : x ≡ e = cc in
    let marked : m ≡ true = cc in
    let because : x.reason ≡ Some id = ap (λ (y : Assigned). y.reason) same ∙ why in
    any-back P (marked_ids older marks) (marked_reason m x.reason)
    (rw (marked, because) (0, pos id, omega arith, refl, is))
marked_has P (x ∷ older) (m ∷ marks) e id (suc k) at mark why is =
    any-front P (marked_ids older marks) (marked_reason m x.reason)
    (marked_has P older marks e id k at mark why is)

module _ (live : Live) (none : clause_at live 0 ≡ None) (clause : Clause) where
  in_reason : (newer : List Assigned) (marks : List Bool) (l : Lit) →
      StandsInReason live newer marks l → Any (HintHas live l) (marked_ids newer marks)
  in_reason newer marks l stands =
      marked_has (HintHas live l) newer marks stands.0 stands.1 stands.3.0 stands.3.1 stands.3.2
      stands.4 (stands.2, named_is live none clause stands.1 stands.2 stands.5, stands.6)

  -- the marked reasons before other hints are used, where the negation of each marked entry stands
  -- in a later one
  used_before : (trail : List Assigned) (marks : List Bool) (next : ℤ) (rest : List ℤ) →
      IsOnce (lits_of trail) → AreCaused live trail → AreAccounted live clause trail marks →
      ((e : Assigned) → IsMarked trail marks e → IsOpen clause e.lit) →
      ((k : ℕ) (e : Assigned) → slice_get trail k ≡ Some e → slice_get marks k ≡ Some true →
      Any (HintHas live (negation e.lit)) (marked_ids (take k trail) (take k marks)
      ++ next ∷ rest)) →
      EachIsUsed live (known_by clause trail marks) (next ∷ rest) →
      EachIsUsed live clause (marked_ids trail marks ++ next ∷ rest)
  used_before [] marks next rest once caused accounted apart needed used = used
  used_before (e ∷ older) [] next rest once caused accounted apart needed used = used
  used_before (e ∷ older) (false ∷ marks) next rest once caused accounted apart needed used =
      let shorter : (xs : List ℤ) → (xs ++ []) ++ next ∷ rest ≡ xs ++ next ∷ rest =
      λ xs. ap (λ (hs : List ℤ). hs ++ next ∷ rest) (append-nil xs) in
      subst (EachIsUsed live clause) (sym (shorter (marked_ids older marks)))
      (used_before older marks next rest once.1 caused.1 accounted
      (λ f m. apart f (marked_later e f older false marks m))
      (λ k f at mark. subst (Any (HintHas live (negation f.lit)))
      (shorter (marked_ids (take k older) (take k marks))) (needed (suc k) f at mark)) used)
  used_before (e ∷ older) (true ∷ marks) next rest once caused accounted apart needed used =
      let id : ℕ = accounted.0.0 in
      let c : Clause = accounted.0.1 in
      let why : e.reason ≡ Some id = accounted.0.2 in
      let is : clause_at live id ≡ Some c = accounted.0.3 in
      let reads : Reads (made_false older) (clause_at live id) (Unit e.lit) = subst
      (HasCause live older e.lit) why caused.0 in
      let cause : reading_of (made_false older) c ≡ Unit e.lit = subst
      (λ (o : Option Clause). Reads (made_false older) o (Unit e.lit)) is reads in
      let says = reason_reads live none clause older marks e id c once.0
      (apart e (zero, refl, refl)) is cause accounted.0.4 in
      let parts : (xs : List ℤ) →
      (xs ++ marked_reason true e.reason) ++ next ∷ rest ≡ xs ++ pos id ∷ next ∷ rest =
      λ xs. ap (λ (r : Option ℕ). (xs ++ marked_reason true r) ++ next ∷ rest) why
      ∙ append_assoc xs (pos id ∷ []) (next ∷ rest) in
      subst (EachIsUsed live clause) (sym (parts (marked_ids older marks)))
      (used_before older marks (pos id) (next ∷ rest) once.1 caused.1 accounted.1
      (λ f m. apart f (marked_later e f older true marks m))
      (λ k f at mark. subst (Any (HintHas live (negation f.lit)))
      (parts (marked_ids (take k older) (take k marks))) (needed (suc k) f at mark))
      (e.lit, says, needed 0 e refl refl, used))

  -- so what is derived by needed reasons needs its hints
  pub derived_relevant : (trail : List Assigned) (marks : List Bool) (id : ℕ) (conflict : Clause) →
      IsOnce (lits_of trail) → AreCaused live trail → clause_at live id ≡ Some conflict →
      IsDerived live trail conflict clause marks → AreNeeded live conflict trail marks →
      All (λ l. Contains conflict l ⊎ StandsInReason live trail marks l) clause →
      IsRelevant live clause (marked_ids trail marks ++ pos id ∷ [])
  derived_relevant trail marks id conflict once caused is derived needed shown = record {
    each_literal = All-weaker (λ l. Contains conflict l ⊎ StandsInReason live trail marks l)
        (λ l. Any (HintHas live l) (marked_ids trail marks ++ pos id ∷ []))
        (λ l some. elim some [
          | inl here ↦ in_last (marked_ids trail marks) l here
          | inr reason ↦ any-front (HintHas live l) (marked_ids trail marks) (pos id ∷ [])
              (in_reason trail marks l reason)
        ]) clause shown;
    each_hint = used_before trail marks (pos id) [] once caused derived.accounted derived.apart
        (λ k e at mark. elim (needed k e at mark) [
          | inl here ↦ in_last (marked_ids (take k trail) (take k marks)) (negation e.lit) here
          | inr reason ↦ any-front (HintHas live (negation e.lit))
              (marked_ids (take k trail) (take k marks)) (pos id ∷ [])
              (in_reason (take k trail) (take k marks) (negation e.lit) reason)
        ]) tt;
  }
    where
      in_last : (hints : List ℤ) (l : Lit) → Contains conflict l →
          Any (HintHas live l) (hints ++ pos id ∷ [])
      in_last hints l has =
          any-back (HintHas live l) hints (pos id ∷ [])
          (0, pos id, omega arith, refl, (conflict, named_is live none clause id conflict is, has))
