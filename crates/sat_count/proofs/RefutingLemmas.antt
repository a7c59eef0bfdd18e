-- What a step more makes of a refutation.
use Rattle.std.proofs.Common.{◌≡◌, ◌≢◌, ◌==◌, ℕ, zero, suc, ◌+◌, ◌-◌, ◌<◌, ◌≤◌, ℤ, pos, Bool, true, false, cond, List, [], ◌∷◌, ◌++◌, length, length-append, All, Option, None, Some, refl, sym, subst, ap, inl, inr, ◌∙◌, append-nil, add-one, arith}
use Rattle.std.specs.Prelude.{IsSome, is_some, not, slice_get}
use Rattle.std.proofs.lemmas.Bool.{cases_lt, eq-eqb, eqb-true, false≢true, ne_eqb}
use Rattle.std.proofs.lemmas.List.Elements.{All-cons, All-filter, All-head, All-nil, All-tail, All-weaker}
use Rattle.std.proofs.lemmas.List.Sums.{fold_push}
use Rattle.sat_clause.specs.declared.limits.TheConstants.{LITERAL_LIMIT}
use Rattle.sat_clause.specs.Formula.{Cnf, IsUnsat}
use Rattle.sat_clause.specs.Judge.{after, erase, erase_fault, inputs, is_empty_clause}
use Rattle.sat_clause.specs.Literal.{Clause, IsLiteral, IsWithin}
use Rattle.sat_clause.specs.Live.{Live, clause_at, named, numbered, put, without}
use Rattle.sat_clause.specs.Step.{Added, Erased, Step}
use Rattle.sat_clause.proofs.JudgeLaws.{judged_more, literals_more}
use Rattle.sat_clause.proofs.LiveLaws.{clause_at-without, inputs_at}
use Rattle.sat_rat.specs.FullJudge.{FullAccepts, full_fault, full_judge, full_judge_from}
use Rattle.sat_rat.specs.FullRup.{full_rup}
use Rattle.sat_rat.proofs.FullSound.{full_refutes}
use Rattle.sat_count.specs.Refuting.{Adds, AreLive, Erases, Holds, IsRefutation, RefutationState, added, begun, erased, ids_behind, live_of, stepped}

-- ---- the live clauses behind a step

live-stepped : (r : RefutationState) (step : Step) (last_id : ℕ)
    → live_of (stepped r step last_id) ≡ after (live_of r) step
unfolding live_of
live-stepped r step last_id = fold_push after (inputs r.cnf) r.steps step

-- another number of variables has no say in what is live
pub live-widened : (r : RefutationState) (last_id last_variable : ℕ) → live_of (record {
  cnf = r.cnf;
  steps = r.steps;
  last_id = last_id;
  last_variable = last_variable;
}) ≡ live_of r
unfolding live_of
live-widened r last_id last_variable = refl

named-put : (live : Live) (n id : ℕ) (clause : Clause)
    → named (put live (suc n) clause) (pos id) ≡
    cond (id == suc n) (Some clause) (named live (pos id))
named-put live n zero clause =
    rw (ne_eqb zero (suc n) (omega arith)) refl
named-put live n (suc id) clause = refl

-- ---- a step that is good

good-ahead : (r : RefutationState) → IsRefutation r → (step : Step) (last_id : ℕ)
    → full_fault (live_of r) step ≡ None → is_empty_clause step ≡ false
    → (more : List Step) → full_judge r.cnf ((r.steps ++ step ∷ []) ++ more)
    ≡ full_judge_from (suc (length (r.steps ++ step ∷ [])))
    (live_of (stepped r step last_id)) more
good-ahead r is step last_id good on more =
    let count : length (r.steps ++ step ∷ []) ≡ suc (length r.steps) =
    length-append r.steps (step ∷ []) ∙ add-one (length r.steps) in
    judged_more full_fault r.cnf r.steps (length r.steps) (live_of r) is.ahead step None false good
    on more
    ∙ ap (λ (n : ℕ). full_judge_from (suc n) (after (live_of r) step) more) (sym count)
    ∙ ap (λ (live : Live). full_judge_from (suc (length (r.steps ++ step ∷ []))) live more)
    (sym (live-stepped r step last_id))

-- ---- a clause more

no-empty : (id : ℕ) (clause : Clause) (hints : List ℤ) → clause ≢ []
    → is_empty_clause (Added id clause hints) ≡ false
no-empty id [] hints some = absurd (some refl)
no-empty id (l ∷ ls) hints some = refl

within-literals : (n : ℕ) (clause : Clause) → n ≤ LITERAL_LIMIT → All (IsWithin n) clause
    → All IsLiteral clause
within-literals n clause few within =
    All-weaker (IsWithin n) IsLiteral (λ l w. (w.0, omega (arith, w.1))) clause within

module _ (r : RefutationState) (is : IsRefutation r) (clause : Clause) (hints : List ℤ) where
  pub live-added : live_of (added r clause hints) ≡ put (live_of r) (suc r.last_id) clause
  live-added = live-stepped r (Added (suc r.last_id) clause hints) (suc r.last_id)

  named-added : (id : ℕ) → named (live_of (added r clause hints)) (pos id)
      ≡ cond (id == suc r.last_id) (Some clause) (named (live_of r) (pos id))
  named-added id =
      ap (λ (live : Live). named live (pos id)) live-added
      ∙ named-put (live_of r) r.last_id id clause

  named-last : named (live_of (added r clause hints)) (pos (suc r.last_id)) ≡ Some clause
  named-last = named-added (suc r.last_id)
      ∙ ap (λ (b : Bool). cond b (Some clause) (named (live_of r) (pos (suc r.last_id))))
      (eq-eqb (suc r.last_id) (suc r.last_id) refl)

  named-before : (id : ℕ) → id ≤ r.last_id
      → named (live_of (added r clause hints)) (pos id) ≡ named (live_of r) (pos id)
  named-before id low = named-added id
      ∙ ap (λ (b : Bool). cond b (Some clause) (named (live_of r) (pos id)))
      (ne_eqb id (suc r.last_id) (omega (arith, low)))

  low-added : (id : ℕ) (c : Clause) → Holds (added r clause hints) id c → id ≤ suc r.last_id
  low-added id c h = elim (cases_lt (suc r.last_id) id) [
    | inl past ↦
        (let before : named (live_of r) (pos id) ≡ Some c =
        sym (named-added id
        ∙ ap (λ (b : Bool). cond b (Some clause) (named (live_of r) (pos id)))
        (ne_eqb id (suc r.last_id) (omega (arith, past)))) ∙ h.there in
        let low = is.low id c (record { there = before }) in omega (arith, low))
    | inr not_past ↦ omega (arith, not_past)
  ]

  pub add-refutes : clause ≢ [] → All (IsWithin r.last_variable) clause
      → full_rup (live_of r) clause hints ≡ None → IsRefutation (added r clause hints)
  add-refutes some within good = record {
    ahead = good-ahead r is (Added (suc r.last_id) clause hints) (suc r.last_id) good
        (no-empty (suc r.last_id) clause hints some);
    literals = literals_more r.steps (Added (suc r.last_id) clause hints) is.literals
        (within-literals r.last_variable clause is.few within);
    within =
        let P : ℕ × Clause → Type 0 = λ entry. All (IsWithin r.last_variable) entry.1 in
        subst (λ (live : Live). All P live) (sym live-added)
        (All-cons P (suc r.last_id, clause) (live_of r) within is.within);
    low = low-added;
    few = is.few;
  }

  pub add-adds : Adds r (added r clause hints) clause
  add-adds = record {
    last = refl;
    variables = refl;
    holds = record { there = named-last };
    grows = record {
      cnf = refl;
      ids = omega arith;
      variables = omega arith;
      kept = λ id c h. record { there = named-before id (is.low id c h) ∙ h.there };
      added = record {
        each = λ id behind last.
            let e : suc r.last_id ≡ id = omega (arith, behind, last) in
            subst (λ (n : ℕ). IsSome (named (live_of (added r clause hints)) (pos n))) e
            (rw named-last refl);
      };
    };
  }

-- ---- the end

pub finish-accepts : (r : RefutationState) → IsRefutation r → (hints : List ℤ) (id : ℕ)
    → full_rup (live_of r) [] hints ≡ None → FullAccepts r.cnf (r.steps ++ Added id [] hints ∷ [])
finish-accepts r is hints id good =
    ap (full_judge r.cnf) (sym (append-nil (r.steps ++ Added id [] hints ∷ [])))
    ∙ judged_more full_fault r.cnf r.steps (length r.steps) (live_of r) is.ahead
    (Added id [] hints) None true good refl []

pub finish-refutes : (r : RefutationState) → IsRefutation r → (hints : List ℤ) (id : ℕ)
    → full_rup (live_of r) [] hints ≡ None → IsUnsat r.cnf
finish-refutes r is hints id good =
    full_refutes r.cnf (r.steps ++ Added id [] hints ∷ [])
    (literals_more r.steps (Added id [] hints) is.literals (All-nil IsLiteral))
    (finish-accepts r is hints id good)

-- nothing is deleted
pub erases-none : (r : RefutationState) (last : ℕ) → Erases r r last
erases-none r last = record {
  cnf = refl;
  last_id = refl;
  variables = refl;
  kept = λ id clause past h. h;
}

-- ---- the beginning

named-numbered : (n id : ℕ) (clauses : List Clause) (c : Clause)
    → clause_at (numbered n clauses) id ≡ Some c → id < n + length clauses
named-numbered n id [] c h = cc
named-numbered n id (d ∷ clauses) c h =
    go (id == n) refl (named-numbered (suc n) id clauses c)
  where
    go : (b : Bool) → (id == n) ≡ b
        → (clause_at (numbered (suc n) clauses) id ≡ Some c → id < suc n + length clauses)
        → id < n + suc (length clauses)
    go true e more = let same : id ≡ n = eqb-true id n e in omega (arith, same)
    go false e more =
        let later : clause_at (numbered (suc n) clauses) id ≡ Some c =
        sym (ap (λ (b : Bool). cond b (Some d) (clause_at (numbered (suc n) clauses) id)) e) ∙ h in
        let low = more later in omega (arith, low)

numbered-within : (n m : ℕ) (clauses : List Clause) → All (All (IsWithin m)) clauses
    → All (λ (entry : ℕ × Clause). All (IsWithin m) entry.1) (numbered n clauses)
numbered-within n m [] all = All-nil (λ (entry : ℕ × Clause). All (IsWithin m) entry.1)
numbered-within n m (c ∷ clauses) all =
    All-cons (λ (entry : ℕ × Clause). All (IsWithin m) entry.1) (n, c) (numbered (suc n) clauses)
    (All-head (All (IsWithin m)) c clauses all)
    (numbered-within (suc n) m clauses (All-tail (All (IsWithin m)) c clauses all))

pub live-begun : (cnf : Cnf) → live_of (begun cnf) ≡ inputs cnf
unfolding live_of
live-begun cnf = refl

low-begun : (cnf : Cnf) (id : ℕ) (c : Clause) → named (inputs cnf) (pos id) ≡ Some c
    → id ≤ length cnf.clauses
low-begun cnf zero c h = omega arith
low-begun cnf (suc k) c h =
    let low = named-numbered 1 (suc k) cnf.clauses c h in omega (arith, low)

pub begun-refutes : (cnf : Cnf) → All (All (IsWithin cnf.vars)) cnf.clauses
    → cnf.vars ≤ LITERAL_LIMIT → IsRefutation (begun cnf)
begun-refutes cnf within few = record {
  ahead = λ more. ap (λ (live : Live). full_judge_from 1 live more) (sym (live-begun cnf));
  literals = tt;
  within = subst
      (λ (live : Live). All (λ (entry : ℕ × Clause). All (IsWithin cnf.vars) entry.1) live)
      (sym (live-begun cnf)) (numbered-within 1 cnf.vars cnf.clauses within);
  low = λ id c h. low-begun cnf id c
      (ap (λ (live : Live). named live (pos id)) (sym (live-begun cnf)) ∙ h.there);
  few = few;
}

-- the clauses of the formula are live
pub begun-holds : (cnf : Cnf) (i : ℕ) (clause : Clause) → slice_get cnf.clauses i ≡ Some clause
    → Holds (begun cnf) (suc i) clause
begun-holds cnf i clause at = record {
  there = ap (λ (live : Live). named live (pos (suc i))) (live-begun cnf) ∙ inputs_at cnf i ∙ at;
}

-- ---- clauses are deleted

some-true : (o : Option Clause) → IsSome o → is_some o ≡ true
some-true None some = absurd (false≢true some)
some-true (Some c) some = refl

named-other : (live : Live) (a id : ℕ) → suc a ≢ id
    → named (without live (suc a)) (pos id) ≡ named live (pos id)
named-other live a zero other = refl
named-other live a (suc k) other =
    clause_at-without live (suc a) (suc k)
    ∙ ap (λ (b : Bool). cond b None (clause_at live (suc k))) (ne_eqb (suc a) (suc k) other)

named-less : (live : Live) (a id : ℕ) (c : Clause)
    → named (without live (suc a)) (pos id) ≡ Some c → named live (pos id) ≡ Some c
named-less live a zero c h = h
named-less live a (suc k) c h =
    by (suc a == suc k) (sym (clause_at-without live (suc a) (suc k)) ∙ h)
  where
    by : (b : Bool) → cond b None (clause_at live (suc k)) ≡ Some c
        → clause_at live (suc k) ≡ Some c
    by true e = cc
    by false e = e

erase-good : (live : Live) (a n : ℕ)
    → ((k : ℕ) → a ≤ k → k < a + n → IsSome (named live (pos (suc k))))
    → erase_fault live (ids_behind a n) ≡ None
erase-good live a zero there = refl
erase-good live a (suc n) there =
    rw (some-true (clause_at live (suc a)) (there a (omega arith) (omega arith)))
    (erase-good (without live (suc a)) (a + 1) n (λ k from low.
    subst IsSome (sym (named-other live a (suc k) (omega (arith, from))))
    (there k (omega (arith, from)) (omega (arith, low)))))

erase-keeps : (live : Live) (a n id : ℕ) → a + n < id
    → named (erase live (ids_behind a n)) (pos id) ≡ named live (pos id)
erase-keeps live a zero id past = refl
erase-keeps live a (suc n) id past =
    erase-keeps (without live (suc a)) (a + 1) n id (omega (arith, past))
    ∙ named-other live a id (omega (arith, past))

erase-less : (live : Live) (a n id : ℕ) (c : Clause)
    → named (erase live (ids_behind a n)) (pos id) ≡ Some c → named live (pos id) ≡ Some c
erase-less live a zero id c h = h
erase-less live a (suc n) id c h =
    named-less live a id c (erase-less (without live (suc a)) (a + 1) n id c h)

erase-within : (P : ℕ × Clause → Type 0) (live : Live) (a n : ℕ) → All P live
    → All P (erase live (ids_behind a n))
erase-within P live a zero all = all
erase-within P live a (suc n) all =
    erase-within P (without live (suc a)) (a + 1) n
    (All-filter (λ (entry : ℕ × Clause). not (suc a == entry.0)) P live all)

module _ (r : RefutationState) (is : IsRefutation r) (behind last : ℕ) (order : behind ≤ last)
  where
    abbrev n : ℕ
    n = last - behind

    live-erased : live_of (erased r behind last) ≡ erase (live_of r) (ids_behind behind n)
    live-erased = live-stepped r (Erased r.last_id (ids_behind behind n)) r.last_id

    pub erase-refutes : AreLive r behind last → IsRefutation (erased r behind last)
    erase-refutes live = record {
      ahead = good-ahead r is (Erased r.last_id (ids_behind behind n)) r.last_id
          (erase-good (live_of r) behind n (λ k from low.
          live.each (suc k) (omega (arith, from)) (omega (arith, low, order)))) refl;
      literals = literals_more r.steps (Erased r.last_id (ids_behind behind n)) is.literals tt;
      within =
          let P : ℕ × Clause → Type 0 = λ entry. All (IsWithin r.last_variable) entry.1 in
          subst (λ (l : Live). All P l) (sym live-erased)
          (erase-within P (live_of r) behind n is.within);
      low = λ id c h. is.low id c (record {
        there = erase-less (live_of r) behind n id c
            (ap (λ (l : Live). named l (pos id)) (sym live-erased) ∙ h.there);
      });
      few = is.few;
    }

    pub erase-erases : Erases r (erased r behind last) last
    erase-erases = record {
      cnf = refl;
      last_id = refl;
      variables = refl;
      kept = λ id c past h. record {
        there = ap (λ (l : Live). named l (pos id)) live-erased
            ∙ erase-keeps (live_of r) behind n id (omega (arith, past, order)) ∙ h.there;
      };
    }
