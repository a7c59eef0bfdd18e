-- The positions of clauses that a search takes in behind the pairs.
use Rattle.std.proofs.Common.{inl, inr, ◌≡◌, ◌<◌, ◌≤◌, ◌+◌, ◌-◌, ℕ, zero, suc, true, false, List, [], ◌∷◌, ◌++◌, length, get_or, slice_get, Some, sym, ap, ◌∙◌, subst, arith}
use Rattle.std.proofs.lemmas.Bool.{both_ways, cases_eq}
use Rattle.std.proofs.lemmas.Option.{slice_get-get_or}
use Rattle.list_laws.proofs.Places.{some_is}
use Rattle.sat_clause.specs.Formula.{Cnf}
use Rattle.sat_clause.specs.Literal.{Clause}
use Rattle.sat_watch.specs.Watches.{WatchState}
use Rattle.sat_core.specs.ClauseList.{ClauseListState}
use Rattle.sat_core.specs.Inputs.{AreLeft, HasTaken, IsSettled, is_pair, pairs_and_below}
use Rattle.sat_core.specs.Kept.{is_always_true}
use Rattle.sat_core.proofs.InputLaws.{others_pass}

-- a clause that is a pair or always true is settled
pub settled_pair : (formula : Cnf) (k : ℕ) (clause : Clause) →
    slice_get formula.clauses k ≡ Some clause → is_pair clause ≡ true → IsSettled formula k
settled_pair formula k clause at pair = λ c c_at no_pair.
    let same : clause ≡ c = some_is (sym at ∙ c_at) in
    absurd (both_ways (is_pair c) no_pair (subst (λ (x : Clause). is_pair x ≡ true) same pair))

pub settled_when : (formula : Cnf) (k : ℕ) (clause : Clause) →
    slice_get formula.clauses k ≡ Some clause →
    (is_pair clause ≡ false → is_always_true clause ≡ true) → IsSettled formula k
settled_when formula k clause at when = λ c c_at.
    let same : clause ≡ c = some_is (sym at ∙ c_at) in
    subst (λ (x : Clause). is_pair x ≡ false → is_always_true x ≡ true) same when

-- one position more, which is settled
pub left_settled : (formula : Cnf) (from : ℕ) (xs : List ℕ) (to : ℕ) → IsSettled formula to →
    AreLeft formula from xs to → AreLeft formula from xs (suc to)
left_settled formula from [] to is left = λ k low below c at.
    elim (cases_eq k to) [
      | inl same ↦ is c (sym (ap (slice_get formula.clauses) same) ∙ at)
      | inr other ↦ left k low (omega (arith, other, below)) c at
    ]
left_settled formula from (i ∷ rest) to is left =
    (left.0, omega (arith, left.1), left.2, left_settled formula (suc i) rest to is left.3)

-- or one that is left
pub left_more : (formula : Cnf) (from : ℕ) (xs : List ℕ) (to : ℕ) → from ≤ to →
    AreLeft formula from xs to → AreLeft formula from (xs ++ to ∷ []) (suc to)
left_more formula from [] to up left =
    (up, omega arith, left, λ k low below. absurd (omega (arith, low, below)))
left_more formula from (i ∷ rest) to up left = (
  left.0,
  omega (arith, left.1),
  left.2,
  left_more formula (suc i) rest to (omega (arith, left.1)) left.3,
)

-- settled clauses may be passed
settled_pass : (formula : Cnf) (n many : ℕ) (s : ClauseListState) (w : WatchState) →
    n + many ≤ length formula.clauses →
    ((k : ℕ) → n ≤ k → k < n + many → IsSettled formula k) →
    HasTaken formula (pairs_and_below n) s w → HasTaken formula (pairs_and_below (n + many)) s w
settled_pass formula n zero s w within settled taken =
    let same : n ≡ n + 0 = omega arith in
    subst (λ (m : ℕ). HasTaken formula (pairs_and_below m) s w) same taken
settled_pass formula n (suc many) s w within settled taken =
    let here = slice_get-get_or formula.clauses (n + many) [] (omega (arith, within)) in
    let before = settled_pass formula n many s w (omega (arith, within))
    (λ k low below. settled k low (omega (arith, below))) taken in
    let next : suc (n + many) ≡ n + suc many = omega arith in
    subst (λ (m : ℕ). HasTaken formula (pairs_and_below m) s w) next
    (others_pass formula (n + many) (get_or formula.clauses (n + many) []) here
    (settled (n + many) (omega arith) (omega arith) (get_or formula.clauses (n + many) []) here)
    s w before)

-- all pairs and what is below a position are taken in, and these positions are left
pub record IsTaking
    (formula : Cnf) (n : ℕ) (rest : List ℕ) (s : ClauseListState) (w : WatchState) : Type 0 where
  pub most : n ≤ length formula.clauses
  pub left : AreLeft formula n rest (length formula.clauses)
  pub taken : HasTaken formula (pairs_and_below n) s w
  pub few : length s.clauses ≤ n

module _ (formula : Cnf) (n : ℕ) (s : ClauseListState) (w : WatchState) where
  -- up to the next one that is left
  pub taken_before : (i : ℕ) (rest : List ℕ) → IsTaking formula n (i ∷ rest) s w →
      HasTaken formula (pairs_and_below i) s w
  taken_before i rest is =
      let up : n + (i - n) ≡ i = omega (arith, is.left.0) in
      let within : n + (i - n) ≤ length formula.clauses = omega (arith, is.left.0, is.left.1) in
      subst (λ (m : ℕ). HasTaken formula (pairs_and_below m) s w) up
      (settled_pass formula n (i - n) s w within
      (λ k low below. is.left.2 k low (omega (arith, below, up))) is.taken)

  -- up to the end, where none is left
  pub taken_whole : IsTaking formula n [] s w →
      HasTaken formula (pairs_and_below (length formula.clauses)) s w
  taken_whole is =
      let up : n + (length formula.clauses - n) ≡ length formula.clauses =
      omega (arith, is.most) in
      let within : n + (length formula.clauses - n) ≤ length formula.clauses =
      omega (arith, up) in
      subst (λ (m : ℕ). HasTaken formula (pairs_and_below m) s w) up
      (settled_pass formula n (length formula.clauses - n) s w within
      (λ k low below. is.left k low (omega (arith, below, up))) is.taken)
