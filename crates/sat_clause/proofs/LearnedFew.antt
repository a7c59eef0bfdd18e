-- How many clauses a log adds that deletes seldom.
use Rattle.std.proofs.Common.{◌≡◌, ◌≢◌, ℕ, suc, ◌+◌, ◌*◌, ◌^◌, ◌<◌, ◌≤◌, ◌==◌, ℤ, true, false, List, [], ◌∷◌, take, length, slice_get, fold, Some, All, refl, arith}
use Rattle.std.proofs.Math.Nat.{mul-suc}
use Rattle.std.proofs.lemmas.Bool.{both_ways, ne_eqb, eq-eqb}
use Rattle.std.proofs.lemmas.List.Elements.{All-cons, All-head, All-nil, All-tail, All-weaker}
use Rattle.std.proofs.lemmas.List.Kept.{AllPairs-cons}
use Rattle.sat_clause.specs.Literal.{Clause}
use Rattle.sat_clause.specs.Formula.{Cnf}
use Rattle.sat_clause.specs.Live.{Live, clause_at, put}
use Rattle.sat_clause.specs.Step.{Step, Added, Erased}
use Rattle.sat_clause.specs.Judge.{after, erase, inputs, is_empty_clause}
use Rattle.sat_clause.proofs.Counting.{few_different}
use Rattle.sat_clause.specs.Learned.{AreAddedFrom, AreDifferent, IsFresh, IsSimple, LearnedNew, SameLiterals, Sparse, added_count, added_since, deletions}

-- each added clause is new where these clauses are live at the start
abbrev NewFrom : ℕ → Live → List Step → Type 0
NewFrom vars live log = (k id : ℕ) (clause : Clause) (hints : List ℤ) →
    slice_get log k ≡ Some (Added id clause hints) → clause ≢ [] →
    IsSimple vars clause × IsFresh (fold after live (take k log)) clause

-- each deletion comes late enough, with so many deletions before the log and so many clauses added
-- since the last of them
abbrev SparseFrom : ℕ → ℕ → List Step → Type 0
SparseFrom d n log = (k id : ℕ) (ids : List ℤ) → slice_get log k ≡ Some (Erased id ids) →
    1000 * suc (d + deletions (take k log)) ≤ added_since n (take k log)

-- the step adds no empty clause
abbrev AddsSome : Step → Type 0
AddsSome step = is_empty_clause step ≡ false

-- the clause is live under an id below this one
abbrev IsUnder : ℕ → Live → Clause → Type 0
IsUnder id live c = (old : ℕ) × (clause_at live old ≡ Some c) × (old < id)

-- what is counted: all added clauses, those since the last deletion, and the deletions
record AreFew (p d n : ℕ) (log : List Step) : Type 0 where
  pub all : n + added_count log < p * suc (deletions log)
  pub since : added_since n log < p
  pub cuts : 1000 * (d + deletions log) ≤ p

pub not_nil : (n : ℕ) (clause : Clause) (hints : List ℤ) →
    is_empty_clause (Added n clause hints) ≡ false → clause ≢ []
not_nil n [] hints some e = absurd (both_ways _ some refl)
not_nil n (l ∷ ls) hints some e = cc

none_different : (vars : ℕ) → AreDifferent vars []
none_different vars = record {
  simple = All-nil (IsSimple vars);
  not_empty = All-nil (λ (c : Clause). c ≢ []);
  apart = λ i j d ij within. absurd (omega (arith, within));
}

one_more : (vars id n : ℕ) (clause : Clause) (live : Live) (cs : List Clause) → n ≡ id →
    clause ≢ [] → IsSimple vars clause × IsFresh live clause → AreDifferent vars cs →
    All (IsUnder id live) cs →
    AreDifferent vars (clause ∷ cs) × All (IsUnder (suc id) (put live n clause)) (clause ∷ cs)
one_more vars id n clause live cs is some new different under = (
  record {
    simple = All-cons (IsSimple vars) clause cs new.0 different.simple;
    not_empty = All-cons (λ (c : Clause). c ≢ []) clause cs some different.not_empty;
    apart = AllPairs-cons (λ c d. ¬ SameLiterals c d) clause cs
        (All-weaker (IsUnder id live) (λ d. ¬ SameLiterals clause d)
        (λ d at same. new.1 at.0 d at.1 same.1) cs under) different.apart;
  },
  All-cons (IsUnder (suc id) (put live n clause)) clause cs
      (n, let here : (n == n) ≡ true = eq-eqb n n refl in rw here refl, omega (arith, is))
      (All-weaker (IsUnder id live) (IsUnder (suc id) (put live n clause))
      (λ c at.
      let below : at.0 < id = at.2 in
      let other : (at.0 == n) ≡ false = ne_eqb at.0 n (omega (arith, is, below)) in
      (at.0, rw other at.1, omega (arith, below))) cs under),
)

few_added : (vars d id : ℕ) (live : Live) (log : List Step) (cs : List Clause) →
    AreAddedFrom id log → All AddsSome log → NewFrom vars live log →
    SparseFrom d (length cs) log → 1000 * d ≤ 3 ^ vars → AreDifferent vars cs →
    All (IsUnder id live) cs → AreFew (3 ^ vars) d (length cs) log
few_added vars d id live [] cs numbered some new sparse rare different under =
    let few = few_different vars cs different in record {
      all = omega (arith, few);
      since = few;
      cuts = omega (arith, rare);
    }
few_added vars d id live (Added n clause hints ∷ log) cs numbered some new sparse rare different
    under =
    let not_empty =
    not_nil n clause hints (All-head AddsSome (Added n clause hints) log some) in
    let more = one_more vars id n clause live cs numbered.0 not_empty
    (new 0 n clause hints refl not_empty) different under in
    let rest = few_added vars d (suc id) (put live n clause) log (clause ∷ cs) numbered.1
    (All-tail AddsSome (Added n clause hints) log some)
    (λ k i c h is. new (suc k) i c h is) (λ k i ids is. sparse (suc k) i ids is) rare more.0
    more.1 in
    record {
      all = omega (arith, rest.all);
      since = rest.since;
      cuts = omega (arith, rest.cuts);
    }
few_added vars d id live (Erased n ids ∷ log) cs numbered some new sparse rare different under =
    let few = few_different vars cs different in
    let late = sparse 0 n ids refl in
    let rest = few_added vars (suc d) id (erase live ids) log [] numbered
    (All-tail AddsSome (Erased n ids) log some) (λ k i c h is. new (suc k) i c h is)
    (λ k i others is. let next = sparse (suc k) i others is in omega (arith, next))
    (omega (arith, late, few)) (none_different vars) (All-nil (IsUnder id (erase live ids))) in
    record {
      all = omega (arith, rest.all, few, mul-suc (3 ^ vars) (suc (deletions log)));
      since = rest.since;
      cuts = omega (arith, rest.cuts);
    }

-- fewer than 3 to the number of variables for each deletion and once more, and each deletion waits
-- for a thousand of them
pub learned_few : (formula : Cnf) (log : List Step) (id : ℕ) → LearnedNew formula log →
    AreAddedFrom id log → All (λ step. is_empty_clause step ≡ false) log → Sparse log →
    (added_count log < 3 ^ formula.vars * suc (deletions log))
    × (1000 * deletions log ≤ 3 ^ formula.vars)
learned_few formula log id new numbered some sparse =
    let few = few_added formula.vars 0 id (inputs formula) log [] numbered some
    (λ k i c h is. new k i c h is)
    (λ k i ids is. let late = (sparse k i ids is).1 in omega (arith, late)) (omega arith)
    (none_different formula.vars) (All-nil (IsUnder id (inputs formula))) in
    (omega (arith, few.all), omega (arith, few.cuts))
