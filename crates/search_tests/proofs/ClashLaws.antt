-- Two steps that contradict each other are a log that a search may follow.
use Rattle.std.proofs.Common.{◌≡◌, ◌≢◌, ℕ, pos, negsuc, true, false, cond, ◌==◌, List, [], ◌∷◌, Some, Contains, refl, sym, ap, subst, arith, drop, take, ℤ}
use Rattle.std.specs.Prelude.{⊤}
use Rattle.std.proofs.lemmas.List.Elements.{All-contains, All-cons, All-nil, Contains-push}
use Rattle.sat_clause.specs.declared.literal.Lit.{Lit}
use Rattle.sat_clause.specs.Formula.{Cnf}
use Rattle.sat_clause.specs.Judge.{is_empty_clause}
use Rattle.sat_clause.specs.Learned.{IsFresh, IsSimple, deletions}
use Rattle.sat_clause.specs.Literal.{Clause, IsWithin, is_positive, lit, variable}
use Rattle.sat_clause.specs.Live.{Live, clause_at}
use Rattle.sat_clause.specs.Step.{Step, Added}
use Rattle.sat_core.specs.Stands.{IsOpenLog, SearchAt, StandsFor, live_after}
use Rattle.sat_core.specs.Underway.{MayTurn}
use Rattle.sat_core.proofs.AnalysisLaws.{only_one}
use Rattle.sat_core.proofs.LogLemmas.{each_added_push, spares_push}
use Rattle.search_tests.specs.Clash.{clash, contradiction}

-- each clause has another literal than this one
abbrev HaveOthers : Lit → Live → Type 0
HaveOthers l [] = ⊤
HaveOthers l (entry ∷ live) = ((m : Lit) × Contains entry.1 m × (l ≢ m)) × HaveOthers l live

-- so that the literal alone is a new clause
fresh_alone : (l : Lit) (live : Live) → HaveOthers l live → IsFresh live (l ∷ [])
fresh_alone l [] others id old is all = cc
fresh_alone l (entry ∷ live) others id old is all =
    elim (id == entry.0) as (λ b. cond b (Some entry.1) (clause_at live id) ≡ Some old → ⊥) [
      | true ↦ λ here.
          let same : entry.1 ≡ old = cc in
          let (m, has, differs) = others.0 in
          differs (only_one l m (All-contains (Contains (l ∷ [])) old m all
          (subst (λ (c : Clause). Contains c m) same has)))
      | false ↦ λ rest. fresh_alone l live others.1 id old rest all
    ] is

simple_alone : (l : Lit) → IsWithin 2 l → IsSimple 2 (l ∷ [])
simple_alone l within = record {
  within = All-cons (IsWithin 2) l [] within (All-nil (IsWithin 2));
  once = λ i j d lt below. absurd (omega (arith, lt, below));
}

other_variable : (l m : Lit) → variable l ≢ variable m → l ≢ m
other_variable l m differ is = differ (ap variable is)

other_sign : (l m : Lit) → is_positive l ≢ is_positive m → l ≢ m
other_sign l m differ is = differ (ap is_positive is)

-- each clause of both variables ends with a literal of the second one
ends_apart : (l a b : Lit) → variable l ≢ variable b → (m : Lit) × Contains (a ∷ b ∷ []) m × (l ≢ m)
ends_apart l a b differ = (b, Contains-push (a ∷ []) b, other_variable l b differ)

inputs_apart : (l : Lit) → variable l ≢ 2 → HaveOthers l (live_after contradiction [])
inputs_apart l differ = (
  ends_apart l (lit (pos 1)) (lit (pos 2)) differ,
  (
    ends_apart l (lit (pos 1)) (lit (negsuc 1)) differ,
    (
      ends_apart l (lit (negsuc 0)) (lit (pos 2)) differ,
      (ends_apart l (lit (negsuc 0)) (lit (negsuc 1)) differ, tt),
    ),
  ),
)

others_of_first : HaveOthers (lit (pos 1)) (live_after contradiction [])
others_of_first = inputs_apart (lit (pos 1)) (λ is. omega (arith, is))

others_of_second : HaveOthers (lit (negsuc 0)) (live_after contradiction
    (Added 5 (lit (pos 1) ∷ []) (pos 1 ∷ pos 2 ∷ []) ∷ []))
others_of_second = (
  (
    lit (pos 1),
    Contains-push [] (lit (pos 1)),
    other_sign (lit (negsuc 0)) (lit (pos 1)) (λ is. cc),
  ),
  inputs_apart (lit (negsuc 0)) (λ is. omega (arith, is)),
)

open_clash : IsOpenLog contradiction clash
open_clash =
    let first = lit (pos 1) ∷ [] in
    let second = lit (negsuc 0) ∷ [] in
    let step = Added 5 first (pos 1 ∷ pos 2 ∷ []) in
    let next = Added 6 second (pos 3 ∷ pos 4 ∷ []) in
    let goes_on : Step → Type 0 = λ (s : Step). is_empty_clause s ≡ false in
    let is_new : Live → Clause → List ℤ → Type 0 = λ live clause hints.
    clause ≢ [] → IsSimple 2 clause × IsFresh live clause in
    record {
      good = (refl, (refl, tt));
      none_empty = All-cons goes_on step (next ∷ []) refl
          (All-cons goes_on next [] refl (All-nil goes_on));
      numbered = (refl, (refl, tt));
      new = each_added_push is_new contradiction (step ∷ []) 6 second (pos 3 ∷ pos 4 ∷ [])
          (each_added_push is_new contradiction [] 5 first (pos 1 ∷ pos 2 ∷ [])
          (λ k id clause hints is. cc)
          (λ some. (
            simple_alone (lit (pos 1)) (omega arith, omega arith),
            fresh_alone (lit (pos 1)) (live_after contradiction []) others_of_first,
          )))
          (λ some. (
            simple_alone (lit (negsuc 0)) (omega arith, omega arith),
            fresh_alone (lit (negsuc 0)) (live_after contradiction (step ∷ [])) others_of_second,
          ));
      spares = spares_push 4 (step ∷ []) 6 second (pos 3 ∷ pos 4 ∷ [])
          (spares_push 4 [] 5 first (pos 1 ∷ pos 2 ∷ []) (λ k id ids is. cc));
    }

-- a new search may take them
pub may_take_clash : (search : SearchAt) (formula : Cnf) (log : List Step) →
    StandsFor search.value formula [] → search.taken ≡ 0 → formula ≡ contradiction → log ≡ clash →
    MayTurn search formula log
may_take_clash search formula log stands none is steps =
    let at_start : StandsFor search.value contradiction [] =
    subst (λ (f : Cnf). StandsFor search.value f []) is stands in
    rw (is, steps) (record {
      follows = record {
        stands = record {
          reached = omega (arith, none);
          stands = subst (λ (k : ℕ). StandsFor search.value contradiction (take k clash)) (sym none)
              at_start;
        };
        none_deleted = ap (λ (k : ℕ). deletions (drop k clash)) none;
      };
      open_log = open_clash;
      few = omega arith;
    })
