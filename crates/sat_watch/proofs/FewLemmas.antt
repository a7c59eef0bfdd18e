-- Clauses and trails without a repeated variable have no more literals than there are variables.
use Rattle.std.proofs.Common.{◌≡◌, ◌≢◌, ◌-◌, ◌==◌, ◌<◌, ◌≤◌, ℕ, suc, true, false, inl, inr, List, [], ◌∷◌, length, slice_index_or, All, refl, sym, ap, arith}
use Rattle.std.specs.List.{AllByRecursion, AllPairs, IsDistinct, list_any}
use Rattle.std.proofs.lemmas.Bool.{eqb-true, false_from_ne_true, or_cases}
use Rattle.std.proofs.lemmas.List.{length-map}
use Rattle.std.proofs.lemmas.List.Elements.{All-cons, All-map, All-nil, All-weaker}
use Rattle.std.proofs.lemmas.List.Kept.{AllPairs-cons}
use Rattle.std.proofs.lemmas.Map.Steps.{length-le_from_distinct_below}
use Rattle.sat_clause.specs.declared.limits.TheConstants.{VARIABLE_LIMIT}
use Rattle.sat_clause.specs.declared.literal.Lit.{Lit}
use Rattle.sat_clause.specs.Learned.{IsSimple}
use Rattle.sat_clause.specs.Literal.{Clause, IsWithin, variable}
use Rattle.sat_clause.specs.Trail.{IsOnce as IsOnceOn}
use Rattle.sat_watch.specs.declared.entry.TrailEntry.{TrailEntry}
use Rattle.sat_watch.specs.Trail.{AreWithin, IsOnce, IsOpen, IsTrail, TrailState, lits_of}

-- a clause without a repeated variable has no more literals than there are variables
module _ (n : ℕ) where
  abbrev places : Clause → List ℕ
  places [] = []
  places (l ∷ ls) = (variable l - 1) ∷ places ls

  length_places : (lits : Clause) → length (places lits) ≡ length lits
  length_places [] = refl
  length_places (l ∷ ls) = ap suc (length_places ls)

  places_apart : (lits : Clause) → IsSimple n lits → IsDistinct ◌==◌ (places lits)
  unfolding IsDistinct
  places_apart [] simple = tt
  places_apart (l ∷ ls) simple = (
    apart_from ls (λ k lk e. simple.once 0 (suc k) l (omega arith) (omega arith) e)
        (simple.within 0 l (omega arith)).0 (λ k d lk. (simple.within (suc k) d (omega arith)).0),
    places_apart ls (record {
      within = λ k d lk. simple.within (suc k) d (omega arith);
      once =
          λ p q d lt lq. simple.once (suc p) (suc q) d (omega arith) (omega arith);
    }),
  )
    where
      apart_from : (ms : Clause) →
          ((k : ℕ) → k < length ms → variable l ≢ variable (slice_index_or ms k l)) →
          1 ≤ variable l → All (λ m. 1 ≤ variable m) ms →
          AllByRecursion (λ y. ((variable l - 1) == y) ≡ false) (places ms)
      apart_from [] ne some all = tt
      apart_from (m ∷ ms) ne some all = (
        false_from_ne_true _
            (λ is. let same = eqb-true (variable l - 1) (variable m - 1) is in
            let m_some = all 0 m (omega arith) in ne 0 (omega arith) (omega arith)),
        apart_from ms (λ k lk. ne (suc k) (omega arith)) some
            (λ k d lk. all (suc k) d (omega arith)),
      )

  places_small : (lits : Clause) → All (IsWithin n) lits → (q : ℕ) →
      list_any (λ y. q == y) (places lits) ≡ true → q < n
  places_small [] within q is = let clash : false ≡ true = is in cc
  places_small (l ∷ ls) within q is =
      elim (or_cases (q == (variable l - 1)) (list_any (λ y. q == y) (places ls)) is) [
        | inl here ↦ let same =
            eqb-true q (variable l - 1) here in let w = within 0 l (omega arith) in
            omega (arith, w.0, w.1)
        | inr later ↦ places_small ls (λ k d lk. within (suc k) d (omega arith)) q later
      ]

  pub simple_few : (lits : Clause) → IsSimple n lits → length lits ≤ n
  simple_few lits simple =
      let few = length-le_from_distinct_below (places lits) n (places_apart lits simple)
      (places_small lits simple.within) in
      let same = length_places lits in omega arith

-- the literals of a trail are a clause without a repeated variable
once_pairs : (trail : List Lit) → IsOnceOn trail →
    AllPairs (λ a b. variable a ≢ variable b) trail
once_pairs [] once = λ i j d lt within. absurd (omega arith)
once_pairs (l ∷ older) once =
    AllPairs-cons (λ a b. variable a ≢ variable b) l older
    (All-weaker (λ (m : Lit). variable m ≢ variable l) (λ (m : Lit). variable l ≢ variable m)
    (λ m ne same. ne (sym same)) older once.0) (once_pairs older once.1)

pub few_entries : (n : ℕ) (entries : List TrailEntry) → AreWithin n entries → IsOnce entries →
    length entries ≤ n
few_entries n entries within once =
    let few = simple_few n (lits_of entries)
    (record {
      within = All-map (IsWithin n) (λ (e : TrailEntry). e.lit) entries within;
      once = once_pairs (lits_of entries) once;
    }) in
    omega (arith, few, length-map entries (λ (e : TrailEntry). e.lit))

-- the empty trail, and one with one more literal
pub empty_trail : (trail : TrailState) → trail.vars ≤ VARIABLE_LIMIT → trail.entries ≡ [] →
    IsTrail trail
empty_trail trail few none = record {
  few_vars = few;
  within = rw none (All-nil (λ (e : TrailEntry). IsWithin trail.vars e.lit));
  once = rw none tt;
  few = rw none (omega arith);
}

pub longer_trail : (old new : TrailState) (e : TrailEntry) → new.vars ≡ old.vars →
    new.entries ≡ e ∷ old.entries → IsWithin old.vars e.lit → IsOpen old.entries e.lit →
    IsTrail old → IsTrail new
longer_trail old new e vars is within free t =
    let all : AreWithin old.vars (e ∷ old.entries) =
    All-cons (λ (x : TrailEntry). IsWithin old.vars x.lit) e old.entries within t.within in
    let few = few_entries old.vars (e ∷ old.entries) all (free, t.once) in
    rw (vars, is) (record { few_vars = t.few_vars; within = all; once = (free, t.once); few = few })
