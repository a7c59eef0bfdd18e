-- One more step of a log.
use Rattle.std.proofs.Common.{inl, inr, ◌≡◌, ◌≢◌, ◌==◌, ◌<◌, ◌≤◌, ◌+◌, ◌*◌, ℕ, zero, suc, ℤ, pos, negsuc, true, false, List, [], ◌∷◌, ◌++◌, length, take, drop, fold, None, Some, slice_get, All, refl, sym, ap, ◌∙◌, subst, arith}
use Rattle.std.proofs.lemmas.Bool.{both_ways, ne_eqb}
use Rattle.std.proofs.lemmas.List.{take-append-le, take_at}
use Rattle.std.proofs.lemmas.List.Elements.{All-head, All-tail}
use Rattle.std.proofs.lemmas.List.Sums.{fold_push}
use Rattle.std.proofs.lemmas.Option.{get_or_from_slice_get, slice_get_within}
use Rattle.list_laws.proofs.Places.{get-cases}
use Rattle.sat_clause.specs.declared.cause.Cause.{Cause}
use Rattle.sat_clause.specs.declared.cause.Cause.TheVariants.{NoEmptyClause}
use Rattle.sat_clause.specs.Formula.{Cnf}
use Rattle.sat_clause.specs.Judge.{Accepted, Refused, after, erase, erase_fault, inputs, is_empty_clause, judge_from, judge_step, take_out}
use Rattle.sat_clause.specs.Literal.{Clause}
use Rattle.sat_clause.specs.Live.{Live, clause_at, put, without}
use Rattle.sat_clause.specs.Step.{Step, Added, Erased}
use Rattle.sat_clause.proofs.LiveLaws.{clause_at-without, inputs_at}
use Rattle.sat_clause.specs.Learned.{AreAddedFrom, EachAdded, EachErased, Sparse, added_count, added_since, deletions}
use Rattle.sat_core.specs.SearchLog.{AreNumbered, DeletesSome, EndsAtEmpty}
use Rattle.sat_core.specs.Stands.{AreGood, IsAbove, SparesInputs, live_after}

-- steps without a refused one, and more of them
pub good_behind : (live : Live) (log more : List Step) → AreGood live log → AreGood
    (fold after live log) more →
    AreGood live (log ++ more)
good_behind live [] more good rest = rest
good_behind live (step ∷ log) more good rest =
    (good.0, good_behind (after live step) log more good.1 rest)

-- if the judge refuses them, it is for want of an empty clause
pub good_so_far : (n : ℕ) (live : Live) (log : List Step) → AreGood live log → (m : ℕ)
    (cause : Cause) →
    judge_from n live log ≡ Refused m cause → cause ≡ NoEmptyClause
good_so_far n live [] good m cause e = cc
good_so_far n live (step ∷ log) good m cause e =
    elim (is_empty_clause step) as (λ b. judge_step n None b
    (judge_from (suc n) (after live step) log) ≡ Refused m cause → cause ≡ NoEmptyClause) [
      | true ↦ λ is. cc
      | false ↦ λ is. good_so_far (suc n) (after live step) log good.1 m cause is
    ] (ap (λ f. judge_step n f (is_empty_clause step) (judge_from (suc n) (after live step) log))
    (sym good.0) ∙ e)

-- with an empty clause it accepts them
pub good_accepted : (n : ℕ) (live : Live) (log : List Step) (id : ℕ) (hints : List ℤ) →
    AreGood live (log ++ Added id [] hints ∷ []) → judge_from n live (log ++ Added id [] hints ∷ [])
    ≡ Accepted
good_accepted n live [] id hints good = rw good.0 refl
good_accepted n live (step ∷ log) id hints good =
    rw good.0 (elim (is_empty_clause step) as
    (λ b. judge_step n None b (judge_from (suc n) (after live step)
    (log ++ Added id [] hints ∷ [])) ≡ Accepted) [
      | true ↦ refl
      | false ↦ good_accepted (suc n) (after live step) log id hints good.1
    ])

pub live_after-push : (formula : Cnf) (log : List Step) (step : Step) →
    live_after formula (log ++ step ∷ []) ≡ after (live_after formula log) step
live_after-push formula log step = fold_push after (inputs formula) log step

-- each added clause has a property, and so has one more
pub each_added_push : (P : Live → Clause → List ℤ → Type 0) (formula : Cnf) (log : List Step)
    (id : ℕ) (clause : Clause) (hints : List ℤ) →
    EachAdded P formula log → P (live_after formula log) clause hints →
    EachAdded P formula (log ++ Added id clause hints ∷ [])
each_added_push P formula log id clause hints each more k i c h is =
    elim (get-cases log (Added id clause hints) (Added i c h) k is) [
      | inl last ↦
          let same : clause ≡ c = cc in
          let hints_same : hints ≡ h = cc in
          let all : take k (log ++ Added id clause hints ∷ []) ≡ log = take_at log
          (Added id clause hints ∷ []) k (sym last.0) in
          rw (all, sym same, sym hints_same) more
      | inr earlier ↦
          let within = slice_get_within log k (Added i c h) earlier in
          let front : take k (log ++ Added id clause hints ∷ []) ≡ take k log = take-append-le k log
          (Added id clause hints ∷ []) (omega arith) in
          rw front (each k i c h earlier)
    ]

-- where nothing is deleted
not_erased : (log : List Step) (k id : ℕ) (ids : List ℤ) → deletions log ≡ 0 →
    slice_get log k ≡ Some (Erased id ids) → ⊥
not_erased [] k id ids none is = cc
not_erased (Added n c h ∷ log) zero id ids none is = cc
not_erased (Added n c h ∷ log) (suc k) id ids none is = not_erased log k id ids none is
not_erased (Erased n i ∷ log) k id ids none is = absurd (omega arith)

pub sparse_without : (log : List Step) → deletions log ≡ 0 → Sparse log
sparse_without log none k id ids is = absurd (not_erased log k id ids none is)

-- each deletion has a property, and an added clause makes no difference
each_erased_push : (P : List Step → List ℤ → Type 0) (log : List Step) (id : ℕ) (clause : Clause)
    (hints : List ℤ) →
    EachErased P log → EachErased P (log ++ Added id clause hints ∷ [])
each_erased_push P log id clause hints each k i ids is =
    elim (get-cases log (Added id clause hints) (Erased i ids) k is) [
      | inl last ↦ let both : Added id clause hints ≡ Erased i ids = last.1 in cc
      | inr earlier ↦
          let within = slice_get_within log k (Erased i ids) earlier in
          let front : take k (log ++ Added id clause hints ∷ []) ≡ take k log = take-append-le k log
          (Added id clause hints ∷ []) (omega arith) in
          rw front (each k i ids earlier)
    ]

pub spares_push : (m : ℕ) (log : List Step) (id : ℕ) (clause : Clause) (hints : List ℤ) →
    SparesInputs m log →
    SparesInputs m (log ++ Added id clause hints ∷ [])
spares_push m log id clause hints spares =
    each_erased_push (λ before ids. All (IsAbove m) ids) log id clause hints spares

pub sparse_push : (log : List Step) (id : ℕ) (clause : Clause) (hints : List ℤ) → Sparse log →
    Sparse (log ++ Added id clause hints ∷ [])
sparse_push log id clause hints sparse =
    each_erased_push (λ before ids. (erase_fault (fold after [] before) ids ≡ None)
    × (1000 * suc (deletions before) ≤ added_since 0 before)) log id clause hints sparse

pub deletes_push : (log : List Step) (id : ℕ) (clause : Clause) (hints : List ℤ) →
    DeletesSome log → DeletesSome (log ++ Added id clause hints ∷ [])
deletes_push log id clause hints deletes =
    each_erased_push (λ before ids. ids ≢ []) log id clause hints deletes

-- one more clause
pub numbered_push : (id new : ℕ) (log : List Step) (clause : Clause) (hints : List ℤ) → AreNumbered
    id log →
    new ≡ id + added_count log → AreNumbered id (log ++ Added new clause hints ∷ [])
numbered_push id new [] clause hints numbered is = (omega (arith, is), tt)
numbered_push id new (Added n c h ∷ log) clause hints numbered is =
    (numbered.0, numbered_push (suc id) new log clause hints numbered.1 (omega (arith, is)))
numbered_push id new (Erased n ids ∷ log) clause hints numbered is =
    (numbered.0, numbered.1, numbered_push id new log clause hints numbered.2 (omega (arith, is)))

pub added_from_push : (id new : ℕ) (log : List Step) (clause : Clause) (hints : List ℤ) →
    AreAddedFrom id log → new ≡ id + added_count log →
    AreAddedFrom id (log ++ Added new clause hints ∷ [])
added_from_push id new [] clause hints numbered is = (omega (arith, is), tt)
added_from_push id new (Added n c h ∷ log) clause hints numbered is =
    (numbered.0, added_from_push (suc id) new log clause hints numbered.1 (omega (arith, is)))
added_from_push id new (Erased n ids ∷ log) clause hints numbered is =
    added_from_push id new log clause hints numbered is

pub added_count-push : (log : List Step) (id : ℕ) (clause : Clause) (hints : List ℤ) →
    added_count (log ++ Added id clause hints ∷ []) ≡ suc (added_count log)
added_count-push [] id clause hints = refl
added_count-push (Added n c h ∷ log) id clause hints = ap suc (added_count-push log id clause hints)
added_count-push (Erased n ids ∷ log) id clause hints = added_count-push log id clause hints

pub deletions-push : (log : List Step) (id : ℕ) (clause : Clause) (hints : List ℤ) →
    deletions (log ++ Added id clause hints ∷ []) ≡ deletions log
deletions-push [] id clause hints = refl
deletions-push (Added n c h ∷ log) id clause hints = deletions-push log id clause hints
deletions-push (Erased n ids ∷ log) id clause hints = ap suc (deletions-push log id clause hints)

pub not_empty_step : (id : ℕ) (clause : Clause) (hints : List ℤ) → clause ≢ [] →
    is_empty_clause (Added id clause hints) ≡ false
not_empty_step id [] hints some = absurd (some refl)
not_empty_step id (l ∷ ls) hints some = refl

-- an empty clause may stand behind steps that add none
pub ends_behind : (log more : List Step) → All (λ step. is_empty_clause step ≡ false) log →
    EndsAtEmpty more →
    EndsAtEmpty (log ++ more)
ends_behind [] more none ends = ends
ends_behind (step ∷ log) more none ends = (
  λ is. absurd (both_ways _ (All-head (λ (s : Step). is_empty_clause s ≡ false) step log none) is),
  ends_behind log more (All-tail (λ (s : Step). is_empty_clause s ≡ false) step log none) ends,
)

-- INPUTS STAY

stays_without : (m out n : ℕ) (live : Live) → m < out → n ≤ m → clause_at (without live out) n ≡
    clause_at live n
stays_without m out n live over most =
    let other : (out == n) ≡ false = ne_eqb out n (omega (arith, over, most)) in
    clause_at-without live out n ∙ rw other refl

stays_out : (m n : ℕ) (live : Live) (h : ℤ) → IsAbove m h → n ≤ m → clause_at (take_out live h) n ≡
    clause_at live n
stays_out m n live (pos h) is most =
    let k : ℕ = is.0 in let same : h ≡ k = cc in stays_without m h n live
    (omega (arith, same, is.2)) most
stays_out m n live (negsuc h) is most = refl

stays_erase : (m n : ℕ) (ids : List ℤ) (live : Live) → All (IsAbove m) ids → n ≤ m →
    clause_at (erase live ids) n ≡ clause_at live n
stays_erase m n [] live over most = refl
stays_erase m n (id ∷ ids) live over most =
    stays_erase m n ids (take_out live id) (All-tail (IsAbove m) id ids over) most
    ∙ stays_out m n live id (All-head (IsAbove m) id ids over) most

stays : (m id : ℕ) (log : List Step) (live : Live) → m < id → AreAddedFrom id log →
    SparesInputs m log → (n : ℕ) → n ≤ m → clause_at (fold after live log) n ≡ clause_at live n
stays m id [] live over numbered spares n most = refl
stays m id (Added new clause hints ∷ log) live over numbered spares n most =
    let other : (n == new) ≡ false = ne_eqb n new (omega (arith, over, numbered.0, most)) in
    stays m (suc id) log (put live new clause) (omega (arith, over)) numbered.1
    (λ j number ids is. spares (suc j) number ids is) n most
    ∙ rw other refl
stays m id (Erased number ids ∷ log) live over numbered spares n most =
    stays m id log (erase live ids) over numbered
    (λ j other others is. spares (suc j) other others is) n most
    ∙ stays_erase m n ids live (spares 0 number ids refl) most

-- each input stays live where no deletion names one
pub inputs_live : (formula : Cnf) (log : List Step) →
    AreAddedFrom (suc (length formula.clauses)) log → SparesInputs (length formula.clauses) log →
    (i : ℕ) (c : Clause) → slice_get formula.clauses i ≡ Some c →
    clause_at (live_after formula log) (suc i) ≡ Some c
inputs_live formula log numbered spares i c is =
    stays (length formula.clauses) (suc (length formula.clauses)) log (inputs formula) (omega arith)
    numbered spares (suc i) (slice_get_within formula.clauses i c is)
    ∙ inputs_at formula i ∙ is

-- A FRONT PART

pub added_from : (id : ℕ) (log : List Step) → AreNumbered id log → AreAddedFrom id log
added_from id [] numbered = tt
added_from id (Added new clause hints ∷ log) numbered =
    (numbered.0, added_from (suc id) log numbered.1)
added_from id (Erased own ids ∷ log) numbered = added_from id log numbered.2

pub added_front : (k : ℕ) (log : List Step) → added_count (take k log) ≤ added_count log
added_front zero log = omega arith
added_front (suc k) [] = omega arith
added_front (suc k) (Added id clause hints ∷ log) =
    let rest = added_front k log in omega (arith, rest)
added_front (suc k) (Erased id ids ∷ log) = added_front k log

-- the step at a place adds its clause under the next id
pub step_id : (id k : ℕ) (log : List Step) (new : ℕ) (clause : Clause) (hints : List ℤ) →
    AreAddedFrom id log → slice_get log k ≡ Some (Added new clause hints) →
    new ≡ id + added_count (take k log)
step_id id k [] new clause hints numbered is = cc
step_id id zero (Added n c h ∷ log) new clause hints numbered is =
    let same : n ≡ new = cc in omega (arith, same, numbered.0)
step_id id (suc k) (Added n c h ∷ log) new clause hints numbered is =
    let rest = step_id (suc id) k log new clause hints numbered.1 is in omega (arith, rest)
step_id id zero (Erased n ids ∷ log) new clause hints numbered is = cc
step_id id (suc k) (Erased n ids ∷ log) new clause hints numbered is =
    step_id id k log new clause hints numbered is

-- fewer deletions are ahead
pub deletions_next : (k : ℕ) (log : List Step) →
    deletions (drop (suc k) log) ≤ deletions (drop k log)
deletions_next zero [] = omega arith
deletions_next zero (Added id clause hints ∷ log) = omega arith
deletions_next zero (Erased id ids ∷ log) = omega arith
deletions_next (suc k) [] = omega arith
deletions_next (suc k) (step ∷ log) = deletions_next k log

pub none_at_end : (log : List Step) → deletions (drop (length log) log) ≡ 0
none_at_end [] = refl
none_at_end (step ∷ log) = none_at_end log

-- a step where nothing is deleted from there on is none that deletes
pub none_erased_ahead : (k : ℕ) (log : List Step) (id : ℕ) (ids : List ℤ) →
    deletions (drop k log) ≡ 0 → slice_get log k ≡ Some (Erased id ids) → ⊥
none_erased_ahead k [] id ids none is = cc
none_erased_ahead zero (Added n c h ∷ log) id ids none is = cc
none_erased_ahead zero (Erased n i ∷ log) id ids none is = absurd (omega (arith, none))
none_erased_ahead (suc k) (step ∷ log) id ids none is = none_erased_ahead k log id ids none is

-- each step has what all have
pub step_all : (P : Step → Type 0) (log : List Step) (k : ℕ) (step : Step) → All P log →
    slice_get log k ≡ Some step → P step
step_all P log k step all is =
    subst P (get_or_from_slice_get log k step step is)
    (all k step (slice_get_within log k step is))
