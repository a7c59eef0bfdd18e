-- The steps that add clauses, by their ids and their places.
use Rattle.std.proofs.Common.{◌≡◌, ℕ, zero, suc, ◌+◌, ◌-◌, ◌<◌, ◌≤◌, Bool, true, false, cond, ◌==◌, ℤ, List, [], ◌∷◌, ◌++◌, length, get_or, take, add-one, append-nil, None, Some, inl, inr, refl, sym, ap, subst, ◌∙◌, arith, All}
use Rattle.std.specs.Prelude.{IsTrue, nat_le, slice_get}
use Rattle.std.proofs.lemmas.Bool.{cases_lt}
use Rattle.std.proofs.lemmas.Bool.Decides.{Decides-eqb, nat_tests}
use Rattle.std.proofs.lemmas.List.{get_or_default, length-take}
use Rattle.std.proofs.lemmas.List.Elements.{All-append, All-nil}
use Rattle.std.proofs.lemmas.Option.{get_or_from_slice_get, slice_get_within}
use Rattle.sat_check.proofs.StepLaws.{take_more}
use Rattle.sat_clause.specs.Formula.{Cnf}
use Rattle.sat_clause.specs.Judge.{inputs}
use Rattle.sat_clause.specs.Literal.{Clause, IsWithin}
use Rattle.sat_clause.specs.Live.{clause_at}
use Rattle.sat_clause.proofs.LiveLaws.{inputs_at}
use Rattle.sat_clause.specs.Step.{Step, Added, Erased}
use Rattle.route_encode.proofs.CompeteLemmas.{differs}
use Rattle.route_core.specs.SourceStore.{HasId, IdsRise, NoneHasId, StepWithin, added_from}
use Rattle.route_core.specs.Sources.{added_under, place_from, said_under}
use Rattle.route_core.specs.Trimmed.{AddedRise}
use Rattle.route_core.specs.declared.sources.AddedStep.{AddedStep}

-- ---- where a listed step stands

-- the listed ids are above the number that they rise from
pub listed-above : (k m : ℕ) (log : List Step) → AddedRise m log → (n : ℕ) (d : AddedStep)
    → n < length (added_from k log) → m < (get_or (added_from k log) n d).id
listed-above k m [] rise n d low = absurd (omega (arith, low))
listed-above k m (Added id c h ∷ log) rise zero d low = rise.0
listed-above k m (Added id c h ∷ log) rise (suc n) d low =
    let more = listed-above (suc k) id log rise.1 n d (omega (arith, low)) in
    omega (arith, more, rise.0)
listed-above k m (Erased id ids ∷ log) rise n d low = listed-above (suc k) m log rise n d low

pub listed-rise : (k m : ℕ) (log : List Step) → AddedRise m log → IdsRise (added_from k log)
listed-rise k m [] rise i j d before low = absurd (omega (arith, low))
listed-rise k m (Added id c h ∷ log) rise i zero d before low = absurd (omega (arith, before))
listed-rise k m (Added id c h ∷ log) rise zero (suc j) d before low =
    listed-above (suc k) id log rise.1 j d (omega (arith, low))
listed-rise k m (Added id c h ∷ log) rise (suc i) (suc j) d before low =
    listed-rise (suc k) id log rise.1 i j d (omega (arith, before)) (omega (arith, low))
listed-rise k m (Erased id ids ∷ log) rise i j d before low =
    listed-rise (suc k) m log rise i j d before low

-- a listed step is the first under its id
pub listed-place : (k m : ℕ) (log : List Step) → AddedRise m log → (n : ℕ) (d : AddedStep)
    → n < length (added_from k log) → place_from k log (get_or (added_from k log) n d).id
    ≡ Some (get_or (added_from k log) n d).place
listed-place k m [] rise n d low = absurd (omega (arith, low))
listed-place k m (Added id c h ∷ log) rise zero d low =
    ap (λ (b : Bool). cond b (Some k) (place_from (suc k) log id)) ((Decides-eqb id id).1 refl)
listed-place k m (Added id c h ∷ log) rise (suc n) d low =
    let above = listed-above (suc k) id log rise.1 n d (omega (arith, low)) in
    let step : AddedStep = get_or (added_from (suc k) log) n d in
    ap (λ (b : Bool). cond b (Some k) (place_from (suc k) log step.id))
    (differs step.id id (λ e. omega (arith, above, e)))
    ∙ listed-place (suc k) id log rise.1 n d (omega (arith, low))
listed-place k m (Erased id ids ∷ log) rise n d low = listed-place (suc k) m log rise n d low

-- an id that is not listed has no step
pub listed-none : (k : ℕ) (log : List Step) (id : ℕ) → NoneHasId (added_from k log) id
    → place_from k log id ≡ None
listed-none k [] id none = refl
listed-none k (Added other c h ∷ log) id none =
    let first : AddedStep = record { id = other; place = k } in
    ap (λ (b : Bool). cond b (Some k) (place_from (suc k) log id))
    (differs id other (λ e. none 0 first (omega arith) (sym e)))
    ∙ listed-none (suc k) log id (λ n d low. none (suc n) d (omega (arith, low)))
listed-none k (Erased other ids ∷ log) id none = listed-none (suc k) log id none

-- ---- what stands at a place

pub record StandsUnder (k : ℕ) (log : List Step) (id place : ℕ) : Type 0 where
  pub clause : Clause
  pub hints : List ℤ
  pub at : ℕ
  pub is : place ≡ k + at
  pub step : slice_get log at ≡ Some (Added id clause hints)
  pub said : added_under log id ≡ Some clause

pub place-step : (k : ℕ) (log : List Step) (id place : ℕ) → place_from k log id ≡ Some place
    → StandsUnder k log id place
place-step k [] id place h = cc
place-step k (Added other c hints ∷ log) id place h =
    go (id == other) refl h (λ e. place-step (suc k) log id place e)
  where
    go : (b : Bool) → (id == other) ≡ b → cond b (Some k) (place_from (suc k) log id) ≡ Some place
        → (place_from (suc k) log id ≡ Some place → StandsUnder (suc k) log id place)
        → StandsUnder k (Added other c hints ∷ log) id place
    go true e f more =
        let same : id ≡ other = (Decides-eqb id other).0 e in
        let here : k ≡ place = cc in
        record {
          clause = c;
          hints = hints;
          at = 0;
          is = omega (arith, here);
          step = ap (λ (n : ℕ). Some (Added n c hints)) (sym same);
          said = ap (λ (b : Bool). cond b (Some c) (added_under log id)) e;
        }
    go false e f more =
        let r = more f in
        record {
          clause = r.clause;
          hints = r.hints;
          at = suc r.at;
          is = omega (arith, r.is);
          step = r.step;
          said = ap (λ (b : Bool). cond b (Some c) (added_under log id)) e ∙ r.said;
        }
place-step k (Erased other ids ∷ log) id place h =
    let r = place-step (suc k) log id place h in
    record {
      clause = r.clause;
      hints = r.hints;
      at = suc r.at;
      is = omega (arith, r.is);
      step = r.step;
      said = r.said;
    }

pub place-none : (k : ℕ) (log : List Step) (id : ℕ) → place_from k log id ≡ None
    → added_under log id ≡ None
place-none k [] id h = refl
place-none k (Added other c hints ∷ log) id h =
    go (id == other) h (λ e. place-none (suc k) log id e)
  where
    go : (b : Bool) → cond b (Some k) (place_from (suc k) log id) ≡ None
        → (place_from (suc k) log id ≡ None → added_under log id ≡ None)
        → cond b (Some c) (added_under log id) ≡ None
    go true f more = cc
    go false f more = more f
place-none k (Erased other ids ∷ log) id h = place-none (suc k) log id h

-- where ids rise, a step that adds under an id is the first to do so
pub step-place : (k m : ℕ) (log : List Step) → AddedRise m log → (at id : ℕ) (c : Clause)
    (hints : List ℤ) → slice_get log at ≡ Some (Added id c hints)
    → (m < id) × (place_from k log id ≡ Some (k + at))
step-place k m [] rise at id c hints h = cc
step-place k m (Added other d gs ∷ log) rise zero id c hints h =
    let same : Added other d gs ≡ Added id c hints = cc in
    let number : other ≡ id = cc in
    let above : m < other = rise.0 in (
      omega (arith, above, number),
      ap (λ (b : Bool). cond b (Some k) (place_from (suc k) log id))
          ((Decides-eqb id other).1 (sym number))
          ∙ ap Some (omega arith),
    )
step-place k m (Added other d gs ∷ log) rise (suc at) id c hints h =
    let r = step-place (suc k) other log rise.1 at id c hints h in
    let above : m < other = rise.0 in (
      omega (arith, above, r.0),
      ap (λ (b : Bool). cond b (Some k) (place_from (suc k) log id))
          (differs id other (λ e. omega (arith, r.0, e)))
          ∙ r.1 ∙ ap Some (omega arith),
    )
step-place k m (Erased other ids ∷ log) rise zero id c hints h = cc
step-place k m (Erased other ids ∷ log) rise (suc at) id c hints h =
    let r = step-place (suc k) m log rise at id c hints h in
    (r.0, r.1 ∙ ap Some (omega arith))

-- ---- one step more

pub take-next : (log : List Step) (at : ℕ) (step : Step) → slice_get log at ≡ Some step
    → take (at + 1) log ≡ take at log ++ step ∷ []
take-next log at step is =
    ap (λ (n : ℕ). take n log) (add-one at) ∙ take_more log at step is

pub front-length : (log : List Step) (at : ℕ) (step : Step) → slice_get log at ≡ Some step
    → 0 + length (take at log) ≡ at
front-length log at step is =
    let low = slice_get_within log at step is in
    omega (arith, length-take at log, low)

pub added-append : (k : ℕ) (xs ys : List Step)
    → added_from k (xs ++ ys) ≡ added_from k xs ++ added_from (k + length xs) ys
added-append k [] ys = ap (λ (n : ℕ). added_from n ys) (omega arith)
added-append k (Added id c h ∷ xs) ys =
    ap (λ (rest : List AddedStep). record { id = id; place = k } ∷ rest)
    (added-append (suc k) xs ys ∙ ap (λ (n : ℕ). added_from (suc k) xs ++ added_from n ys)
    (let e : suc k + length xs ≡ k + suc (length xs) = omega arith in e))
added-append k (Erased id ids ∷ xs) ys =
    added-append (suc k) xs ys ∙ ap (λ (n : ℕ). added_from (suc k) xs ++ added_from n ys)
    (let e : suc k + length xs ≡ k + suc (length xs) = omega arith in e)

-- ---- the search among rising ids

module _ (added : List AddedStep) (rise : IdsRise added) (id middle : ℕ)
    (inside : middle < length added) where
  -- where the id there is lower, so are those before it
  pub lower-more : (here : AddedStep) → (get_or added middle here).id < id → (k : ℕ)
      (d : AddedStep) → k < middle + 1 → (get_or added k d).id < id
  lower-more here low k d before = elim (cases_lt k middle) [
    | inl first ↦ (let more = rise k middle d first inside in
        let same = get_or_default added middle here d inside in
        omega (arith, more, low, ap (λ (s : AddedStep). s.id) same))
    | inr not_first ↦ (let e : k ≡ middle = omega (arith, before, not_first) in
        let same = get_or_default added middle here d inside in
        subst (λ (j : ℕ). (get_or added j d).id < id) (sym e)
        (omega (arith, low, ap (λ (s : AddedStep). s.id) same)))
  ]

  -- where it is higher, so are those behind it
  pub higher-more : (here : AddedStep) → id < (get_or added middle here).id → (k : ℕ)
      (d : AddedStep) → middle ≤ k → k < length added → id < (get_or added k d).id
  higher-more here high k d behind low = elim (cases_lt middle k) [
    | inl later ↦ (let more = rise middle k d later low in
        let same = get_or_default added middle here d inside in
        omega (arith, more, high, ap (λ (s : AddedStep). s.id) same))
    | inr not_later ↦ (let e : k ≡ middle = omega (arith, behind, not_later) in
        let same = get_or_default added middle here d inside in
        subst (λ (j : ℕ). id < (get_or added j d).id) (sym e)
        (omega (arith, high, ap (λ (s : AddedStep). s.id) same)))
  ]

-- ---- what is said of an id

is-low : (a b : ℕ) → a ≤ b → nat_le a b ≡ true
is-low a b h = grind (arith, nat_tests)

not-low : (a b : ℕ) → b < a → nat_le a b ≡ false
not-low a b h = grind (arith, nat_tests)

module _ (formula : Cnf) (log : List Step) (id : ℕ) where
  abbrev count : ℕ
  count = length formula.clauses

  -- an input clause
  pub said-input : (clause : Clause) → 1 ≤ id → id ≤ count
      → slice_get formula.clauses (id - 1) ≡ Some clause
      → Some clause ≡ said_under formula log id
  said-input clause some low is =
      sym (ap (λ (b : Bool). cond b (clause_at (inputs formula) id) (added_under log id))
      (is-low id count low)
      ∙ subst (λ (n : ℕ). clause_at (inputs formula) n ≡ slice_get formula.clauses (id - 1))
      (let e : suc (id - 1) ≡ id = omega (arith, some) in e) (inputs_at formula (id - 1))
      ∙ is)

  said-above : count < id → said_under formula log id ≡ added_under log id
  said-above above =
      ap (λ (b : Bool). cond b (clause_at (inputs formula) id) (added_under log id))
      (not-low id count above)

  pub said-none : count < id → place_from 0 log id ≡ None → None ≡ said_under formula log id
  said-none above none = sym (said-above above ∙ place-none 0 log id none)

-- ---- no id stands for a clause of greater variables

added-within : (n : ℕ) (steps : List Step) → All (StepWithin n) steps → (id : ℕ) (clause : Clause)
    → added_under steps id ≡ Some clause → All (IsWithin n) clause
added-within n [] all id clause is = cc
added-within n (Added other c hints ∷ steps) all id clause is =
    go (id == other) is
    (λ e. added-within n steps (λ k d low. all (suc k) d (omega (arith, low))) id clause e)
  where
    go : (b : Bool) → cond b (Some c) (added_under steps id) ≡ Some clause
        → (added_under steps id ≡ Some clause → All (IsWithin n) clause) → All (IsWithin n) clause
    go true e more =
        subst (λ (d : Clause). All (IsWithin n) d) (let same : c ≡ clause = cc in same)
        (all 0 (Added other c hints) (omega arith))
    go false e more = more e
added-within n (Erased other ids ∷ steps) all id clause is =
    added-within n steps (λ k d low. all (suc k) d (omega (arith, low))) id clause is

pub said-within : (n : ℕ) (formula : Cnf) (log : List Step) → All (All (IsWithin n)) formula.clauses
    → All (StepWithin n) log → (k : ℕ) (clause : Clause)
    → said_under formula log (suc k) ≡ Some clause → All (IsWithin n) clause
said-within n formula log inputs_in added_in k clause is =
    go (nat_le (suc k) (length formula.clauses)) is
  where
    go : (b : Bool)
        → cond b (clause_at (inputs formula) (suc k)) (added_under log (suc k)) ≡ Some clause
        → All (IsWithin n) clause
    go true e =
        let there : slice_get formula.clauses k ≡ Some clause = sym (inputs_at formula k) ∙ e in
        subst (λ (c : Clause). All (IsWithin n) c)
        (get_or_from_slice_get formula.clauses k clause [] there)
        (inputs_in k [] (slice_get_within formula.clauses k clause there))
    go false e = added-within n log added_in (suc k) clause e

-- ids below the first are none of those that rise from there
pub none-below : (added : List AddedStep) → IdsRise added → (id : ℕ) (first : AddedStep)
    → id < (get_or added 0 first).id → NoneHasId added id
none-below added rise id first below zero d low same =
    let is = ap (λ (s : AddedStep). s.id) (get_or_default added 0 first d low) in
    omega (arith, below, is, same)
none-below added rise id first below (suc number) d low same =
    let is = ap (λ (s : AddedStep). s.id)
    (get_or_default added 0 first d (omega (arith, low))) in
    let more = rise 0 (suc number) d (omega arith) low in
    omega (arith, below, is, same, more)

-- ---- variables up to a greater number

pub within-more : (m n : ℕ) (clause : Clause) → m ≤ n → All (IsWithin m) clause
    → All (IsWithin n) clause
within-more m n clause more h k d low = let w = h k d low in (w.0, omega (arith, w.1, more))

pub steps-more : (m n : ℕ) (steps : List Step) → m ≤ n → All (StepWithin m) steps
    → All (StepWithin n) steps
steps-more m n steps more h k d low = one (get_or steps k d) (h k d low)
  where
    one : (step : Step) → StepWithin m step → StepWithin n step
    one (Added id clause hints) w = within-more m n clause more w
    one (Erased id ids) w = tt

pub clauses-more : (m n : ℕ) (clauses : List Clause) → m ≤ n → All (All (IsWithin m)) clauses
    → All (All (IsWithin n)) clauses
clauses-more m n clauses more h k d low = within-more m n (get_or clauses k d) more (h k d low)

-- ---- a step as a view of it shows it

pub all-one : {T : Type 0} (P : T → Type 0) (x : T) → P x → All P (x ∷ [])
all-one P x h zero d low = h
all-one P x h (suc k) d low = absurd (omega (arith, low))

pub view-within : (n : ℕ) (erase : Bool) (id : ℕ) (lits : Clause) (hints : List ℤ)
    → All (IsWithin n) lits → StepWithin n (cond erase (Erased id hints) (Added id lits hints))
view-within n true id lits hints h = tt
view-within n false id lits hints h = h

pub steps-push : (n : ℕ) (log : List Step) (at : ℕ) (step : Step) → slice_get log at ≡ Some step
    → All (StepWithin n) (take at log) → StepWithin n step
    → All (StepWithin n) (take (at + 1) log)
steps-push n log at step is before h =
    subst (All (StepWithin n)) (sym (take-next log at step is))
    (All-append (StepWithin n) (take at log) (step ∷ []) before (all-one (StepWithin n) step h))

-- the literals of a step are within what all steps are
pub lits-within : (n : ℕ) (log : List Step) (at : ℕ) (erase : Bool) (id : ℕ) (lits : Clause)
    (hints : List ℤ) → All (StepWithin n) log
    → slice_get log at ≡ Some (cond erase (Erased id hints) (Added id lits hints))
    → (IsTrue erase → lits ≡ []) → All (IsWithin n) lits
lits-within n log at true id lits hints all is none =
    subst (All (IsWithin n)) (sym (none refl)) (All-nil (IsWithin n))
lits-within n log at false id lits hints all is none =
    subst (StepWithin n) (get_or_from_slice_get log at (Added id lits hints)
    (Added id lits hints) is) (all at (Added id lits hints)
    (slice_get_within log at (Added id lits hints) is))

-- what one step more lists
pub listed-added : (log : List Step) (at id : ℕ) (clause : Clause) (hints : List ℤ)
    → slice_get log at ≡ Some (Added id clause hints) → added_from 0 (take (at + 1) log)
    ≡ added_from 0 (take at log) ++ record { id = id; place = at } ∷ []
listed-added log at id clause hints is =
    ap (added_from 0) (take-next log at (Added id clause hints) is)
    ∙ added-append 0 (take at log) (Added id clause hints ∷ [])
    ∙ ap (λ (n : ℕ). added_from 0 (take at log) ++ record { id = id; place = n } ∷ [])
    (front-length log at (Added id clause hints) is)

pub listed-erased : (log : List Step) (at id : ℕ) (ids : List ℤ)
    → slice_get log at ≡ Some (Erased id ids)
    → added_from 0 (take (at + 1) log) ≡ added_from 0 (take at log)
listed-erased log at id ids is =
    ap (added_from 0) (take-next log at (Erased id ids) is)
    ∙ added-append 0 (take at log) (Erased id ids ∷ [])
    ∙ append-nil (added_from 0 (take at log))

-- the step that a listed one stands for
pub listed-found : (m : ℕ) (log : List Step) (added : List AddedStep) → added ≡ added_from 0 log
    → AddedRise m log → (id number : ℕ) → HasId added id number → (d : AddedStep)
    → place_from 0 log id ≡ Some (get_or added number d).place
listed-found m log added all rise id number has d =
    subst (λ (xs : List AddedStep). HasId xs id number
    → place_from 0 log id ≡ Some (get_or xs number d).place) (sym all)
    (λ h. ap (place_from 0 log) (sym (h.1 d)) ∙ listed-place 0 m log rise number d h.0) has

pub place-inside : (log : List Step) (id place : ℕ) → place_from 0 log id ≡ Some place
    → place < length log
place-inside log id place is =
    let stands = place-step 0 log id place is in
    let low = slice_get_within log stands.at (Added id stands.clause stands.hints) stands.step in
    omega (arith, low, stands.is)

pub said-step : (formula : Cnf) (log : List Step) (id place : ℕ) → length formula.clauses < id
    → place_from 0 log id ≡ Some place → (erase : Bool) (other : ℕ) (lits : Clause)
    (hints : List ℤ)
    → slice_get log place ≡ Some (cond erase (Erased other hints) (Added other lits hints))
    → Some lits ≡ said_under formula log id
said-step formula log id place above found erase other lits hints is =
    let stands = place-step 0 log id place found in
    let at : place ≡ stands.at = omega (arith, stands.is) in
    go erase (sym is ∙ subst (λ (n : ℕ). slice_get log n
    ≡ Some (Added id stands.clause stands.hints)) (sym at) stands.step)
    (sym (said-above formula log id above ∙ stands.said))
  where
    go : (b : Bool) → {c : Clause} {hs : List ℤ}
        → Some (cond b (Erased other hints) (Added other lits hints)) ≡ Some (Added id c hs)
        → Some c ≡ said_under formula log id → Some lits ≡ said_under formula log id
    go true e f = cc
    go false e f = cc
