-- The way back over an accepted log keeps the steps that are needed.
use Rattle.std.proofs.Common.{◌≡◌, ◌≢◌, ◌<◌, ◌≤◌, ◌+◌, ◌-◌, ℕ, zero, suc, ◌==◌, ℤ, pos, negsuc, Bool, true, false, cond, List, [], ◌∷◌, ◌++◌, length, get_or, take, drop, Option, None, Some, refl, sym, ap, subst, ◌∙◌, arith, All}
use Rattle.std.specs.Prelude.{◌||◌, fold, reverse, slice_get}
use Rattle.std.specs.List.{list_any}
use Rattle.std.specs.Option.{option_map_or}
use Rattle.std.specs.Ordering.{int_eq}
use Rattle.std.proofs.Math.Seq.{drop-cons}
use Rattle.std.proofs.lemmas.Bool.{both_ways}
use Rattle.std.proofs.lemmas.Bool.Decides.{Decides-eqb, Decides-int_eq}
use Rattle.std.proofs.lemmas.List.{reverse-append}
use Rattle.std.proofs.lemmas.List.Sums.{fold_push}
use Rattle.std.proofs.lemmas.Option.{get_or_from_slice_get, slice_get-get_or, slice_get_within}
use Rattle.sat_check.proofs.StepLaws.{take_more}
use Rattle.sat_clause.specs.Formula.{Cnf}
use Rattle.sat_clause.specs.Judge.{Accepted, Accepts, after, fault, inputs, is_empty_clause, judge_from}
use Rattle.sat_clause.specs.Learned.{live_before}
use Rattle.sat_clause.specs.Literal.{Clause, IsWithin, variable}
use Rattle.sat_clause.specs.Live.{Live, named}
use Rattle.sat_clause.specs.Rup.{rup}
use Rattle.sat_clause.specs.Step.{Step, Added, Erased}
use Rattle.sat_clause.proofs.JudgeLaws.{accepted_parts, refused_not_accepted}
use Rattle.route_encode.proofs.CompeteLemmas.{differs}
use Rattle.route_core.specs.Blamed.{is_hint}
use Rattle.route_core.specs.Keeping.{AreMarked, IsFirstEmpty, IsGoodAt, KeepsStep, is_wanted, names, needed_behind}
use Rattle.route_core.specs.Needed.{Kept, needed_from}
use Rattle.route_core.specs.Sources.{place_from, place_named, said_under}
use Rattle.route_core.specs.Trimmed.{AddedRise}
use Rattle.route_core.specs.Trimming.{needed_steps, step_if}
use Rattle.route_core.proofs.ListedLemmas.{place-step, said-within, step-place}
use Rattle.route_core.specs.SourceStore.{StepWithin}
use Rattle.route_core.specs.Walking.{kept_back}
use Rattle.route_core.proofs.SourceLemmas.{live_is_said}
use Rattle.route_core.proofs.WalkLemmas.{some-hints, walk}

-- ---- the first empty clause, and the steps up to it

-- an accepted log has an empty clause
pub none-empty : (n : ℕ) (live : Live) (log : List Step) → judge_from n live log ≡ Accepted
    → ((k : ℕ) (step : Step) → slice_get log k ≡ Some step → is_empty_clause step ≡ false) → ⊥
none-empty n live [] h none = refused_not_accepted h
none-empty n live (step ∷ log) h none =
    none-empty (suc n) (after live step) log
    ((accepted_parts fault n live step log h).rest (none 0 step refl))
    (λ k s is. none (suc k) s is)

-- each step up to it is good
pub good-at : (n : ℕ) (live : Live) (log : List Step) → judge_from n live log ≡ Accepted
    → (k id : ℕ) (clause : Clause) (hints : List ℤ)
    → slice_get log k ≡ Some (Added id clause hints)
    → ((j : ℕ) (step : Step) → j < k → slice_get log j ≡ Some step
    → is_empty_clause step ≡ false)
    → rup (fold after live (take k log)) clause hints ≡ None
good-at n live [] h k id clause hints is none = absurd (refused_not_accepted h)
good-at n live (step ∷ log) h zero id clause hints is none =
    let same : step ≡ Added id clause hints = cc in
    let accepted : judge_from n live (Added id clause hints ∷ log) ≡ Accepted =
    subst (λ (s : Step). judge_from n live (s ∷ log) ≡ Accepted) same h in
    (accepted_parts fault n live (Added id clause hints) log accepted).good
good-at n live (step ∷ log) h (suc k) id clause hints is none =
    good-at (suc n) (after live step) log
    ((accepted_parts fault n live step log h).rest (none 0 step (omega arith) refl)) k id clause
    hints is
    (λ j s below at. none (suc j) s (omega (arith, below)) at)

-- ---- the needed steps from a place on

module _ (formula : Cnf) (log : List Step) (k : ℕ) where
  drop-step : (step : Step) → slice_get log k ≡ Some step → drop k log ≡ step ∷ drop (suc k) log
  drop-step step is =
      drop-cons log k step (slice_get_within log k step is)
      ∙ ap (λ (s : Step). s ∷ drop (suc k) log) (get_or_from_slice_get log k step step is)

  live-step : (step : Step) → slice_get log k ≡ Some step
      → after (live_before formula log k) step ≡ live_before formula log (suc k)
  live-step step is =
      sym (ap (fold after (inputs formula)) (take_more log k step is)
      ∙ fold_push after (inputs formula) (take k log) step)

  behind-empty : (id : ℕ) (hints : List ℤ) → slice_get log k ≡ Some (Added id [] hints)
      → needed_behind formula log k
      ≡ Added id [] (needed_from (live_before formula log k) [] hints).hints ∷ []
  behind-empty id hints is =
      ap (needed_steps (live_before formula log k)) (drop-step (Added id [] hints) is)

  behind-added : (id : ℕ) (clause : Clause) (hints : List ℤ)
      → slice_get log k ≡ Some (Added id clause hints)
      → is_empty_clause (Added id clause hints) ≡ false → needed_behind formula log k
      ≡ step_if (is_hint (needed_behind formula log (suc k)) id)
      (Added id clause (needed_from (live_before formula log k) clause hints).hints)
      (needed_behind formula log (suc k))
  behind-added id [] hints is some = cc
  behind-added id (l ∷ ls) hints is some =
      ap (needed_steps (live_before formula log k)) (drop-step (Added id (l ∷ ls) hints) is)
      ∙ ap (λ (live : Live). step_if (is_hint (needed_steps live (drop (suc k) log)) id)
      (Added id (l ∷ ls) (needed_from (live_before formula log k) (l ∷ ls) hints).hints)
      (needed_steps live (drop (suc k) log)))
      (live-step (Added id (l ∷ ls) hints) is)

  behind-erased : (id : ℕ) (ids : List ℤ) → slice_get log k ≡ Some (Erased id ids)
      → needed_behind formula log k ≡ needed_behind formula log (suc k)
  behind-erased id ids is =
      ap (needed_steps (live_before formula log k)) (drop-step (Erased id ids) is)
      ∙ ap (λ (live : Live). needed_steps live (drop (suc k) log)) (live-step (Erased id ids) is)

-- ---- which hints name a step

module _ (log : List Step) (j : ℕ) where
  names-at : (o : Option ℕ) (h : ℤ) → place_named log h ≡ o
      → names log j h ≡ option_map_or (λ place. place == j) o false
  names-at o h e = ap (λ (x : Option ℕ). option_map_or (λ place. place == j) x false) e

  -- what is found elsewhere is not this step
  elsewhere : (n : ℕ) (step : Step) → slice_get log j ≡ Some step
      → ((clause : Clause) (hints : List ℤ) → step ≢ Added n clause hints)
      → option_map_or (λ place. place == j) (place_from 0 log n) false ≡ false
  elsewhere n step is other = go (place_from 0 log n) refl
    where
      go : (o : Option ℕ) → place_from 0 log n ≡ o
          → option_map_or (λ place. place == j) o false ≡ false
      go None e = refl
      go (Some place) e = differs place j (λ same.
          let stands = place-step 0 log n place e in
          let at : stands.at ≡ j = omega (arith, stands.is, same) in
          let there = subst (λ (x : ℕ). slice_get log x ≡ Some (Added n stands.clause stands.hints))
          at stands.step in
          other stands.clause stands.hints cc)

  names-erased : (id : ℕ) (ids : List ℤ) → slice_get log j ≡ Some (Erased id ids) → (h : ℤ)
      → names log j h ≡ false
  names-erased id ids is (pos zero) = refl
  names-erased id ids is (pos (suc n)) =
      elsewhere (suc n) (Erased id ids) is (λ c hs e. cc)
  names-erased id ids is (negsuc n) = refl

  module _ (m : ℕ) (rise : AddedRise m log) (id : ℕ) (clause : Clause) (hints : List ℤ)
      (is : slice_get log j ≡ Some (Added id clause hints)) where
    found : (m < id) × (place_from 0 log id ≡ Some (0 + j))
    found = step-place 0 m log rise j id clause hints is

    not-same : (h : ℤ) → h ≢ pos id → int_eq h (pos id) ≡ false
    not-same h other = go (int_eq h (pos id)) refl
      where
        go : (b : Bool) → int_eq h (pos id) ≡ b → b ≡ false
        go true e = absurd (other ((Decides-int_eq h (pos id)).0 e))
        go false e = refl

    names-added : (h : ℤ) → names log j h ≡ int_eq h (pos id)
    names-added (pos zero) =
        sym (not-same (pos 0) (λ e. let same : 0 ≡ id = cc in omega (arith, same, found.0)))
    names-added (pos (suc n)) = go (suc n == id) refl
      where
        go : (b : Bool) → (suc n == id) ≡ b → names log j (pos (suc n))
            ≡ int_eq (pos (suc n)) (pos id)
        go true e =
            let same : suc n ≡ id = (Decides-eqb (suc n) id).0 e in
            ap (λ (o : Option ℕ). option_map_or (λ place. place == j) o false)
            (ap (place_from 0 log) same ∙ found.1)
            ∙ (Decides-eqb (0 + j) j).1 (omega arith)
            ∙ sym ((Decides-int_eq (pos (suc n)) (pos id)).1 (ap pos same))
        go false e =
            elsewhere (suc n) (Added id clause hints) is
            (λ c hs same. let number : id ≡ suc n = cc in
            both_ways _ e ((Decides-eqb (suc n) id).1 (sym number)))
            ∙ sym (not-same (pos (suc n)) (λ same.
            let number : suc n ≡ id = cc in both_ways _ e ((Decides-eqb (suc n) id).1 number)))
    names-added (negsuc n) = sym (not-same (negsuc n) (λ e. cc))

    any-added : (hs : List ℤ) → list_any (names log j) hs
        ≡ list_any (λ g. int_eq g (pos id)) hs
    any-added [] = refl
    any-added (h ∷ hs) =
        ap (λ (b : Bool). b || list_any (names log j) hs) (names-added h)
        ∙ ap (λ (b : Bool). int_eq h (pos id) || b) (any-added hs)

  any-erased : (id : ℕ) (ids : List ℤ) → slice_get log j ≡ Some (Erased id ids) → (hs : List ℤ)
      → list_any (names log j) hs ≡ false
  any-erased id ids is [] = refl
  any-erased id ids is (h ∷ hs) =
      ap (λ (b : Bool). b || list_any (names log j) hs) (names-erased id ids is h)
      ∙ any-erased id ids is hs

-- ---- one step is kept

or-swap : (a b : Bool) → (a || b) ≡ (b || a)
or-swap true true = refl
or-swap true false = refl
or-swap false true = refl
or-swap false false = refl

module _ (formula : Cnf) (log : List Step) (m : ℕ) (rise : AddedRise m log) (k : ℕ)
    (later : List Step) (old new : List Step) (before after_marks : List Bool)
    (keeps : KeepsStep formula log k old new before after_marks)
    (many : length before ≡ length log) (id : ℕ) (clause : Clause) (hints : List ℤ)
    (is : slice_get log k ≡ Some (Added id clause hints)) where
  abbrev row : List ℤ
  row = (needed_from (live_before formula log k) clause hints).hints

  kept-marks : (at : ℕ) → at < suc k → AreMarked log later at before
      → AreMarked log (Added id clause row ∷ later) at after_marks
  kept-marks at low marked j below =
      let inside = slice_get_within log k (Added id clause hints) is in
      let there : j < length log = omega (arith, below, low, inside) in
      keeps.marks id clause hints is j (omega (arith, there, many))
      ∙ ap (λ (b : Bool). b || list_any (names log j) row) (marked j below)
      ∙ go (slice_get log j) refl
    where
      step : (s : Step) → slice_get log j ≡ Some s
          → (is_wanted later (Some s) || list_any (names log j) row)
          ≡ is_wanted (Added id clause row ∷ later) (Some s)
      step (Added other c hs) at_j =
          ap (λ (b : Bool). is_hint later other || b)
          (any-added log j m rise other c hs at_j row)
          ∙ or-swap (is_hint later other) (list_any (λ g. int_eq g (pos other)) row)
      step (Erased other ids) at_j = any-erased log j other ids at_j row

      go : (o : Option Step) → slice_get log j ≡ o
          → (is_wanted later o || list_any (names log j) row)
          ≡ is_wanted (Added id clause row ∷ later) o
      go (Some s) e = step s e
      go None e =
          let inside = slice_get_within log k (Added id clause hints) is in
          let there : j < length log = omega (arith, below, low, inside) in
          let here = slice_get-get_or log j (Added id clause hints) there in
          cc

-- ---- a step as a view of it shows it

-- a view of a step that adds a clause shows that clause and its hints
view-added : (erase : Bool) (id : ℕ) (lits : Clause) (hints : List ℤ) (other : ℕ)
    (clause : Clause) (gs : List ℤ)
    → Some (cond erase (Erased id hints) (Added id lits hints)) ≡ Some (Added other clause gs)
    → Added id lits hints ≡ Added other clause gs
view-added true id lits hints other clause gs h = cc
view-added false id lits hints other clause gs h = cc

same-step : (id : ℕ) (lits : Clause) (hints : List ℤ) (other : ℕ) (clause : Clause) (gs : List ℤ)
    → Some (Added id lits hints) ≡ Some (Added other clause gs)
    → Added id lits hints ≡ Added other clause gs
same-step id lits hints other clause gs h = cc

abbrev row_of : Live → Step → List ℤ
row_of live (Added id clause hints) = (needed_from live clause hints).hints
row_of live (Erased id ids) = []

abbrev with_row : Step → List ℤ → Step
with_row (Added id clause hints) fewer = Added id clause fewer
with_row (Erased id ids) fewer = Erased id ids

abbrev IsGood : Live → Step → Type 0
IsGood live (Added id clause hints) = rup live clause hints ≡ None
IsGood live (Erased id ids) = Unit {0}

module _ (formula : Cnf) (log : List Step) (rise : AddedRise (length formula.clauses) log)
    (at : ℕ) (good : IsGoodAt formula log at) (erase : Bool) (id : ℕ) (lits : Clause)
    (hints : List ℤ)
    (is : slice_get log at ≡ Some (cond erase (Erased id hints) (Added id lits hints))) (n : ℕ)
    (inputs_in : All (All (IsWithin n)) formula.clauses) (added_in : All (StepWithin n) log) where
  shown : Added id lits hints ≡ Added good.id good.clause good.hints
  shown = view-added erase id lits hints good.id good.clause good.hints (sym is ∙ good.step)

  view-step : slice_get log at ≡ Some (Added id lits hints)
  view-step = good.step ∙ ap (λ (s : Step). Some s) (sym shown)

  view-good : rup (live_before formula log at) lits hints ≡ None
  view-good = subst (IsGood (live_before formula log at)) (sym shown) good.good

  pub view-some : 1 ≤ length hints
  view-some = some-hints (live_before formula log at) lits hints view-good

  -- no literal of a live clause is of the number 0
  live-some : (h : ℤ) (c : Clause) → named (live_before formula log at) h ≡ Some c
      → All (λ m. 1 ≤ variable m) c
  live-some (pos zero) c e = cc
  live-some (pos (suc k)) c e =
      let within = said-within n formula log inputs_in added_in k c
      (live_is_said formula log rise at (suc k) c e) in
      λ i d low. (within i d low).0
  live-some (negsuc k) c e = cc

  view-walk : needed_from (live_before formula log at) lits hints
      ≡ kept_back (said_under formula log) lits hints
  view-walk =
      walk (live_before formula log at) lits live-some (said_under formula log)
      (λ q clause h. live_is_said formula log rise at q clause h) hints view-good

  -- what is done with the needed hints of the step keeps it
  pub keep-made : (old new : List Step) (before after_marks : List Bool) (fewer : List ℤ)
      → fewer ≡ (kept_back (said_under formula log) lits hints).hints
      → length after_marks ≡ length before → new ≡ old ++ Added id lits fewer ∷ []
      → ((j : ℕ) → j < length before → get_or after_marks j false
      ≡ (get_or before j false || list_any (names log j) fewer))
      → KeepsStep formula log at old new before after_marks
  keep-made old new before after_marks fewer fewer_is many steps marks =
      let needed : fewer ≡ (needed_from (live_before formula log at) lits hints).hints =
      fewer_is ∙ sym (ap (λ (k : Kept). k.hints) view-walk) in
      record {
        many = many;
        steps = λ other clause gs there.
            let same : Added id lits hints ≡ Added other clause gs =
            same-step id lits hints other clause gs (sym view-step ∙ there) in
            subst (λ (s : Step). new
            ≡ old ++ with_row s (row_of (live_before formula log at) s) ∷ []) same
            (steps ∙ ap (λ (r : List ℤ). old ++ Added id lits r ∷ []) needed);
        marks = λ other clause gs there j low.
            let same : Added id lits hints ≡ Added other clause gs =
            same-step id lits hints other clause gs (sym view-step ∙ there) in
            subst (λ (s : Step). get_or after_marks j false ≡ (get_or before j false
            || list_any (names log j) (row_of (live_before formula log at) s))) same
            (marks j low ∙ ap (λ (r : List ℤ). get_or before j false || list_any (names log j) r)
            needed);
      }

-- ---- the way back, step by step

none-wanted : (o : Option Step) → is_wanted [] o ≡ false
none-wanted None = refl
none-wanted (Some (Added id clause hints)) = refl
none-wanted (Some (Erased id ids)) = refl

-- the steps from a place on were gone over
pub record IsGone (formula : Cnf) (log : List Step) (at : ℕ) (back : List Step)
    (marks : List Bool) : Type 0 where
  pub many : length marks ≡ length log
  pub steps : reverse back ≡ needed_behind formula log at
  pub marked : AreMarked log (needed_behind formula log at) at marks

module _ (formula : Cnf) (log : List Step) (m : ℕ) (rise : AddedRise m log) (last : ℕ)
    (first : IsFirstEmpty log last) (accepted : Accepts formula log) where
  good-here : (k : ℕ) → k < suc last → (id : ℕ) (clause : Clause) (hints : List ℤ)
      → slice_get log k ≡ Some (Added id clause hints) → IsGoodAt formula log k
  good-here k low id clause hints is = record {
    id = id;
    clause = clause;
    hints = hints;
    step = is;
    good = good-at 1 (inputs formula) log accepted k id clause hints is
        (λ j step below at. first.first j step (omega (arith, below, low)) at);
  }

  -- the last step adds the empty clause
  last-step : (id : ℕ) × (hints : List ℤ) × (slice_get log last ≡ Some (Added id [] hints))
  last-step =
      let step : Step = get_or log last (Erased 0 []) in
      let is = slice_get-get_or log last (Erased 0 []) first.within in
      go step is (first.empty step is)
    where
      go : (step : Step) → slice_get log last ≡ Some step → is_empty_clause step ≡ true
          → (id : ℕ) × (hints : List ℤ) × (slice_get log last ≡ Some (Added id [] hints))
      go (Added id [] hints) is e = (id, hints, is)
      go (Added id (l ∷ ls) hints) is e = cc
      go (Erased id ids) is e = cc

  pub good-last : IsGoodAt formula log last
  good-last = good-here last (omega arith) last-step.0 [] last-step.1 last-step.2

  pub gone-last : (new : List Step) (before after_marks : List Bool)
      → All (λ mark. mark ≡ false) before → length before ≡ length log
      → KeepsStep formula log last [] new before after_marks
      → IsGone formula log last new after_marks
  gone-last new before after_marks clear many keeps =
      let id : ℕ = last-step.0 in
      let hints : List ℤ = last-step.1 in
      let is = last-step.2 in
      let behind = behind-empty formula log last id hints is in
      record {
        many = keeps.many ∙ many;
        steps = ap reverse (keeps.steps id [] hints is) ∙ sym behind;
        marked = subst (λ (later : List Step). AreMarked log later last after_marks) (sym behind)
            (kept-marks formula log m rise last [] [] new before after_marks keeps many id [] hints
            is last (omega arith)
            (λ j below. clear j false (omega (arith, below, many, first.within))
            ∙ sym (none-wanted (slice_get log j))));
      }

  module _ (i : ℕ) (low : i < last) (back : List Step) (marks : List Bool)
      (gone : IsGone formula log (suc i) back marks) where
    abbrev later : List Step
    later = needed_behind formula log (suc i)

    inside : i < length log
    inside = omega (arith, low, first.within)

    here : slice_get log i ≡ Some (get_or log i (Erased 0 []))
    here = slice_get-get_or log i (Erased 0 []) inside

    marked-here : (step : Step) → slice_get log i ≡ Some step
        → get_or marks i false ≡ is_wanted later (Some step)
    marked-here step is = gone.marked i (omega arith) ∙ ap (is_wanted later) is

    -- a step that is marked adds a clause whose id is a hint
    record IsHint : Type 0 where
      id : ℕ
      clause : Clause
      hints : List ℤ
      is : slice_get log i ≡ Some (Added id clause hints)
      hint : is_hint later id ≡ true

    hint-here : get_or marks i false ≡ true → IsHint
    hint-here marked = go (get_or log i (Erased 0 [])) here
      where
        go : (step : Step) → slice_get log i ≡ Some step → IsHint
        go (Added id clause hints) is = record {
          id = id;
          clause = clause;
          hints = hints;
          is = is;
          hint = sym (marked-here (Added id clause hints) is) ∙ marked;
        }
        go (Erased id ids) is =
            let none : get_or marks i false ≡ false = marked-here (Erased id ids) is in cc

    pub good-marked : get_or marks i false ≡ true → IsGoodAt formula log i
    good-marked marked =
        let h = hint-here marked in good-here i (omega (arith, low)) h.id h.clause h.hints h.is

    pub gone-kept : get_or marks i false ≡ true → (new : List Step) (after_marks : List Bool)
        → KeepsStep formula log i back new marks after_marks
        → IsGone formula log i new after_marks
    gone-kept marked new after_marks keeps =
        let h = hint-here marked in
        let row : List ℤ = (needed_from (live_before formula log i) h.clause h.hints).hints in
        let behind : needed_behind formula log i ≡ Added h.id h.clause row ∷ later =
        behind-added formula log i h.id h.clause h.hints h.is (first.first i _ low h.is)
        ∙ ap (λ (b : Bool). step_if b (Added h.id h.clause row) later) h.hint in
        record {
          many = keeps.many ∙ gone.many;
          steps = ap reverse (keeps.steps h.id h.clause h.hints h.is)
              ∙ reverse-append back (Added h.id h.clause row ∷ [])
              ∙ ap (λ (ss : List Step). Added h.id h.clause row ∷ ss) gone.steps ∙ sym behind;
          marked = subst (λ (ss : List Step). AreMarked log ss i after_marks) (sym behind)
              (kept-marks formula log m rise i later back new marks after_marks keeps gone.many
              h.id h.clause h.hints h.is i (omega arith)
              (λ j below. gone.marked j (omega (arith, below))));
        }

    -- a step that is not marked is not needed
    pub gone-left : get_or marks i false ≡ false → IsGone formula log i back marks
    gone-left plain =
        let same : needed_behind formula log i ≡ later = go (get_or log i (Erased 0 [])) here in
        record {
          many = gone.many;
          steps = gone.steps ∙ sym same;
          marked = subst (λ (ss : List Step). AreMarked log ss i marks) (sym same)
              (λ j below. gone.marked j (omega (arith, below)));
        }
      where
        go : (step : Step) → slice_get log i ≡ Some step → needed_behind formula log i ≡ later
        go (Added id clause hints) is =
            let none : is_hint later id ≡ false =
            sym (marked-here (Added id clause hints) is) ∙ plain in
            behind-added formula log i id clause hints is (first.first i _ low is)
            ∙ ap (λ (b : Bool). step_if b (Added id clause (needed_from
            (live_before formula log i) clause hints).hints) later) none
        go (Erased id ids) is = behind-erased formula log i id ids is

-- ---- the opposite order

pub turned-more : (back : List Step) (at : ℕ) → 0 < at → (row : List Step) (step : Step)
    → slice_get back (at - 1) ≡ Some step → row ≡ reverse (drop at back)
    → row ++ step ∷ [] ≡ reverse (drop (at - 1) back)
turned-more back at some row step is h =
    ap (λ (ss : List Step). ss ++ step ∷ []) h
    ∙ sym (ap reverse (drop-at back (at - 1) step is
    ∙ ap (λ (n : ℕ). step ∷ drop n back) (let e : suc (at - 1) ≡ at = omega (arith, some) in e))
    ∙ reverse-append (step ∷ []) (drop at back))
  where
    drop-at : (xs : List Step) (k : ℕ) (s : Step) → slice_get xs k ≡ Some s
        → drop k xs ≡ s ∷ drop (suc k) xs
    drop-at xs k s e =
        drop-cons xs k s (slice_get_within xs k s e)
        ∙ ap (λ (x : Step). x ∷ drop (suc k) xs) (get_or_from_slice_get xs k s s e)
