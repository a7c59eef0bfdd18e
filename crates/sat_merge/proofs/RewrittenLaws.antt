-- A log of a search through other clauses, rewritten for the formula, is a log of a search through
-- the formula, and says of it what the first says of the other clauses.
use Rattle.std.proofs.Common.{inl, inr, ◌≡◌, ◌≢◌, ◌==◌, ◌<◌, ◌≤◌, ◌*◌, ℕ, zero, suc, ℤ, pos, negsuc, Bool, true, false, cond, List, [], ◌∷◌, ◌++◌, length, take, fold, map, Option, None, Some, slice_get, get_or, All, Contains, refl, sym, ap, ◌∙◌, subst, arith}
use Rattle.std.proofs.lemmas.Bool.{cases_lt}
use Rattle.std.proofs.lemmas.List.{map_push, take-map}
use Rattle.std.proofs.lemmas.List.Elements.{All-cons, All-contains, All-head, All-nil, All-tail, All-weaker}
use Rattle.std.proofs.lemmas.Option.{slice_get-get_or, slice_get-map, slice_get_past}
use Rattle.list_laws.proofs.Places.{get-cases, get-map, get-take, some_is}
use Rattle.sat_clause.specs.declared.literal.Lit.{Lit}
use Rattle.sat_clause.specs.Formula.{Cnf}
use Rattle.sat_clause.specs.Judge.{Accepts, after, erase, erase_fault, inputs, is_empty_clause, take_out}
use Rattle.sat_clause.specs.Learned.{AreAddedFrom, EachErased, IsRelevant, IsSimple, LearnedNew, Sparse, added_count, added_since, deletions}
use Rattle.sat_clause.specs.Literal.{Clause}
use Rattle.sat_clause.specs.Live.{Live, clause_at, put}
use Rattle.sat_clause.specs.Step.{Step, Added, Erased}
use Rattle.sat_clause.proofs.LiveLaws.{clause_at-without, inputs_at, inputs_none}
use Rattle.sat_core.specs.Answer.{EndsEmpty, IsRefutation, LeavesOpen, SpendsAll}
use Rattle.sat_core.specs.SearchLog.{AreNumbered, DeletesSome, EndsAtEmpty, IsSearchLog}
use Rattle.sat_core.specs.Stands.{AreGood, IsAbove, SparesInputs, live_after}
use Rattle.sat_core.proofs.EarlierLaw.{hints_are_earlier}
use Rattle.sat_core.proofs.ErasedLaws.{each_added_erase}
use Rattle.sat_core.proofs.LogLemmas.{added_from, each_added_push, good_accepted, good_behind, good_so_far, inputs_live, spares_push}
use Rattle.sat_merge.specs.Rewritten.{AreKept, IsJustified, IsMerged, IsRewritten, SameSteps, bare}

-- WHAT IS SAID OF STEPS AND NOT OF THEIR HINTS

-- a value that steps have without their hints is the same of the same steps
same_value {ℓ} : {T : Type ℓ} (f : List Step → T) →
    ((steps : List Step) → f (map bare steps) ≡ f steps) → (log other : List Step) →
    SameSteps log other → f log ≡ f other
same_value f without log other same = sym (without log) ∙ ap f same ∙ without other

added-bare : (steps : List Step) → added_count (map bare steps) ≡ added_count steps
added-bare [] = refl
added-bare (Added id clause hints ∷ steps) = ap suc (added-bare steps)
added-bare (Erased id ids ∷ steps) = added-bare steps

deletions-bare : (steps : List Step) → deletions (map bare steps) ≡ deletions steps
deletions-bare [] = refl
deletions-bare (Added id clause hints ∷ steps) = deletions-bare steps
deletions-bare (Erased id ids ∷ steps) = ap suc (deletions-bare steps)

since-bare : (n : ℕ) (steps : List Step) → added_since n (map bare steps) ≡ added_since n steps
since-bare n [] = refl
since-bare n (Added id clause hints ∷ steps) = since-bare (suc n) steps
since-bare n (Erased id ids ∷ steps) = since-bare 0 steps

live-bare : (live : Live) (steps : List Step) →
    fold after live (map bare steps) ≡ fold after live steps
live-bare live [] = refl
live-bare live (Added id clause hints ∷ steps) = live-bare (put live id clause) steps
live-bare live (Erased id ids ∷ steps) = live-bare (erase live ids) steps

pub same_live : (live : Live) (log other : List Step) → SameSteps log other →
    fold after live log ≡ fold after live other
same_live live log other same = same_value (fold after live) (live-bare live) log other same

-- as many clauses are added, and as many deletions made
pub same_counts : (log other : List Step) → SameSteps log other →
    (added_count log ≡ added_count other) × (deletions log ≡ deletions other)
same_counts log other same = (
  same_value added_count added-bare log other same,
  same_value deletions deletions-bare log other same,
)

empty-bare : (step : Step) → is_empty_clause (bare step) ≡ is_empty_clause step
empty-bare (Added id [] hints) = refl
empty-bare (Added id (l ∷ ls) hints) = refl
empty-bare (Erased id ids) = refl

same_empty : (step other : Step) → bare step ≡ bare other →
    is_empty_clause step ≡ is_empty_clause other
same_empty step other same = sym (empty-bare step) ∙ ap is_empty_clause same ∙ empty-bare other

-- THE SAME STEPS, IN PARTS

-- one more step on both sides
same_push : (log other : List Step) (step last : Step) → SameSteps log other →
    bare step ≡ bare last → SameSteps (log ++ step ∷ []) (other ++ last ∷ [])
same_push log other step last same alike =
    let front : map bare (log ++ step ∷ []) ≡ map bare log ++ bare step ∷ [] =
    map_push bare log step in
    let back : map bare (other ++ last ∷ []) ≡ map bare other ++ bare last ∷ [] =
    map_push bare other last in
    cc

-- the first of them
pub same_front : (k : ℕ) (log other : List Step) → SameSteps log other →
    SameSteps (take k log) (take k other)
same_front k log other same =
    sym (take-map bare k log) ∙ ap (λ (steps : List Step). take k steps) same
    ∙ take-map bare k other

same_none : (log : List Step) → map bare log ≡ [] → log ≡ []
same_none [] none = refl
same_none (step ∷ log) none = cc

is_erased : (step : Step) (own : ℕ) (ids : List ℤ) → bare step ≡ Erased own ids →
    step ≡ Erased own ids
is_erased (Added id clause hints) own ids is = cc
is_erased (Erased id others) own ids is = is

is_added : (step : Step) (id : ℕ) (clause : Clause) (none : List ℤ) →
    bare step ≡ Added id clause none → (hints : List ℤ) × (step ≡ Added id clause hints)
is_added (Added new c hints) id clause none is = (hints, cc)
is_added (Erased own ids) id clause none is = cc

-- the step at a place is the one at that place, but for its hints
same_at : (log other : List Step) → SameSteps log other → (k : ℕ) (step : Step) →
    slice_get log k ≡ Some step →
    (there : Step) × (slice_get other k ≡ Some there) × (bare there ≡ bare step)
same_at log other same k step is =
    let at : slice_get (map bare log) k ≡ Some (bare step) =
    rw (slice_get-map bare log k, is) refl in
    get-map bare other k (bare step)
    (ap (λ (steps : List Step). slice_get steps k) (sym same) ∙ at)

-- each deletion has a property that says nothing of hints
same_erased : (P : List Step → List ℤ → Type 0) →
    ((before other : List Step) (ids : List ℤ) → SameSteps before other → P other ids →
    P before ids) →
    (log other : List Step) → SameSteps log other → EachErased P other → EachErased P log
same_erased P along log other same each k own ids is =
    let there = same_at log other same k (Erased own ids) is in
    let step : there.0 ≡ Erased own ids = is_erased there.0 own ids there.2 in
    along (take k log) (take k other) ids (same_front k log other same)
    (each k own ids (there.1 ∙ ap (λ (s : Step). Some s) step))

pub same_sparse : (log other : List Step) → SameSteps log other → Sparse other → Sparse log
same_sparse log other same sparse =
    same_erased
    (λ before ids. (erase_fault (fold after [] before) ids ≡ None)
    × (1000 * suc (deletions before) ≤ added_since 0 before))
    (λ before then ids alike is. (
      ap (λ (live : Live). erase_fault live ids) (same_live [] before then alike) ∙ is.0,
      omega (
        arith,
        is.1,
        same_value deletions deletions-bare before then alike,
        same_value (added_since 0) (since-bare 0) before then alike,
      ),
    )) log other same sparse

pub same_deletes : (log other : List Step) → SameSteps log other → DeletesSome other → DeletesSome log
same_deletes log other same deletes =
    same_erased (λ before ids. ids ≢ []) (λ before then ids alike some. some) log other same deletes

-- what is asked of the ids of steps is the same of them without their hints
numbered-bare : (id : ℕ) (steps : List Step) →
    AreNumbered id (map bare steps) ≡ AreNumbered id steps
numbered-bare id [] = refl
numbered-bare id (Added new clause hints ∷ steps) =
    ap (λ (rest : Type 0). (new ≡ id) × rest) (numbered-bare (suc id) steps)
numbered-bare id (Erased own ids ∷ steps) =
    ap (λ (rest : Type 0). (1 ≤ own) × (own < id) × rest) (numbered-bare id steps)

pub same_numbered : (id : ℕ) (log other : List Step) → SameSteps log other → AreNumbered id other →
    AreNumbered id log
same_numbered id log other same numbered =
    subst (λ (T : Type 0). T)
    (sym (same_value (AreNumbered id) (numbered-bare id) log other same)) numbered

-- no step but the last adds the empty clause
pub same_ends : (log other : List Step) → SameSteps log other → EndsAtEmpty other → EndsAtEmpty log
same_ends [] other same ends = tt
same_ends (step ∷ log) [] same ends = cc
same_ends (step ∷ log) (there ∷ other) same ends =
    let first : bare step ≡ bare there = cc in
    let rest : SameSteps log other = cc in (
      λ is. same_none log
          (rest ∙ ap (λ (steps : List Step). map bare steps)
          (ends.0 (sym (same_empty step there first) ∙ is))),
      same_ends log other rest ends.1,
    )

-- none of them does
same_none_empty : (log other : List Step) → SameSteps log other →
    All (λ step. is_empty_clause step ≡ false) other →
    All (λ step. is_empty_clause step ≡ false) log
same_none_empty [] other same none = All-nil (λ (s : Step). is_empty_clause s ≡ false)
same_none_empty (step ∷ log) [] same none = cc
same_none_empty (step ∷ log) (there ∷ other) same none =
    let first : bare step ≡ bare there = cc in
    let rest : SameSteps log other = cc in
    All-cons (λ (s : Step). is_empty_clause s ≡ false) step log
    (same_empty step there first
    ∙ All-head (λ (s : Step). is_empty_clause s ≡ false) there other none)
    (same_none_empty log other rest
    (All-tail (λ (s : Step). is_empty_clause s ≡ false) there other none))

-- the last of them does
same_last : (step : Step) (id : ℕ) → bare step ≡ Added id [] [] → EndsEmpty (step ∷ [])
same_last (Added new [] hints) id same =
    record { before = []; id = new; hints = hints; is = refl }
same_last (Added new (l ∷ ls) hints) id same = cc
same_last (Erased own ids) id same = cc

ends_behind_step : (step : Step) (log : List Step) → EndsEmpty log → EndsEmpty (step ∷ log)
ends_behind_step step log end = record {
  before = step ∷ end.before;
  id = end.id;
  hints = end.hints;
  is = ap (λ (steps : List Step). step ∷ steps) end.is;
}

pub same_end : (log before : List Step) (id : ℕ) (hints : List ℤ) →
    SameSteps log (before ++ Added id [] hints ∷ []) → EndsEmpty log
same_end [] [] id hints same = cc
same_end [] (there ∷ before) id hints same = cc
same_end (step ∷ log) [] id hints same =
    let none : log ≡ [] = same_none log cc in
    subst (λ (rest : List Step). EndsEmpty (step ∷ rest)) (sym none) (same_last step id cc)
same_end (step ∷ log) (there ∷ before) id hints same =
    ends_behind_step step log (same_end log before id hints cc)

-- HOW A LOG IS REWRITTEN

pub rewritten_none : (keeps : Lit → Bool) (formula : Cnf) → IsRewritten keeps formula [] []
rewritten_none keeps formula = record {
  same = refl;
  good = tt;
  relevant = λ k id clause hints is. cc;
  kept = λ k id clause hints is. cc;
  spares = λ k id ids is. cc;
}

-- a deletion of added clauses alone spares the inputs
spares_erased : (m own : ℕ) (log : List Step) (ids : List ℤ) → SparesInputs m log →
    All (IsAbove m) ids → SparesInputs m (log ++ Erased own ids ∷ [])
spares_erased m own log ids spares above k i others is =
    elim (get-cases log (Erased own ids) (Erased i others) k is) [
      | inl last ↦
          let both : Erased own ids ≡ Erased i others = last.1 in
          let same : ids ≡ others = cc in
          subst (λ (them : List ℤ). All (IsAbove m) them) same above
      | inr earlier ↦ spares k i others earlier
    ]

module _ {keeps : Lit → Bool} {formula : Cnf} {steps log : List Step}
    (rewritten : IsRewritten keeps formula steps log) where
  -- one more clause, with hints of its own
  pub rewritten_added : (id : ℕ) (clause : Clause) (old hints : List ℤ) →
      IsJustified (live_after formula log) clause hints → AreKept keeps clause →
      IsRewritten keeps formula (steps ++ Added id clause old ∷ [])
      (log ++ Added id clause hints ∷ [])
  rewritten_added id clause old hints justified kept = record {
    same = same_push log steps (Added id clause hints) (Added id clause old) rewritten.same refl;
    good = good_behind (inputs formula) log (Added id clause hints ∷ []) rewritten.good
        (justified.good, tt);
    relevant = each_added_push IsRelevant formula log id clause hints rewritten.relevant
        justified.relevant;
    kept = each_added_push (λ live c h. AreKept keeps c) formula log id clause hints rewritten.kept
        kept;
    spares = spares_push (length formula.clauses) log id clause hints rewritten.spares;
  }

  -- one more deletion
  pub rewritten_erased : (id : ℕ) (ids : List ℤ) →
      erase_fault (live_after formula log) ids ≡ None → All (IsAbove (length formula.clauses)) ids →
      IsRewritten keeps formula (steps ++ Erased id ids ∷ []) (log ++ Erased id ids ∷ [])
  rewritten_erased id ids good above = record {
    same = same_push log steps (Erased id ids) (Erased id ids) rewritten.same refl;
    good = good_behind (inputs formula) log (Erased id ids ∷ []) rewritten.good (good, tt);
    relevant = each_added_erase IsRelevant formula log id ids rewritten.relevant;
    kept = each_added_erase (λ live c h. AreKept keeps c) formula log id ids rewritten.kept;
    spares = spares_erased (length formula.clauses) id log ids rewritten.spares above;
  }

-- LIVE CLAUSES OF KEPT LITERALS

pub out_alike : (n : ℕ) (h : ℤ) (one other : Live) → clause_at one n ≡ clause_at other n →
    clause_at (take_out one h) n ≡ clause_at (take_out other h) n
out_alike n (pos out) one other alike =
    clause_at-without one out n ∙ ap (λ (o : Option Clause). cond (out == n) None o) alike
    ∙ sym (clause_at-without other out n)
out_alike n (negsuc out) one other alike = alike

erase_alike : (n : ℕ) (ids : List ℤ) (one other : Live) → clause_at one n ≡ clause_at other n →
    clause_at (erase one ids) n ≡ clause_at (erase other ids) n
erase_alike n [] one other alike = alike
erase_alike n (h ∷ ids) one other alike =
    erase_alike n ids (take_out one h) (take_out other h) (out_alike n h one other alike)

-- what has an id behind the steps is the same where it was the same before them
pub steps_alike : (n : ℕ) (log : List Step) (one other : Live) →
    clause_at one n ≡ clause_at other n →
    clause_at (fold after one log) n ≡ clause_at (fold after other log) n
steps_alike n [] one other alike = alike
steps_alike n (Added id clause hints ∷ log) one other alike =
    steps_alike n log (put one id clause) (put other id clause)
    (ap (λ (o : Option Clause). cond (n == id) (Some clause) o) alike)
steps_alike n (Erased id ids ∷ log) one other alike =
    steps_alike n log (erase one ids) (erase other ids) (erase_alike n ids one other alike)

-- the first steps of a log number and spare as all of them do
pub from_front : (k id : ℕ) (log : List Step) → AreAddedFrom id log → AreAddedFrom id (take k log)
from_front zero id log numbered = tt
from_front (suc k) id [] numbered = tt
from_front (suc k) id (Added new clause hints ∷ log) numbered =
    (numbered.0, from_front k (suc id) log numbered.1)
from_front (suc k) id (Erased own ids ∷ log) numbered = from_front k id log numbered

spares_front : (k m : ℕ) (log : List Step) → SparesInputs m log → SparesInputs m (take k log)
spares_front k m log spares j own ids is =
    let there = get-take log k j (Erased own ids) is in spares j own ids there.1

-- no input has an id behind those of all inputs
pub inputs_past : (formula : Cnf) (id : ℕ) → length formula.clauses < id →
    clause_at (inputs formula) id ≡ None
inputs_past formula zero past = absurd (omega (arith, past))
inputs_past formula (suc i) past =
    inputs_at formula i ∙ slice_get_past formula.clauses i (omega (arith, past))

module _ {keeps : Lit → Bool} {formula merged : Cnf} (merge : IsMerged keeps formula merged) where
  -- the id of a live clause of kept literals has the same clause in both at the start
  start_alike : (log : List Step) → AreAddedFrom (suc (length formula.clauses)) log →
      SparesInputs (length formula.clauses) log → (id : ℕ) (old : Clause) →
      clause_at (live_after formula log) id ≡ Some old → AreKept keeps old →
      clause_at (inputs formula) id ≡ clause_at (inputs merged) id
  start_alike log numbered spares zero old at kept =
      inputs_none formula ∙ sym (inputs_none merged)
  start_alike log numbered spares (suc i) old at kept =
      elim (cases_lt i (length formula.clauses)) [
        | inl below ↦
            let c : Clause = get_or formula.clauses i [] in
            let here : slice_get formula.clauses i ≡ Some c =
            slice_get-get_or formula.clauses i [] below in
            let same : c ≡ old =
            some_is (sym (inputs_live formula log numbered spares i c here) ∙ at) in
            let own : slice_get formula.clauses i ≡ Some old =
            here ∙ ap (λ (d : Clause). Some d) same in
            inputs_at formula i ∙ own ∙ sym (merge.same i old own kept) ∙ sym (inputs_at merged i)
        | inr past ↦
            inputs_past formula (suc i) (omega (arith, past))
            ∙ sym (inputs_past merged (suc i) (omega (arith, past, merge.many)))
      ]

  -- a live clause of kept literals is live among the merged ones too
  kept_live : (log : List Step) → AreAddedFrom (suc (length formula.clauses)) log →
      SparesInputs (length formula.clauses) log → (id : ℕ) (old : Clause) →
      clause_at (live_after formula log) id ≡ Some old → AreKept keeps old →
      clause_at (live_after merged log) id ≡ Some old
  kept_live log numbered spares id old at kept =
      sym (steps_alike id log (inputs formula) (inputs merged)
      (start_alike log numbered spares id old at kept)) ∙ at

  module _ {steps log : List Step} (rewritten : IsRewritten keeps formula steps log) where
    -- a clause that is new among the merged ones is new, since its literals are all kept
    rewritten_new : AreAddedFrom (suc (length formula.clauses)) log → LearnedNew merged steps →
        LearnedNew formula log
    rewritten_new numbered new k id clause hints is some =
        let m : ℕ = length formula.clauses in
        let there = same_at log steps rewritten.same k (Added id clause hints) is in
        let step = is_added there.0 id clause [] there.2 in
        let found = new k id clause step.0 (there.1 ∙ ap (λ (s : Step). Some s) step.1) some in
        let kept : AreKept keeps clause = rewritten.kept k id clause hints is in
        let live : live_after merged (take k log) ≡ live_after merged (take k steps) =
        same_live (inputs merged) (take k log) (take k steps)
        (same_front k log steps rewritten.same) in (
          subst (λ (n : ℕ). IsSimple n clause) merge.vars found.0,
          λ i old at all.
              let old_kept : AreKept keeps old =
              All-weaker (Contains clause) (λ l. keeps l ≡ true)
              (λ l has. All-contains (λ (x : Lit). keeps x ≡ true) clause l kept has) old all in
              let among : clause_at (live_after merged (take k log)) i ≡ Some old =
              kept_live (take k log) (from_front k (suc m) log numbered)
              (spares_front k m log rewritten.spares) i old at old_kept in
              found.1 i old (ap (λ (l : Live). clause_at l i) (sym live) ∙ among) all,
        )

    -- WHAT A REWRITTEN LOG SAYS

    -- it is a search's log of the formula
    pub rewritten_log : IsSearchLog merged steps → IsSearchLog formula log
    rewritten_log logged =
        let numbered : AreNumbered (suc (length formula.clauses)) log =
        same_numbered (suc (length formula.clauses)) log steps rewritten.same
        (subst (λ (m : ℕ). AreNumbered (suc m) steps) merge.many logged.numbered) in
        record {
          good = good_so_far 1 (inputs formula) log rewritten.good;
          ends = same_ends log steps rewritten.same logged.ends;
          numbered = numbered;
          earlier = hints_are_earlier formula log rewritten.good numbered;
          new = rewritten_new (added_from (suc (length formula.clauses)) log numbered) logged.new;
          relevant = rewritten.relevant;
          sparse = same_sparse log steps rewritten.same logged.sparse;
          deletes = same_deletes log steps rewritten.same logged.deletes;
        }

-- and refutes it where the other one refutes the other clauses
pub rewritten_refutes : {keeps : Lit → Bool} {formula merged : Cnf} {budget : ℕ}
    {steps log : List Step} → IsRewritten keeps formula steps log →
    IsRefutation merged budget steps → IsRefutation formula budget log
rewritten_refutes {keeps} {formula} {merged} {budget} {steps} {log} rewritten refutes =
    let last = refutes.last in
    let end : EndsEmpty log =
    same_end log last.before last.id last.hints
    (rewritten.same ∙ ap (λ (l : List Step). map bare l) last.is) in
    let counts = same_counts log steps rewritten.same in
    let good : AreGood (inputs formula) (end.before ++ Added end.id [] end.hints ∷ []) =
    subst (AreGood (inputs formula)) end.is rewritten.good in
    record {
      accepts = subst (Accepts formula) (sym end.is)
          (good_accepted 1 (inputs formula) end.before end.id end.hints good);
      within = omega (arith, counts.0, refutes.within);
      last = end;
    }

-- or spends the same budget
pub rewritten_spends : (budget : ℕ) (log steps : List Step) → SameSteps log steps →
    SpendsAll budget steps → SpendsAll budget log
rewritten_spends budget log steps same spends = record {
  all = (same_counts log steps same).0 ∙ spends.all;
  none_empty = same_none_empty log steps same spends.none_empty;
}

-- or leaves it open within the same one
pub rewritten_open : (budget : ℕ) (log steps : List Step) → SameSteps log steps →
    LeavesOpen budget steps → LeavesOpen budget log
rewritten_open budget log steps same leaves = record {
  within = omega (arith, (same_counts log steps same).0, leaves.within);
  none_empty = same_none_empty log steps same leaves.none_empty;
}
