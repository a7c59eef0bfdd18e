-- What a turn makes of a log, the log of a search that is under way, and its end.
use Rattle.std.proofs.Common.{true, ◌≡◌, ◌≢◌, ◌<◌, ◌≤◌, ◌+◌, ◌*◌, ℕ, suc, ℤ, Bool, false, List, [], ◌∷◌, ◌++◌, length, take, drop, None, All, refl, sym, ap, ◌∙◌, subst, arith}
use Rattle.std.specs.Prelude.{IfOk, IsTrue, Ok, Result}
use Rattle.std.specs.declared.alloc.AllocError.{AllocError}
use Rattle.std.proofs.Math.Seq.{take-length}
use Rattle.std.proofs.lemmas.List.{append-nil, drop-append-le, length-append, take-append-le}
use Rattle.std.proofs.lemmas.List.Elements.{All-nil, All-push}
use Rattle.sat_clause.specs.Formula.{Cnf}
use Rattle.sat_clause.specs.Judge.{Accepts, inputs, is_empty_clause}
use Rattle.sat_clause.specs.Learned.{IsFresh, IsRelevant, IsSimple, Relevant, Sparse, added_count, added_since, deletions}
use Rattle.sat_clause.specs.Literal.{Clause, IsWithin}
use Rattle.sat_clause.specs.Live.{Live, put}
use Rattle.sat_clause.specs.Rup.{rup}
use Rattle.sat_clause.specs.Step.{Step, Added, Erased}
use Rattle.sat_core.specs.declared.answer.Answer.{Answer}
use Rattle.sat_core.specs.declared.answer.Answer.TheVariants.{Refuted}
use Rattle.sat_core.specs.Answer.{IsAnswer, LeavesOpen, SpendsAll}
use Rattle.sat_core.specs.Deletions.{AreDeletions, DeletionState}
use Rattle.sat_core.specs.Delete.{HasDeleted}
use Rattle.sat_core.specs.Kept.{AreKept, SameLive}
use Rattle.sat_core.specs.SearchLog.{AreNumbered, DeletesSome, EndsAtEmpty}
use Rattle.sat_core.specs.SearchStore.{AreTrue, IsLearnedClause, Learns, SameKept}
use Rattle.sat_core.specs.Stands.{AreGood, IsOpenLog, SearchAt, SearchValue, StandsAt, StandsFor, at_end, live_after, next_id}
use Rattle.sat_core.specs.Underway.{AddsRelevant, HasLearned, HasModel, HasRefuted, HasSearched, IsUnderway, MayFollow, MayTurn}
use Rattle.sat_core.proofs.EarlierLaw.{hints_are_earlier}
use Rattle.sat_core.proofs.DeleteLaws.{whether}
use Rattle.sat_core.proofs.ErasedLaws.{added_count-erase, deletes_erase, deletions_added, deletions_erase, each_added_erase, numbered_erase, open_erased, sparse_erased, stands_erased}
use Rattle.sat_core.proofs.KeptLaws.{fresh_kept, kept_alike, kept_put, kept_same, model_kept, relevant_kept, rup_kept}
use Rattle.sat_core.proofs.LogLemmas.{added_count-push, added_from_push, deletes_push, deletions-push, each_added_push, ends_behind, good_accepted, good_behind, good_so_far, inputs_live, live_after-push, none_at_end, not_empty_step, numbered_push, spares_push, sparse_push, sparse_without}

-- WHAT A SEARCH STANDS FOR

-- whatever stands on the trail, and in whatever orders the literals
pub stands_along : {old new : SearchValue} {formula : Cnf} {log : List Step} → SameKept old new →
    StandsFor old formula log → StandsFor new formula log
stands_along {old} {new} {formula} {log} same stands = record {
  vars = same.vars ∙ stands.vars;
  inputs = same.inputs ∙ stands.inputs;
  added = same.added ∙ stands.added;
  clauses =
      kept_same old.clauses new.clauses (live_after formula log) same.among same.back same.once
      stands.clauses;
}

-- with the clause of one more step
pub stands_next : {search new : SearchValue} {formula : Cnf} {log : List Step} {id : ℕ}
    {clause : Clause} (hints : List ℤ) → StandsFor search formula log →
    id ≡ suc (search.inputs + search.added) → Learns search new clause →
    StandsFor new formula (log ++ Added id clause hints ∷ [])
stands_next {search} {new} {formula} {log} {id} {clause} hints stands is learns =
    let live : Live = live_after formula log in
    let order : Clause = learns.order in
    let are : AreKept (put search.clauses id order) (put live id clause) =
    kept_put search.clauses live id order clause stands.clauses learns.same learns.once in
    let alike : SameLive (put search.clauses id order) new.clauses =
    subst (λ (n : ℕ). SameLive (put search.clauses n order) new.clauses) (sym is)
    learns.clauses in
    record {
      vars = learns.vars ∙ stands.vars;
      inputs = learns.inputs ∙ stands.inputs;
      added = omega (arith, learns.added, stands.added, added_count-push log id clause hints);
      clauses = rw (live_after-push formula log (Added id clause hints))
          (kept_alike (put search.clauses id order) new.clauses (put live id clause)
          (put live id clause) alike (λ n. refl) are);
    }

-- behind all steps
pub follow_end : {value : SearchValue} {formula : Cnf} {log : List Step} →
    StandsFor value formula log → MayFollow (at_end value log) formula log
follow_end {value} {formula} {log} stands = record {
  stands = record {
    reached = omega arith;
    stands = subst (StandsFor value formula) (sym (take-length log)) stands;
  };
  none_deleted = none_at_end log;
}

pub stands_all : (search : SearchAt) (formula : Cnf) (log : List Step) →
    StandsAt search formula log → search.taken ≡ length log → StandsFor search.value formula log
stands_all search formula log stands all =
    subst (StandsFor search.value formula) (ap (λ (k : ℕ). take k log) all ∙ take-length log)
    stands.stands

-- another search beside, with one more step
pub follow_next : {other : SearchAt} {formula : Cnf} {log now : List Step} (id : ℕ)
    (clause : Clause) (hints : List ℤ) → now ≡ log ++ Added id clause hints ∷ [] →
    MayFollow other formula log → MayFollow other formula now
follow_next {other} {formula} {log} id clause hints step follows =
    let last : List Step = Added id clause hints ∷ [] in
    let reached = follows.stands.reached in
    let front : take other.taken (log ++ last) ≡ take other.taken log =
    take-append-le other.taken log last reached in
    let ahead : drop other.taken (log ++ last) ≡ drop other.taken log ++ last =
    drop-append-le other.taken log last reached in
    subst (MayFollow other formula) (sym step) (record {
      stands = record {
        reached = omega (arith, reached, length-append log last);
        stands = subst (StandsFor other.value formula) (sym front) follows.stands.stands;
      };
      none_deleted = ap deletions ahead ∙ deletions-push (drop other.taken log) id clause hints
          ∙ follows.none_deleted;
    })

-- A TURN

module _ {search : SearchValue} {formula : Cnf} {log : List Step}
    (stands : StandsFor search formula log) (open_log : IsOpenLog formula log) where
  -- the next id, by what the search knows
  pub next_is : suc (search.inputs + search.added) ≡ next_id formula log
  next_is = omega (arith, stands.inputs, stands.added)

  pub turn_adds : {id back : ℕ} {clause : Clause} {hints : List ℤ} {now : List Step} →
      id ≡ suc (search.inputs + search.added) → IsLearnedClause search clause hints back →
      now ≡ log ++ Added id clause hints ∷ [] → AddsRelevant formula log now clause
  turn_adds {clause} {hints} is learned step = record {
    hints = hints;
    step = step ∙ ap (λ (n : ℕ). log ++ Added n clause hints ∷ []) (is ∙ next_is);
    good = rup_kept search.clauses (live_after formula log) stands.clauses.are_live clause hints
        learned.follows;
    relevant = relevant_kept search.clauses (live_after formula log) stands.clauses.are_live clause
        hints learned.relevant;
  }

  open_next : (id : ℕ) (clause : Clause) (hints : List ℤ) (back : ℕ) → id ≡ next_id formula log →
      IsLearnedClause search clause hints back → clause ≢ [] →
      rup (live_after formula log) clause hints ≡ None →
      IsOpenLog formula (log ++ Added id clause hints ∷ [])
  open_next id clause hints back is learned some good =
      let live : Live = live_after formula log in
      let simple : IsSimple formula.vars clause = subst (λ (n : ℕ). IsSimple n clause)
      stands.vars learned.simple in
      let fresh : IsFresh live clause = fresh_kept search.clauses live stands.clauses
      formula.vars clause simple (learned.fresh some) in
      record {
        good = good_behind (inputs formula) log (Added id clause hints ∷ []) open_log.good
            (good, tt);
        none_empty = All-push (λ (step : Step). is_empty_clause step ≡ false) log
            (Added id clause hints) open_log.none_empty (not_empty_step id clause hints some);
        numbered = added_from_push (suc (length formula.clauses)) id log clause hints
            open_log.numbered (omega (arith, is));
        new = each_added_push (λ live c h. c ≢ [] → IsSimple formula.vars c × IsFresh live c)
            formula log id clause hints open_log.new (λ _. (simple, fresh));
        spares = spares_push (length formula.clauses) log id clause hints open_log.spares;
      }

  -- one more learned clause
  pub turn_learned : {new : SearchValue} {id back : ℕ} {clause : Clause} {hints : List ℤ}
      {now : List Step} → id ≡ suc (search.inputs + search.added) →
      IsLearnedClause search clause hints back → clause ≢ [] → Learns search new clause →
      now ≡ log ++ Added id clause hints ∷ [] → HasLearned (at_end new now) formula log now
  turn_learned {new} {id} {back} {clause} {hints} {now} is learned some learns step =
      let adds = turn_adds is learned step in
      let opens : IsOpenLog formula now = subst (IsOpenLog formula) (sym step)
      (open_next id clause hints back (is ∙ next_is) learned some
      (rup_kept search.clauses (live_after formula log) stands.clauses.are_live clause hints
      learned.follows)) in
      record {
        clause = clause;
        some = some;
        adds = adds;
        good = good_so_far 1 (inputs formula) now opens.good;
        open_log = opens;
        follows = follow_end (subst (StandsFor new formula) (sym step)
            (stands_next hints stands is learns));
        all_taken = refl;
        others = λ other follows.
            follow_next id clause hints step follows;
      }

  -- the empty clause
  pub turn_refuted : {id back : ℕ} {clause : Clause} {hints : List ℤ} {now : List Step} →
      id ≡ suc (search.inputs + search.added) → IsLearnedClause search clause hints back →
      clause ≡ [] → now ≡ log ++ Added id clause hints ∷ [] → HasRefuted formula log now
  turn_refuted {now} is learned none step =
      let adds : AddsRelevant formula log now [] = subst (AddsRelevant formula log now) none
      (turn_adds is learned step) in
      let last = Added (next_id formula log) [] adds.hints in
      let good : AreGood (inputs formula) (log ++ last ∷ []) = good_behind (inputs formula) log
      (last ∷ []) open_log.good (adds.good, tt) in
      record {
        adds = adds;
        accepts = subst (Accepts formula) (sym adds.step)
            (good_accepted 1 (inputs formula) log (next_id formula log) adds.hints good);
      }

  -- values that make the kept clauses true satisfy the formula
  pub turn_model : {values : List Bool} → All (All (IsWithin formula.vars)) formula.clauses →
      AreTrue search values → HasModel (at_end search log) formula log log values
  turn_model {values} within are = record {
    satisfies =
        model_kept search.clauses (live_after formula log) stands.clauses formula values
        (are.many ∙ stands.vars) within
        (inputs_live formula log open_log.numbered open_log.spares) are.each;
    same = refl;
    follows = follow_end stands;
    all_taken = refl;
  }

-- A DELETION

none_added_deleted : {old new : SearchValue} {log now : List Step} → HasDeleted old new log now →
    added_count now ≡ added_count log
none_added_deleted {old} {log} deleted =
    ap added_count deleted.step ∙ added_count-erase log (old.inputs + old.added) deleted.ids

module _ {value new : SearchValue} {formula : Cnf} {log now : List Step}
    (before : StandsFor value formula log) (deleted : HasDeleted value new log now) where
  abbrev own : ℕ
  own = value.inputs + value.added

  stands_propagated : StandsFor deleted.propagated formula log
  stands_propagated = stands_along deleted.same before

  pub follow_deleted : MayFollow (at_end new now) formula now
  follow_deleted =
      subst (λ (l : List Step). MayFollow (at_end new l) formula l) (sym deleted.step)
      (follow_end (stands_erased own stands_propagated deleted.deletes))

  pub open_deleted : IsOpenLog formula log → IsOpenLog formula now
  open_deleted is =
      subst (IsOpenLog formula) (sym deleted.step)
      (open_erased own stands_propagated deleted.deletes is)

-- a search that has taken all steps deletes clauses at any time, or does not
module _ (search : SearchAt) (log : List Step) (all : search.taken ≡ length log)
    (new : SearchAt) (now : List Step) (all_now : new.taken ≡ length now)
    (result : Result Bool AllocError)
    (has_deleted : result ≡ Ok true → HasDeleted search.value new.value log now)
    (same : result ≢ Ok true → SameKept search.value new.value)
    (same_log : result ≢ Ok true → now ≡ log) where
  pub may_after : (formula : Cnf) → MayTurn search formula log → MayTurn new formula now
  may_after formula may = whether result
      (λ is_so.
      let deleted = has_deleted is_so in
      let before = stands_all search formula log may.follows.stands all in
      let follows : MayFollow new formula now =
      subst (λ (n : ℕ). MayFollow (record { taken = n; value = new.value }) formula now)
      (sym all_now) (follow_deleted before deleted) in
      record {
        follows = follows;
        open_log =
            open_deleted before deleted may.open_log;
        few = subst (λ (n : ℕ). suc (length formula.clauses + n) ≤ 4294967295)
            (sym (none_added_deleted deleted)) may.few;
      })
      (λ is_not.
      let kept = same_log is_not in
      subst (MayTurn new formula) (sym kept) (record {
        follows = subst (λ (n : ℕ). MayFollow (record { taken = n; value = new.value }) formula log)
            (sym (all_now ∙ ap length kept))
            (follow_end
            (stands_along (same is_not) (stands_all search formula log may.follows.stands all)));
        open_log = may.open_log;
        few = may.few;
      }))

  pub none_added_after : added_count now ≡ added_count log
  none_added_after = whether result
      (λ is_so. none_added_deleted (has_deleted is_so)) (λ is_not. ap added_count (same_log is_not))

-- UNDER WAY

open_start : (formula : Cnf) → IsOpenLog formula []
open_start formula = record {
  good = tt;
  none_empty = All-nil (λ (step : Step). is_empty_clause step ≡ false);
  numbered = tt;
  new = λ k id clause hints is. cc;
  spares = λ k id ids is. cc;
}

pub underway_start : (search : SearchAt) (formula : Cnf) → StandsFor search.value formula [] →
    search.taken ≡ 0 → IsUnderway search formula []
underway_start search formula stands none = record {
  stands = record {
    reached = omega (arith, none);
    stands = subst (λ (k : ℕ). StandsFor search.value formula (take k [])) (sym none) stands;
  };
  all_taken = none;
  open_log = open_start formula;
  numbered = tt;
  relevant = λ k id clause hints is. cc;
  sparse = sparse_without [] refl;
  deletes = λ k id ids is. cc;
}

-- whatever stands on the trail
pub underway_along : {search new : SearchAt} {formula : Cnf} {log : List Step} →
    SameKept search.value new.value → new.taken ≡ length log → IsUnderway search formula log →
    IsUnderway new formula log
underway_along {search} {new} {formula} {log} same all on = record {
  stands = record {
    reached = omega (arith, all);
    stands = stands_along same
        (subst (λ (k : ℕ). StandsFor search.value formula (take k log)) (on.all_taken ∙ sym all)
        on.stands.stands);
  };
  all_taken = all;
  open_log = on.open_log;
  numbered = on.numbered;
  relevant = on.relevant;
  sparse = on.sparse;
  deletes = on.deletes;
}

module _ {search : SearchAt} {formula : Cnf} {log : List Step}
    (on : IsUnderway search formula log) where
  pub underway_may : next_id formula log ≤ 4294967295 → MayTurn search formula log
  underway_may few = record {
    follows = record {
      stands = on.stands;
      none_deleted = ap (λ (k : ℕ). deletions (drop k log)) on.all_taken ∙ none_at_end log;
    };
    open_log = on.open_log;
    few = few;
  }

  -- one more learned clause
  pub underway_next : {new : SearchAt} {now : List Step} → HasLearned new formula log now →
      IsUnderway new formula now × (added_count now ≡ suc (added_count log))
  underway_next learned =
      let adds = learned.adds in
      let id : ℕ = next_id formula log in
      let clause : Clause = learned.clause in
      let more : List Step = log ++ Added id clause adds.hints ∷ [] in
      let numbered : AreNumbered (suc (length formula.clauses)) more =
      numbered_push (suc (length formula.clauses)) id log clause adds.hints on.numbered
      (omega arith) in
      let relevant : Relevant formula more =
      each_added_push IsRelevant formula log id clause adds.hints on.relevant adds.relevant in (
        record {
          stands = learned.follows.stands;
          all_taken = learned.all_taken;
          open_log = learned.open_log;
          numbered = subst (AreNumbered (suc (length formula.clauses))) (sym adds.step) numbered;
          relevant = subst (Relevant formula) (sym adds.step) relevant;
          sparse = subst Sparse (sym adds.step)
              (sparse_push log id clause adds.hints on.sparse);
          deletes = subst DeletesSome (sym adds.step)
              (deletes_push log id clause adds.hints on.deletes);
        },
        ap added_count adds.step ∙ added_count-push log id clause adds.hints,
      )

  -- learned clauses are deleted when the log may have another deletion
  pub underway_deleted : {new : SearchValue} {now : List Step} {d : DeletionState} →
      AreDeletions log d → d.added + 1000 * suc d.count ≤ search.value.added →
      HasDeleted search.value new log now →
      IsUnderway (at_end new now) formula now
      × AreDeletions now (record { count = suc d.count; added = search.value.added })
      × (added_count now ≡ added_count log)
  underway_deleted {new} {now} {d} are due deleted =
      let before = stands_all search formula log on.stands on.all_taken in
      let stands = stands_along deleted.same before in
      let m : ℕ = length formula.clauses in
      let own : ℕ = search.value.inputs + search.value.added in
      let ids : List ℤ = deleted.ids in
      let more : List Step = log ++ Erased own ids ∷ [] in
      let late : 1000 * suc (deletions log) ≤ added_since 0 log =
      omega (arith, are.count, are.added, due, before.added) in
      let follows = follow_deleted before deleted in
      let numbered : AreNumbered (suc m) more = numbered_erase (suc m) own log ids on.numbered
      (omega (arith, due)) (omega (arith, before.inputs, before.added)) in
      let then : AreDeletions more (record { count = suc d.count; added = search.value.added }) =
      subst (λ (n : ℕ). AreDeletions more (record { count = suc d.count; added = n }))
      (sym before.added) (deletions_erase log d own ids are) in (
        record {
          stands = follows.stands;
          all_taken = refl;
          open_log = open_deleted before deleted on.open_log;
          numbered = subst (AreNumbered (suc m)) (sym deleted.step) numbered;
          relevant = subst (Relevant formula) (sym deleted.step)
              (each_added_erase IsRelevant formula log own ids on.relevant);
          sparse = subst Sparse (sym deleted.step)
              (sparse_erased own stands deleted.deletes on.sparse late);
          deletes = subst DeletesSome (sym deleted.step)
              (deletes_erase log own ids on.deletes deleted.some);
        },
        subst (λ (l : List Step).
            AreDeletions l (record { count = suc d.count; added = search.value.added }))
            (sym deleted.step) then,
        none_added_deleted deleted,
      )

  pub searched : {budget : ℕ} {keep : Bool} {result : Result Answer AllocError} →
      added_count log ≤ budget → (IsTrue keep → deletions log ≡ 0) →
      IfOk result (IsAnswer formula budget log) → HasSearched formula budget keep log result
  searched few kept answer = record {
    answer = answer;
    logged = record {
      good = good_so_far 1 (inputs formula) log on.open_log.good;
      ends = subst EndsAtEmpty (append-nil log) (ends_behind log [] on.open_log.none_empty tt);
      numbered = on.numbered;
      earlier = hints_are_earlier formula log on.open_log.good on.numbered;
      new = on.open_log.new;
      relevant = on.relevant;
      sparse = on.sparse;
      deletes = on.deletes;
    };
    within = few;
    kept = kept;
  }

  pub left_open : {budget : ℕ} → added_count log ≤ budget → LeavesOpen budget log
  left_open few = record { within = few; none_empty = on.open_log.none_empty }

  pub spent : {budget : ℕ} → added_count log ≡ budget → SpendsAll budget log
  spent many = record { all = many; none_empty = on.open_log.none_empty }

  pub refuted : {budget : ℕ} {keep : Bool} {now : List Step} → added_count log < budget →
      (IsTrue keep → deletions log ≡ 0) → HasRefuted formula log now →
      HasSearched formula budget keep now (Ok Refuted)
  refuted {budget} {keep} few kept done =
      let id : ℕ = next_id formula log in
      let hints : List ℤ = done.adds.hints in
      let more : List Step = log ++ Added id [] hints ∷ [] in
      let good : AreGood (inputs formula) more = good_behind (inputs formula) log
      (Added id [] hints ∷ []) on.open_log.good (done.adds.good, tt) in
      let numbered : AreNumbered (suc (length formula.clauses)) more =
      numbered_push (suc (length formula.clauses)) id log [] hints on.numbered (omega arith) in
      let within : added_count more ≤ budget =
      omega (arith, added_count-push log id [] hints, few) in
      subst (λ (l : List Step). HasSearched formula budget keep l (Ok Refuted)) (sym done.adds.step)
      (record {
        answer = record {
          accepts = subst (Accepts formula) done.adds.step done.accepts;
          within = within;
          last = record { before = log; id = id; hints = hints; is = refl };
        };
        logged = record {
          good = good_so_far 1 (inputs formula) more good;
          ends = ends_behind log (Added id [] hints ∷ []) on.open_log.none_empty (λ _. refl, tt);
          numbered = numbered;
          earlier = hints_are_earlier formula more good numbered;
          new = each_added_push (λ live c h. c ≢ [] → IsSimple formula.vars c × IsFresh live c)
              formula log id [] hints on.open_log.new (λ some. absurd (some refl));
          relevant = each_added_push IsRelevant formula log id [] hints on.relevant
              done.adds.relevant;
          sparse = sparse_push log id [] hints on.sparse;
          deletes = deletes_push log id [] hints on.deletes;
        };
        within = within;
        kept = λ all. deletions-push log id [] hints ∙ kept all;
      })

-- a learned clause deletes nothing
pub tracked_next : {search : SearchAt} {formula : Cnf} {log now : List Step} {d : DeletionState} →
    AreDeletions log d → HasLearned search formula log now →
    AreDeletions now d × (deletions now ≡ deletions log)
tracked_next {formula} {log} {d} are learned =
    let adds = learned.adds in
    let id : ℕ = next_id formula log in (
      subst (λ (l : List Step). AreDeletions l d) (sym adds.step)
          (deletions_added log d id learned.clause adds.hints are),
      ap deletions adds.step ∙ deletions-push log id learned.clause adds.hints,
    )
