-- What a search may do next where it has taken one more step of a log.
use Rattle.std.proofs.Common.{◌≡◌, ◌≢◌, ◌<◌, ◌+◌, ℕ, suc, ℤ, Bool, true, false, List, [], ◌∷◌, ◌++◌, length, take, Some, slice_get, sym, ap, ◌∙◌, subst, arith}
use Rattle.std.specs.Prelude.{if◌then◌else◌}
use Rattle.std.proofs.lemmas.Option.{slice_get_within}
use Rattle.list_laws.proofs.Places.{take-get}
use Rattle.sat_clause.specs.Formula.{Cnf}
use Rattle.sat_clause.specs.Judge.{is_empty_clause}
use Rattle.sat_clause.specs.Literal.{Clause}
use Rattle.sat_clause.specs.Step.{Step, Added, Erased}
use Rattle.sat_core.specs.SearchStore.{Learns, SameKept}
use Rattle.sat_core.specs.Stands.{SearchAt, SearchValue, StandsFor}
use Rattle.sat_core.specs.Underway.{MayFollow, MayTurn}
use Rattle.sat_clause.proofs.LearnedFew.{not_nil}
use Rattle.sat_clause.specs.Learned.{IsSimple, added_count}
use Rattle.sat_core.proofs.LogLemmas.{added_count-push, added_front, deletions_next, none_erased_ahead, step_all, step_id}
use Rattle.sat_core.proofs.UnderwayLemmas.{stands_along, stands_next}

-- whatever stands on the trail
pub follow_along : {taken : ℕ} {old new : SearchValue} {formula : Cnf} {log : List Step} →
    SameKept old new → MayFollow (record { taken = taken; value = old }) formula log →
    MayFollow (record { taken = taken; value = new }) formula log
follow_along same follows = record {
  stands = record {
    reached = follows.stands.reached;
    stands = stands_along same follows.stands.stands;
  };
  none_deleted = follows.none_deleted;
}

pub may_along : {taken : ℕ} {old new : SearchValue} {formula : Cnf} {log : List Step} →
    SameKept old new → MayTurn (record { taken = taken; value = old }) formula log →
    MayTurn (record { taken = taken; value = new }) formula log
may_along same may = record {
  follows = follow_along same may.follows;
  open_log = may.open_log;
  few = may.few;
}

module _ {search : SearchAt} {formula : Cnf} {log : List Step} (may : MayTurn search formula log)
    (erase : Bool) (id : ℕ) (clause : Clause) (hints : List ℤ) (is : slice_get log search.taken
    ≡ Some (if erase then Erased id hints else Added id clause hints)) where
  -- the step adds a clause
  pub step_adds : slice_get log search.taken ≡ Some (Added id clause hints)
  step_adds = by erase is
    where
      by : (b : Bool) → slice_get log search.taken
          ≡ Some (if b then Erased id hints else Added id clause hints) →
          slice_get log search.taken ≡ Some (Added id clause hints)
      by true at = absurd (none_erased_ahead search.taken log id hints may.follows.none_deleted at)
      by false at = at

  -- which has no variable twice
  pub step_simple : IsSimple search.value.vars clause
  step_simple =
      let some : clause ≢ [] = not_nil id clause hints (step_all
      (λ (s : Step). is_empty_clause s ≡ false) log search.taken (Added id clause hints)
      may.open_log.none_empty step_adds) in
      subst (λ (n : ℕ). IsSimple n clause) (sym may.follows.stands.stands.vars)
      (may.open_log.new search.taken id clause hints step_adds some).0

  front : take (suc search.taken) log ≡ take search.taken log ++ Added id clause hints ∷ []
  front = take-get log search.taken (Added id clause hints) step_adds

  -- there is an id for it
  pub step_few : search.value.inputs + search.value.added < 4294967295
  step_few =
      let most = added_front (suc search.taken) log in
      let one : added_count (take (suc search.taken) log)
      ≡ suc (added_count (take search.taken log)) =
      ap added_count front ∙ added_count-push (take search.taken log) id clause hints in
      let stands = may.follows.stands.stands in
      omega (arith, most, one, may.few, stands.inputs, stands.added)

  -- the step is taken
  pub may_next : {new : SearchValue} → Learns search.value new clause →
      MayTurn (record { taken = suc search.taken; value = new }) formula log
  may_next {new} learns =
      let next : id ≡ suc (search.value.inputs + search.value.added) =
      (let at = step_id (suc (length formula.clauses)) search.taken log id clause hints
      may.open_log.numbered step_adds in
      omega (arith, at, may.follows.stands.stands.inputs, may.follows.stands.stands.added)) in
      record {
        follows = record {
          stands = record {
            reached = slice_get_within log search.taken (Added id clause hints) step_adds;
            stands = subst (StandsFor new formula) (sym front)
                (stands_next hints may.follows.stands.stands next learns);
          };
          none_deleted = let fewer = deletions_next search.taken log in
              omega (arith, fewer, may.follows.none_deleted);
        };
        open_log = may.open_log;
        few = may.few;
      }
