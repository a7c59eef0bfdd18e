-- One step more of a replay: it is refused, or ends the judging, or leads on.
use Rattle.std.proofs.Common.{◌≡◌, ℕ, suc, ◌+◌, Bool, true, false, List, [], ◌∷◌, ◌++◌, refl, Option, None, Some, All, slice_get, take, sym, subst, ap, ◌∙◌, append_assoc, append-nil, add-one}
use Rattle.std.specs.Prelude.{is_some, if◌then◌else◌}
use Rattle.std.proofs.Math.Seq.{take-suc}
use Rattle.std.proofs.lemmas.Bool.{both_ways}
use Rattle.std.proofs.lemmas.List.Sums.{fold_push}
use Rattle.std.proofs.lemmas.Option.{slice_get_within, get_or_from_slice_get}
use Rattle.sat_clause.specs.declared.cause.Cause.{Cause}
use Rattle.sat_clause.specs.declared.cause.Cause.TheVariants.{NoEmptyClause}
use Rattle.sat_clause.specs.declared.log.StepView.{StepView}
use Rattle.sat_clause.specs.Formula.{Cnf}
use Rattle.sat_clause.specs.Judge.{Judgement, Refused as IsRefused, Rule, after, inputs, is_empty_clause, judge_by, judge_step, judge_steps, live_behind}
use Rattle.sat_clause.specs.Literal.{IsLiteral}
use Rattle.sat_clause.specs.Live.{Live}
use Rattle.sat_clause.specs.Step.{Added, Erased, HasLiterals, Step}
use Rattle.sat_clause.proofs.JudgeLaws.{judged_more, literals_more}
use Rattle.sat_check.specs.declared.verdict.Verdict.{Verdict}
use Rattle.sat_check.specs.declared.verdict.Verdict.TheVariants.{Accepted, Refused}
use Rattle.sat_check.specs.Replaying.{GoesOn, HasFound, HasReplayed, ReplayState}
use Rattle.sat_check.specs.Verdict.{step_of}

-- where there is no verdict yet, it goes on
open_still : (rule : Rule) (AreLive : Live → Type 0) (formula : Cnf) (steps : List Step)
    (taken : ℕ) (verdict : Option Verdict) → is_some verdict ≡ false
    → HasFound rule AreLive formula steps taken verdict → GoesOn rule AreLive formula steps taken
open_still rule AreLive formula steps taken None none found = found
open_still rule AreLive formula steps taken (Some verdict) none found =
    absurd (both_ways true none refl)

none_yet : (verdict : Option Verdict) → is_some verdict ≡ false → verdict ≡ None
none_yet None none = refl
none_yet (Some verdict) none = absurd (both_ways true none refl)

-- behind a verdict steps change nothing
found_behind : (rule : Rule) (AreLive : Live → Type 0) (formula : Cnf) (steps : List Step)
    (taken : ℕ) (verdict : Option Verdict) (step : Step) → is_some verdict ≡ true
    → HasFound rule AreLive formula steps taken verdict
    → HasFound rule AreLive formula (steps ++ step ∷ []) taken verdict
found_behind rule AreLive formula steps taken None step some found =
    absurd (both_ways false refl some)
found_behind rule AreLive formula steps taken (Some verdict) step some found =
    λ more. ap (judge_by rule formula) (append_assoc steps (step ∷ []) more) ∙ found (step ∷ more)

module _ (R : Type 0) (rule : Rule) (tracks : R → Live → Type 0) (formula : Cnf)
    (steps : List Step) (old : ReplayState R) (replayed : HasReplayed rule tracks formula steps old)
  where
    pub take_behind : is_some old.verdict ≡ true → (step : Step) → HasLiterals step
        → HasReplayed rule tracks formula (steps ++ step ∷ []) old
    take_behind some step literals = record {
      found = found_behind rule (tracks old.judge) formula steps old.taken old.verdict step some
          replayed.found;
      literals = literals_more steps step replayed.literals literals;
    }

    module _ (none : is_some old.verdict ≡ false) where
      on : GoesOn rule (tracks old.judge) formula steps old.taken
      on =
          open_still rule (tracks old.judge) formula steps old.taken old.verdict none replayed.found

      -- where the same clauses are live, nothing else has changed
      pub take_kept : (now : R) → ((live : Live) → tracks old.judge live → tracks now live)
          → HasReplayed rule tracks formula steps
          (record { judge = now; taken = old.taken; verdict = old.verdict })
      take_kept now kept = record {
        found = subst (λ (v : Option Verdict). HasFound rule (tracks now) formula steps old.taken v)
            (sym (none_yet old.verdict none))
            (record { live = kept (live_behind formula steps) on.live; ahead = on.ahead });
        literals = replayed.literals;
      }

      module _ (step : Step) (literals : HasLiterals step) (now : R) where
        pub take_refused : (cause : Cause)
            → ((live : Live) → tracks old.judge live → Some cause ≡ rule live step)
            → HasReplayed rule tracks formula (steps ++ step ∷ []) (record {
              judge = now;
              taken = old.taken;
              verdict = Some (Refused (old.taken + 1) cause);
            })
        take_refused cause is = record {
          found = rw add-one (judged_more rule formula steps old.taken (live_behind formula steps)
              on.ahead step (Some cause) (is_empty_clause step)
              (sym (is (live_behind formula steps) on.live)) refl);
          literals = literals_more steps step replayed.literals literals;
        }

        module _ (good : (live : Live) → tracks old.judge live → None ≡ rule live step) where
          ahead : (last : Bool) → is_empty_clause step ≡ last → (more : List Step)
              → judge_by rule formula ((steps ++ step ∷ []) ++ more)
              ≡ judge_step (suc old.taken) None last
              (judge_steps rule (suc (suc old.taken)) (after (live_behind formula steps) step) more)
          ahead last ends =
              judged_more rule formula steps old.taken (live_behind formula steps) on.ahead step
              None last (sym (good (live_behind formula steps) on.live)) ends

          pub take_accepted : is_empty_clause step ≡ true
              → HasReplayed rule tracks formula (steps ++ step ∷ [])
              (record { judge = now; taken = old.taken; verdict = Some Accepted })
          take_accepted last = record {
            found = ahead true last;
            literals = literals_more steps step replayed.literals literals;
          }

          pub take_next : is_empty_clause step ≡ false
              → ((live : Live) → tracks old.judge live → tracks now (after live step))
              → HasReplayed rule tracks formula (steps ++ step ∷ [])
              (record { judge = now; taken = old.taken + 1; verdict = old.verdict })
          take_next more_come leads =
              let next : live_behind formula (steps ++ step ∷ [])
              ≡ after (live_behind formula steps) step =
              fold_push after (inputs formula) steps step in
              record {
                found = rw add-one (subst
                    (λ (v : Option Verdict). HasFound rule (tracks now) formula (steps ++ step ∷ [])
                    (suc old.taken) v) (sym (none_yet old.verdict none)) (record {
                      live = rw next (leads (live_behind formula steps) on.live);
                      ahead = rw next (ahead false more_come);
                    }));
                literals = literals_more steps step replayed.literals literals;
              }

-- a lent step of literals is one
pub view_literals : (view : StepView) → All IsLiteral view.lits.now → HasLiterals (step_of view)
view_literals view fits = by view.erase where
  by : (b : Bool) → HasLiterals
      (if b then Erased view.id view.hints.now else Added view.id view.lits.now view.hints.now)
  by true = tt
  by false = fits

-- ---- what is said at the end

pub said_at_end : (rule : Rule) (AreLive : Live → Type 0) (formula : Cnf) (steps : List Step)
    (taken : ℕ) → GoesOn rule AreLive formula steps taken
    → IsRefused (taken + 1) NoEmptyClause ≡ judge_by rule formula steps
said_at_end rule AreLive formula steps taken on =
    rw add-one (sym (on.ahead []) ∙ ap (judge_by rule formula) (append-nil steps))

pub said_before : (rule : Rule) (formula : Cnf) (steps : List Step) (said : Judgement)
    → ((more : List Step) → judge_by rule formula (steps ++ more) ≡ said)
    → said ≡ judge_by rule formula steps
said_before rule formula steps said found =
    sym (found []) ∙ ap (judge_by rule formula) (append-nil steps)

-- one step more of a log
pub take_more : (log : List Step) (i : ℕ) (step : Step) → slice_get log i ≡ Some step
    → take (suc i) log ≡ take i log ++ step ∷ []
take_more log i step at =
    take-suc log i step (slice_get_within log i step at)
    ∙ ap (λ s. take i log ++ s ∷ []) (get_or_from_slice_get log i step step at)
