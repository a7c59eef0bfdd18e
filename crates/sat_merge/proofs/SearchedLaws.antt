-- What the log of a search through the representatives becomes step by step, and what it says at
-- its end.
use Rattle.std.proofs.Common.{◌≡◌, ◌≢◌, ◌∙◌, ℕ, ℤ, Bool, List, [], ◌∷◌, ◌++◌, length, Option, None, Some, All, refl, sym, subst, arith}
use Rattle.std.specs.Prelude.{IfSome, Ok, Vec}
use Rattle.std.specs.Global.{Global}
use Rattle.sat_clause.specs.declared.literal.Lit.{Lit}
use Rattle.sat_clause.specs.Formula.{Cnf}
use Rattle.sat_clause.specs.Judge.{erase, erase_fault}
use Rattle.sat_clause.specs.Literal.{Clause}
use Rattle.sat_clause.specs.Live.{put}
use Rattle.sat_clause.specs.Step.{Step, Added, Erased}
use Rattle.sat_core.specs.declared.answer.Answer.{Answer}
use Rattle.sat_core.specs.declared.answer.Answer.TheVariants.{Model, Refuted, Spent, Stopped}
use Rattle.sat_core.specs.Answer.{IsAnswer, IsDecided}
use Rattle.sat_core.specs.Stands.{IsAbove, live_after}
use Rattle.sat_core.specs.Underway.{HasSearched}
use Rattle.sat_core.proofs.LogLemmas.{live_after-push}
use Rattle.sat_check.specs.Finder.{Finds}
use Rattle.sat_check.specs.LiveStore.{LiveState, live_at}
use Rattle.sat_merge.specs.Rewritten.{AreKept, IsJustified, IsMerged, IsRewritten}
use Rattle.sat_merge.specs.Rewriting.{IsRewriting}
use Rattle.sat_merge.proofs.RewrittenLaws.{rewritten_added, rewritten_erased, rewritten_log, rewritten_open, rewritten_refutes, rewritten_spends, same_counts}

-- what is said of a value that is there, along what follows from it
pub some_weaker : {T : Type 0} (P Q : T → Type 0) (found : Option T) → ((x : T) → P x → Q x) →
    IfSome found P → IfSome found Q
some_weaker P Q None along is = tt
some_weaker P Q (Some x) along is = along x is

module _ {keeps : Lit → Bool} {formula : Cnf} {steps log : List Step} {old : LiveState}
    (rewriting : IsRewriting keeps formula steps old log) (new : LiveState) where
  -- one more clause is added, and live
  pub next_added : (id : ℕ) (clause : Clause) (old_hints hints : List ℤ) →
      IsJustified (live_after formula log) clause hints → AreKept keeps clause →
      Finds (live_at new) (put (live_after formula log) id clause) →
      IsRewriting keeps formula (steps ++ Added id clause old_hints ∷ []) new
      (log ++ Added id clause hints ∷ [])
  next_added id clause old_hints hints justified kept found = record {
    rewritten = rewritten_added rewriting.rewritten id clause old_hints hints justified kept;
    found = rw (live_after-push formula log (Added id clause hints)) found;
  }

  -- or some are deleted, and live no more
  pub next_erased : (id : ℕ) (ids : List ℤ) → erase_fault (live_after formula log) ids ≡ None →
      All (IsAbove (length formula.clauses)) ids →
      Finds (live_at new) (erase (live_after formula log) ids) →
      IsRewriting keeps formula (steps ++ Erased id ids ∷ []) new (log ++ Erased id ids ∷ [])
  next_erased id ids good above found = record {
    rewritten = rewritten_erased rewriting.rewritten id ids good above;
    found = rw (live_after-push formula log (Erased id ids)) found;
  }

module _ {keeps : Lit → Bool} {formula : Cnf} {steps log : List Step} (budget : ℕ)
    (rewritten : IsRewritten keeps formula steps log) (merged : Cnf) where
  -- an answer without values is the same of the formula
  rewritten_answer : (answer : Answer) → ((values : Vec Bool Global) → answer ≢ Model values) →
      IsAnswer merged budget steps answer → IsAnswer formula budget log answer
  rewritten_answer (Model values) none is = absurd (none values refl)
  rewritten_answer Refuted none is = rewritten_refutes rewritten is
  rewritten_answer Spent none is = rewritten_spends budget log steps rewritten.same is
  rewritten_answer Stopped none is = rewritten_open budget log steps rewritten.same is

  -- so what a search through the merged clauses comes to is what one through the formula may
  pub searched_rewritten : IsMerged keeps formula merged → (keep : Bool) (answer : Answer) →
      ((values : Vec Bool Global) → answer ≢ Model values) →
      HasSearched merged budget keep steps (Ok answer) →
      HasSearched formula budget keep log (Ok answer)
  searched_rewritten merge keep answer none searched =
      let counts = same_counts log steps rewritten.same in
      record {
        answer = rewritten_answer answer none searched.answer;
        logged = rewritten_log merge rewritten searched.logged;
        within = omega (arith, counts.0, searched.within);
        kept = λ all. counts.1 ∙ searched.kept all;
      }

-- an answer that is decided, or else the same as another one, is stopped where the other is
pub stopped_alike : (now answer : Answer) → (¬ IsDecided now → now ≡ answer) → now ≡ Stopped →
    answer ≡ Stopped
stopped_alike now answer same is = sym (same (λ decided. subst IsDecided is decided)) ∙ is

-- and decided where the other is
pub decided_alike : (now answer : Answer) → (¬ IsDecided now → now ≡ answer) →
    (answer ≢ Stopped → IsDecided answer) → now ≢ Stopped → IsDecided now
decided_alike (Model values) answer same decided apart = tt
decided_alike Refuted answer same decided apart = tt
decided_alike Spent answer same decided apart =
    let is : Spent ≡ answer = same (λ none. none) in
    subst IsDecided (sym is) (decided (λ stopped. apart (is ∙ stopped)))
decided_alike Stopped answer same decided apart = absurd (apart refl)
