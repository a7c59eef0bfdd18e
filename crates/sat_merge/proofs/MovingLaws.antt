-- How steps are moved behind lemmas one by one.
use Rattle.std.proofs.Common.{◌≡◌, ◌∙◌, ◌++◌, Bool, List, [], ◌∷◌, fold, ap, subst, sym, append_assoc}
use Rattle.std.proofs.lemmas.List.{append-nil}
use Rattle.std.proofs.lemmas.List.Elements.{All-nil, All-push}
use Rattle.std.proofs.lemmas.List.Sums.{fold-append}
use Rattle.sat_clause.specs.declared.literal.Lit.{Lit}
use Rattle.sat_clause.specs.Formula.{Cnf}
use Rattle.sat_clause.specs.Judge.{after, inputs}
use Rattle.sat_clause.specs.Live.{Live}
use Rattle.sat_clause.specs.Step.{Step}
use Rattle.sat_check.specs.Finder.{Finds}
use Rattle.sat_check.specs.LiveStore.{LiveState, live_at}
use Rattle.sat_core.specs.Stands.{live_after}
use Rattle.sat_core.proofs.LogLemmas.{live_after-push}
use Rattle.sat_merge.specs.Moved.{MayMove, MovesTo, PlaceState}
use Rattle.sat_merge.specs.Moving.{IsMoving}
use Rattle.sat_merge.proofs.MovedLaws.{moves_push}

-- none was moved yet
pub moving_none : (keeps : Lit → Bool) (formula : Cnf) (p : PlaceState) (live : LiveState)
    (log : List Step) → Finds (live_at live) (live_after formula log) →
    IsMoving keeps formula p log [] live log
moving_none keeps formula p live log found = record {
  tail = [];
  parts = sym (append-nil log);
  moves = tt;
  may = All-nil (MayMove keeps p);
  found = found;
}

module _ {keeps : Lit → Bool} {formula : Cnf} {p : PlaceState} {lemmas steps : List Step}
    {old : LiveState} {log : List Step} (moving : IsMoving keeps formula p lemmas steps old log)
    (new : LiveState) where
  live_here : live_after formula log ≡ fold after (live_after formula lemmas) moving.tail
  live_here =
      ap (live_after formula) moving.parts
      ∙ fold-append after (inputs formula) lemmas moving.tail

  -- one more step
  pub next_moved : (step now : Step) → MayMove keeps p step →
      MovesTo p (live_after formula log) step now →
      Finds (live_at new) (after (live_after formula log) now) →
      IsMoving keeps formula p lemmas (steps ++ step ∷ []) new (log ++ now ∷ [])
  next_moved step now may to found = record {
    tail = moving.tail ++ now ∷ [];
    parts = ap (λ (l : List Step). l ++ now ∷ []) moving.parts
        ∙ append_assoc lemmas moving.tail (now ∷ []);
    moves = moves_push p (live_after formula lemmas) steps moving.tail step now moving.moves
        (subst (λ (live : Live). MovesTo p live step now) live_here to);
    may = All-push (MayMove keeps p) steps step moving.may may;
    found = rw (live_after-push formula log now) found;
  }
