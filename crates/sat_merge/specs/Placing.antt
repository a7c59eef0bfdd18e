-- How lemmas are added one by one.
use Rattle.std.specs.Prelude.{◌≡◌, ℕ, ◌+◌, ℤ, Bool, List, [], ◌∷◌, ◌++◌, slice_set}
use Rattle.sat_clause.specs.declared.literal.Lit.{Lit}
use Rattle.sat_clause.specs.Formula.{Cnf}
use Rattle.sat_clause.specs.Literal.{Clause}
use Rattle.sat_clause.specs.Step.{Step, Added}
use Rattle.sat_check.specs.Finder.{Finds}
use Rattle.sat_check.specs.LiveStore.{LiveState, live_at}
use Rattle.sat_core.specs.Stands.{live_after}
use Rattle.sat_merge.specs.Known.{AreNoted, KnownState}
use Rattle.sat_merge.specs.Lemmas.{AreLemmas}
use Rattle.sat_merge.specs.Moved.{PlaceState}
use Rattle.sat_merge.specs.Rewritten.{AreKept, IsJustified}

-- an input has this id now
abbrev pub placed : PlaceState → ℕ → ℕ → PlaceState
placed p input id =
    record { inputs = p.inputs; lemmas = p.lemmas; ids = slice_set p.ids input id }

-- there is a lemma more, and an input has its id
abbrev pub has_lemma : PlaceState → ℕ → ℕ → PlaceState
has_lemma p input id =
    record { inputs = p.inputs; lemmas = p.lemmas + 1; ids = slice_set p.ids input id }

-- one more clause of kept literals is logged, by hints that justify it, and at hand
pub record AddsLemma
    (keeps : Lit → Bool) (formula : Cnf) (live : LiveState) (before now : List Step) (id : ℕ)
    (clause : Clause) : Type 0 where
  pub hints : List ℤ
  pub step : now ≡ before ++ Added id clause hints ∷ []
  pub justified : IsJustified (live_after formula before) clause hints
  pub kept : AreKept keeps clause
  pub found : Finds (live_at live) (live_after formula now)

-- the log has lemmas, and what is live behind it is noted and at hand
pub record AreTaken
    (keeps : Lit → Bool) (formula merged : Cnf) (p : PlaceState) (s : KnownState)
    (live : LiveState) (log : List Step) : Type 0 where
  pub lemmas : AreLemmas keeps formula merged p log
  pub noted : AreNoted keeps s (live_after formula log)
  pub found : Finds (live_at live) (live_after formula log)
