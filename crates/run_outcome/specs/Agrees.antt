-- Which outcomes of two runs of the same words over the same files agree.
use Rattle.std.specs.Prelude.{◌≡◌, ◌⊎◌, ◌<◌, ◌≤◌, Bool, false}
use Rattle.run_outcome.specs.SizeCauses.{size_code}
use Rattle.run_outcome.specs.declared.size_cause.SizeCause.TheVariants.{FormulaClauses, ClausesOfTurns}
use Rattle.run_outcome.specs.declared.outcome.Outcome.{Outcome}
use Rattle.run_outcome.specs.declared.outcome.Outcome.TheVariants.{Routed, Unroutable, Undecided, Bound, Limit, Unfound, Narrowed, Beyond}

-- a search is left open, at a width that is not above the one of the other outcome, after as many
-- learned clauses as another one, unless they have a limit of time; of rounds, after how many is
-- the search's own
abbrev pub IsOpenBelow : (timed : Bool) → Outcome → Outcome → Type 0
IsOpenBelow timed (Undecided width learned) (Routed of) = width ≤ of
IsOpenBelow timed (Undecided width learned) (Unroutable of) = width ≤ of
IsOpenBelow timed (Undecided width learned) (Undecided of others) =
    (width ≤ of) × (timed ≡ false → learned ≡ others)
IsOpenBelow timed (Undecided width learned) (Limit file code count) =
    (code ≡ size_code FormulaClauses) ⊎ (code ≡ size_code ClausesOfTurns)
IsOpenBelow timed (Unfound width rounds stopped) (Routed of) = width ≤ of
IsOpenBelow timed (Unfound width rounds stopped) (Unfound of others other_stopped) = width ≡ of
IsOpenBelow timed outcome other = ⊥

-- both are bounds
abbrev pub AreBounds : Outcome → Outcome → Type 0
AreBounds (Bound tracks cells nets) (Bound others other_cells other_nets) = Unit {0}
AreBounds outcome other = ⊥

-- both tell of one placement: no width at which a route was found is below a bound, and none is
-- above the last that was tried, nor is that below a bound where it was left open
abbrev pub AreOfOne : Outcome → Outcome → Type 0
AreOfOne (Narrowed tracks width cut) (Narrowed others of other_cut) =
    (tracks ≤ of) × (others ≤ width)
AreOfOne (Narrowed tracks width cut) (Unfound last rounds stopped) = width ≤ last
AreOfOne (Unfound last rounds stopped) (Narrowed tracks width cut) = width ≤ last
AreOfOne (Unfound last rounds stopped) (Beyond tracks cells nets) = last < tracks
AreOfOne (Beyond tracks cells nets) (Unfound last rounds stopped) = last < tracks
AreOfOne (Beyond tracks cells nets) (Beyond others other_cells other_nets) = Unit {0}
AreOfOne outcome other = ⊥

-- the answer is this outcome; or a search is left open by one of the two, for which width its
-- budget is spent is the search's own; or both are bounds, for which of the best cuts is found is
-- that search's own; or both tell of what one placement needs, for that and the routes that are
-- found are those searches' own
abbrev pub Agrees : (timed : Bool) → Outcome → Outcome → Type 0
Agrees timed answer outcome =
    (answer ≡ outcome) ⊎ IsOpenBelow timed answer outcome ⊎ IsOpenBelow timed outcome answer
    ⊎ AreBounds answer outcome ⊎ AreOfOne answer outcome
