-- From one level of a count to the next below it, with one track and one slot less.
use Rattle.std.specs.Prelude.{◌≡◌, ℕ, ◌+◌, ◌*◌, ◌≤◌, ◌<◌, ⊤, ℤ, pos, List, [], ◌∷◌, ◌++◌, map, slice_index}
use Rattle.std.specs.List.{range_with_len}
use Rattle.sat_clause.specs.Literal.{Clause}
use Rattle.sat_count.specs.Levels.{IsLevel}
use Rattle.sat_count.specs.Names.{no}
use Rattle.sat_count.specs.Places.{apart_id, name, not_both, pair_place, some_clause, some_id}
use Rattle.sat_count.specs.Refuting.{Holds, IsMeaning, RefutationState}
use Rattle.sat_count.specs.declared.ground.Ground.{Ground}
use Rattle.sat_count.specs.declared.descent.Meaning.{Meaning}
use Rattle.sat_count.specs.declared.descent.Meaning.TheVariants.{ByKept, ByMoved, OrGiven, OrMoved}
use Rattle.sat_count.specs.declared.descent.PairKind.{PairKind}
use Rattle.sat_count.specs.declared.descent.PairKind.TheVariants.{Apart, Helped}
use Rattle.sat_count.specs.declared.level.Level.{Level}

-- a slot keeps a track that it had above
abbrev pub kept_at : Level → (place track : ℕ) → ℕ
kept_at above place track = name above.firsts.items place track

-- or had the last track, of which there are so many before
abbrev pub moved_at : Level → (tracks place track : ℕ) → ℕ
moved_at above tracks place track = name above.firsts.items place tracks

-- and the last slot gives it this one
abbrev pub given_at : Level → (tracks place track : ℕ) → ℕ
given_at above tracks place track = name above.firsts.items (tracks + 1) track

-- the variables of the slots follow one another from this one on
abbrev pub AreFirsts : (first tracks : ℕ) → List ℕ → Type 0
AreFirsts first tracks firsts = (place : ℕ) → place < tracks + 1
    → slice_index firsts place ≡ first + place * tracks

-- the id behind which stands what the variable of a slot and a track means
abbrev pub meaning_at : Ground → (place track : ℕ) → ℕ
meaning_at g place track = g.meanings + 4 * (place * g.tracks + track)

-- the place of each of the four clauses behind it
abbrev pub meaning_number : Meaning → ℕ
meaning_number ByKept = 1
meaning_number ByMoved = 2
meaning_number OrMoved = 3
meaning_number OrGiven = 4

-- one of them for each of the first tracks of a slot, as hints
abbrev pub meanings_of : Ground → (place : ℕ) → Meaning → (count : ℕ) → List ℤ
meanings_of g place which count =
    map (λ track. pos (meaning_at g place track + meaning_number which)) (range_with_len 0 count)

-- the id of the clause that two slots do not both have a track where the lower one had it
abbrev pub help_at : Ground → (lower higher track : ℕ) → ℕ
help_at g lower higher track = g.helps + pair_place g.tracks lower higher track + 1

-- a slot has one of the fewer tracks
abbrev pub some_of : Ground → (place : ℕ) → Clause
some_of g place = some_clause (slice_index g.firsts.now place) g.tracks

-- why it does
abbrev pub some_hints_of : Ground → (place : ℕ) → List ℤ
some_hints_of g place =
    meanings_of g place ByKept g.tracks ++ (pos (some_id g.above.now.behind place)
    ∷ (meanings_of g place ByMoved g.tracks ++ (pos (apart_id g.above.now.behind
    g.above.now.tracks place (g.tracks + 1) g.tracks)
    ∷ pos (some_id g.above.now.behind (g.tracks + 1)) ∷ [])))

-- the level above stands, and behind it what the variables of the level below mean: a slot has a
-- track there where it had it, or where it had the last track and the last slot had this one
pub record IsGround (r : RefutationState) (g : Ground) : Type 0 where
  pub level : IsLevel r g.above.now
  pub meaning : (place track : ℕ) → place ≤ g.tracks → track < g.tracks
      → IsMeaning r (meaning_at g place track) (name g.firsts.now place track)
      (kept_at g.above.now place track) (moved_at g.above.now g.tracks place track)
      (given_at g.above.now g.tracks place track)
  pub fresh : (place old : ℕ) → place ≤ g.tracks → old ≤ g.tracks + 1
      → slice_index g.above.now.firsts.items old + g.tracks < slice_index g.firsts.now place
  pub low : (place : ℕ) → place ≤ g.tracks
      → slice_index g.firsts.now place + g.tracks ≤ r.last_variable

-- not both slots have a track where the lower one had it
abbrev pub helped : Ground → (lower higher track : ℕ) → Clause
helped g lower higher track =
    no (name g.firsts.now lower track) ∷ no (name g.firsts.now higher track)
    ∷ no (name g.above.now.firsts.items lower track) ∷ []

-- not both slots have a track
abbrev pub apart_of : Ground → (lower higher track : ℕ) → Clause
apart_of g lower higher track =
    not_both (name g.firsts.now lower track) (name g.firsts.now higher track)

-- why not both have it where the lower one had it
abbrev pub helped_hints_of : Ground → (lower higher track : ℕ) → List ℤ
helped_hints_of g lower higher track =
    pos (apart_id g.above.now.behind g.above.now.tracks lower higher track)
    ∷ pos (apart_id g.above.now.behind g.above.now.tracks lower (g.tracks + 1) track)
    ∷ pos (meaning_at g higher track + 4) ∷ []

-- why not both have it
abbrev pub apart_hints_of : Ground → (lower higher track : ℕ) → List ℤ
apart_hints_of g lower higher track =
    pos (help_at g lower higher track) ∷ pos (meaning_at g lower track + 3)
    ∷ pos (meaning_at g lower track + 4)
    ∷ pos (apart_id g.above.now.behind g.above.now.tracks higher (g.tracks + 1) track)
    ∷ pos (meaning_at g higher track + 3)
    ∷ pos (apart_id g.above.now.behind g.above.now.tracks lower higher g.tracks) ∷ []

-- the clause of a kind of two slots and a track
abbrev pub pair_clause : PairKind → Ground → (lower higher track : ℕ) → Clause
pair_clause Helped g lower higher track = helped g lower higher track
pair_clause Apart g lower higher track = apart_of g lower higher track

-- the clauses that help stand
pub record AreHelped (r : RefutationState) (g : Ground) : Type 0 where
  pub helps : (lower higher track : ℕ) → lower < higher → higher ≤ g.tracks → track < g.tracks
      → Holds r (help_at g lower higher track) (helped g lower higher track)

-- what the clauses of a kind need besides
abbrev pub IsReadyFor : PairKind → RefutationState → Ground → Type 0
IsReadyFor Helped r g = ⊤
IsReadyFor Apart r g = AreHelped r g
