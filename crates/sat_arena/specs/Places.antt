-- The places of a row, each empty or with a value.
use Rattle.std.specs.Prelude.{◌≡◌, ℕ, ◌+◌, ◌≤◌, get_or, List, [], ◌∷◌, ◌++◌, map, length, take, drop, Option, Some, None}

module _ {X : Type 0} where
  -- the values in their order, without the empty places
  abbrev pub somes : List (Option X) → List X
  somes [] = []
  somes (Some x ∷ slots) = x ∷ somes slots
  somes (None ∷ slots) = somes slots

  -- the place with this index holds a value
  abbrev pub IsHeld : List (Option X) → ℕ → Type 0
  IsHeld slots index = (x : X) × (get_or slots index None ≡ Some x)

  -- from this index on there are so many places, and each of them holds a value
  abbrev pub IsRun : List (Option X) → ℕ → ℕ → Type 0
  IsRun slots from len =
      (from + len ≤ length slots) × ((xs : List X) × (take len (drop from slots) ≡ map Some xs))

  -- the places begin with these values
  pub record Begins (slots : List (Option X)) (values : List X) : Type 0 where
    pub rest : List (Option X)
    pub is : slots ≡ map Some values ++ rest
