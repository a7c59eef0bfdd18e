-- The truth values that tracks stand for.
use Rattle.std.specs.Prelude.{ℕ, ◌*◌, ◌==◌, Bool, List, length, map}
use Rattle.std.specs.List.{enumerate_from, list_any}
use Rattle.route_encode.specs.Encoding.{below, place_of}

-- the place is that of some slot's track; a track at or above the width has the place of a later
-- slot's
abbrev pub is_taken : ℕ → List ℕ → (place : ℕ) → Bool
is_taken width tracks place =
    list_any (λ slot. place_of width slot.0 slot.1 == place) (enumerate_from 0 tracks)

-- the truth values of all variables, true exactly at the places of the tracks
abbrev pub bits : ℕ → List ℕ → List Bool
bits width tracks = map (is_taken width tracks) (below (length tracks * width))
