-- The tracks that truth values say.
use Rattle.std.specs.Prelude.{◌≡◌, ℕ, ◌<◌, Bool, true, false, List, slice_index, slice_index_or}
use Rattle.route_encode.specs.Encoding.{place_of}

-- the values say that the slot has the track
abbrev pub says : List Bool → (width s t : ℕ) → Bool
says values width s t = slice_index_or values (place_of width s t) false

-- the values say a track of the slot
abbrev pub SaysTrack : List Bool → (width s : ℕ) → Type 0
SaysTrack values width s = (t : ℕ) × (t < width) × (says values width s t ≡ true)

-- of the first n slots each has its track, as the values say
abbrev pub AreSaid : List Bool → ℕ → List ℕ → ℕ → Type 0
AreSaid values width tracks n =
    (s : ℕ) → s < n → (slice_index tracks s < width)
    × (says values width s (slice_index tracks s) ≡ true)
