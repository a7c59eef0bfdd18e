-- Where a text has a part.
use Rattle.std.specs.Prelude.{◌+◌, ℕ, [], ◌∷◌, if◌then◌else◌, nat_eq}
use Rattle.std.specs.List.{starts_with}
use Rattle.desk_io.specs.Files.{Bytes}

-- at how many places of a text this part of it begins
abbrev pub places_of : (part text : Bytes) → ℕ
places_of part [] = 0
places_of part (b ∷ rest) =
    (if starts_with nat_eq (b ∷ rest) part then 1 else 0) + places_of part rest
