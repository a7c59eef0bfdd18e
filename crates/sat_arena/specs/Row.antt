-- The parts of a row: where it begins, its places, and the right to give its memory back.
use Rattle.std.specs.Prelude.{◌≡◌, ℕ, ◌≤◌, length, slice_set, Option, None, Some}
use Rattle.sat_arena.specs.declared.places.Start.{Start}
use Rattle.sat_arena.specs.declared.places.Places.{Places}
use Rattle.sat_arena.specs.declared.places.Claim.{Claim}

-- the places are those of the row that begins there, and there are so many
abbrev pub AreRowOf : {X : Type 0} → Start X → Places X → ℕ → Type 0
AreRowOf start places count = (places.start ≡ start.address) × (length places.slots ≡ count)

-- the right to give a row's memory back to this allocator; a row without places has none
abbrev pub IsClaimOn : {X A : Type 0} → Start X → ℕ → A → Option (Claim X A) → Type 0
IsClaimOn start count alloc None = count ≡ 0
IsClaimOn start count alloc (Some claim) =
    (claim.start ≡ start.address) × (claim.count ≡ count) × (claim.alloc ≡ alloc) × (1 ≤ count)

-- the new places have the value at the index, and are otherwise as the places were
abbrev pub IsWritten : {X : Type 0} → Places X → ℕ → X → Places X → Type 0
IsWritten places index value new =
    (new.start ≡ places.start) × (new.slots ≡ slice_set places.slots index (Some value))
