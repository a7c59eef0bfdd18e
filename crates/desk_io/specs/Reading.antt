-- What the reading of a whole file says of the file and of the desk, where the files are told.
use Rattle.std.specs.Prelude.{◌≡◌, ◌⊎◌, ◌+◌, ◌<◌, ◌≤◌, ℕ, length, drop, Option, None, Some}
use Rattle.std.specs.Option.{ForSome}
use Rattle.std.specs.FinMap.{get}
use Rattle.desk_io.specs.Files.{Bytes, FileMap}

-- these are the bytes of the file with this name
abbrev pub IsWhole : Option FileMap → Bytes → Bytes → Type 0
IsWhole files name bytes = ForSome files (λ fs. get fs name ≡ Some bytes)

-- no file has this name, or the last fault was on the one that has it
abbrev pub FaultIsOn : Option FileMap → Bytes → Option Bytes → Type 0
FaultIsOn files name fault_name =
    ForSome files (λ fs. (get fs name ≡ None) ⊎ (fault_name ≡ Some name))

-- the file with this name is longer than the limit, and one byte more than the limit was taken
abbrev pub HasTakenOneMore : Option FileMap → Bytes → ℕ → Option Bytes → Type 0
HasTakenOneMore files name limit left =
    ForSome files (λ fs. ForSome (get fs name) (λ bytes.
    (limit < length bytes) × (left ≡ Some (drop (limit + 1) bytes))))

-- no more bytes of the file with this name were taken than the limit
abbrev pub HasTaken : Option FileMap → Bytes → ℕ → Option Bytes → Type 0
HasTaken files name limit left =
    ForSome files (λ fs. ForSome (get fs name) (λ bytes.
    (k : ℕ) × (k ≤ limit) × (left ≡ Some (drop k bytes))))
