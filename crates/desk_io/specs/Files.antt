-- Files by name, and counts of faults.
use Rattle.std.specs.Prelude.{◌≡◌, ◌⊎◌, ◌^◌, ◌-◌, ◌+◌, ◌<◌, ◌≤◌, ◌++◌, ℕ, List, true, min, Option, Some, None, if◌then◌else◌}
use Rattle.std.specs.Option.{ForSome}
use Rattle.std.specs.Ordering.{nat_cmp}
use Rattle.std.specs.Cmp.Lexicographic.{slice_cmp}
use Rattle.std.specs.FinMap.{FinMap, contains_key, get, insert}

-- a name, or what a file holds
abbrev pub Bytes : Type 0
Bytes = List ℕ

-- from the name of a file to what it holds
abbrev pub FileMap : Type 0
FileMap = FinMap (slice_cmp nat_cmp) Bytes

-- where the files are told, one has this name
abbrev pub IsThere : Option FileMap → Bytes → Type 0
IsThere files name = ForSome files (λ fs. contains_key fs name ≡ true)

-- the name, where it is that of a file
abbrev pub name_in : Bytes → FileMap → Option Bytes
name_in name files = if contains_key files name then Some name else None

-- the files, where the one with this name holds a text more; where none has the name they stay
abbrev pub grown : Option Bytes → Bytes → Bytes → FileMap → FileMap
grown None name text files = files
grown (Some bytes) name text files = insert files name (bytes ++ text)

-- the files after a text was added to the one with this name
abbrev pub with_text : Bytes → Bytes → FileMap → FileMap
with_text name text files = grown (get files name) name text files

-- the number of the next call; it stays where it stands at its type's end
abbrev pub next_call : ℕ → ℕ
next_call calls = min (calls + 1) (2 ^ 64 - 1)

-- a count of faults goes up by one; it stays where it stands at its type's end
abbrev pub RisesByOne : (before now : ℕ) → Type 0
RisesByOne before now = (now ≡ before + 1) ⊎ ((before ≡ 2 ^ 64 - 1) × (now ≡ before))

-- a count of faults has risen; where it stands at its type's end it counts as risen
pub record HasRisen (before now : ℕ) : Type 0 where
  pub later : before ≤ now
  pub more : (before < now) ⊎ (now ≡ 2 ^ 64 - 1)
