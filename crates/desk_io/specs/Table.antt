-- A table of named files as the map that it stands for.
use Rattle.std.specs.Prelude.{◌≡◌, ℕ, List, ◌++◌, ◌<◌, ◌≤◌, length, map, take, drop, Option, None, Some, String, Vec, string_bytes, slice_get, option_map, option_and_then}
use Rattle.std.specs.Global.{Global}
use Rattle.std.specs.Option.{ForSome}
use Rattle.std.specs.Ordering.{nat_cmp}
use Rattle.std.specs.Cmp.Lexicographic.{slice_cmp}
use Rattle.std.specs.FinMap.{from_entries, find, get, insert}
use Rattle.desk_io.specs.Files.{Bytes, FileMap}

-- a file with its name, as code holds it
abbrev pub Named : Type 0
Named = String Global × Vec ℕ Global

-- the bytes of its name, and its own
abbrev pub entry_of : Named → Bytes × Bytes
entry_of f = (string_bytes f.0, f.1.items)

-- the same of each file of a table
abbrev pub entries_of : List Named → List (Bytes × Bytes)
entries_of files = map entry_of files

-- the map that a table stands for; of two files with one name the first counts
abbrev pub table_map : List Named → FileMap
table_map files = from_entries (entries_of files)

-- the name of the file at a position
abbrev pub name_at : List Named → Option ℕ → Option Bytes
name_at files at =
    option_and_then (λ p. option_map (λ f. string_bytes f.0) (slice_get files p)) at

-- the bytes of the file at a position
abbrev pub bytes_at : List Named → Option ℕ → Option Bytes
bytes_at files at = option_and_then (λ p. option_map (λ f. f.1.items) (slice_get files p)) at

-- the file at the position is the first with its name
abbrev pub IsFirst : List Named → Option ℕ → Type 0
IsFirst files at = ForSome at (λ p. ForSome (slice_get files p) (λ f.
    find (slice_cmp nat_cmp) (string_bytes f.0) (take p (entries_of files)) ≡ None))

-- the file at the position has the piece behind its bytes, and the others are as they were
abbrev pub IsAppended : List Named → ℕ → Bytes → List Named → Type 0
IsAppended old at piece new =
    (name : Bytes)
    × (bytes : Bytes)
    × (name_at old (Some at) ≡ Some name)
    × (get (table_map old) name ≡ Some bytes)
    × (table_map new ≡ insert (table_map old) name (bytes ++ piece))

-- what is left of the file at the position, of which n bytes were read
abbrev pub left_at : List Named → Option ℕ → ℕ → Option Bytes
left_at files at n =
    option_and_then (λ p. option_map (λ f. drop n f.1.items) (slice_get files p)) at

-- the position is within the table, and no more was read than the file has
abbrev pub IsWithin : List Named → Option ℕ → ℕ → Type 0
IsWithin files at n = ForSome at (λ p.
    (p < length files) × ForSome (slice_get files p) (λ f. n ≤ length f.1.items))
