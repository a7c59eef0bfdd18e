-- A copy of files stands for the same map.
use Rattle.std.proofs.Common.{◌≡◌, ℕ, List, [], ◌∷◌, refl, vec_len}
use Rattle.std.specs.List.{AllZip, each_same}
use Rattle.std.specs.Prelude.{string_bytes}
use Rattle.desk_io.specs.Table.{Named, entries_of, entry_of, table_map}

-- the copy of a file has its name and its bytes
abbrev pub IsCopy : (file copy : Named) → Type 0
IsCopy file copy =
    (string_bytes copy.0 ≡ string_bytes file.0)
    × (AllZip (λ (x y : ℕ). y ≡ x) file.1.items copy.1.items
    × (vec_len copy.1 ≡ vec_len file.1))

same_entry : (file copy : Named) → IsCopy file copy → entry_of copy ≡ entry_of file
same_entry file copy is = rw (is.0, each_same file.1.items copy.1.items is.1.0) refl

same_entries : (files copies : List Named) → AllZip IsCopy files copies
    → entries_of copies ≡ entries_of files
same_entries [] [] all = refl
same_entries [] (copy ∷ copies) all = absurd all
same_entries (file ∷ files) [] all = absurd all
same_entries (file ∷ files) (copy ∷ copies) all =
    rw (same_entry file copy all.0, same_entries files copies all.1) refl

pub same_map : (files copies : List Named) → AllZip IsCopy files copies
    → table_map copies ≡ table_map files
same_map files copies all = rw (same_entries files copies all) refl
