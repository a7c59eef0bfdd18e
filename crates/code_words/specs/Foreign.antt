-- What a file is instead of a text of VPR 4.30, DIMACS or LRAT, by its first bytes.
use Rattle.std.specs.Prelude.{ℕ, ◌||◌, Bool, List, [], ◌∷◌, codes, nat_eq, Option, Some, None, if◌then◌else◌}
use Rattle.std.specs.List.{starts_with}
use Rattle.code_words.specs.declared.phrases.TheConstants.{FOREIGN_LATER, FOREIGN_MARKED, FOREIGN_PACKED, FOREIGN_WIDE, FOREIGN_XML}

-- the text begins with these bytes
abbrev pub leads : (front text : List ℕ) → Bool
leads front text = starts_with nat_eq text front

-- the mark of gzip
abbrev pub is_packed : List ℕ → Bool
is_packed text = leads (31 ∷ 139 ∷ []) text

-- the byte order mark of UTF-16, of either order
abbrev pub is_wide : List ℕ → Bool
is_wide text = leads (255 ∷ 254 ∷ []) text || leads (254 ∷ 255 ∷ []) text

-- the byte order mark of UTF-8
abbrev pub is_marked : List ℕ → Bool
is_marked text = leads (239 ∷ 187 ∷ 191 ∷ []) text

-- XML begins with a tag
abbrev pub is_xml : List ℕ → Bool
is_xml text = leads (codes "<") text

-- the first words of the placements and routes of VPR 8 and 9
abbrev pub is_later : List ℕ → Bool
is_later text = leads (codes "Netlist_File:") text || leads (codes "Placement_File:") text

-- what is said of a text that begins so
abbrev pub foreign_phrase : List ℕ → Option (List ℕ)
foreign_phrase text =
    if is_packed text then Some FOREIGN_PACKED.now else
    if is_wide text then Some FOREIGN_WIDE.now else
    if is_marked text then Some FOREIGN_MARKED.now else
    if is_xml text then Some FOREIGN_XML.now else
    if is_later text then Some FOREIGN_LATER.now else
    None
