-- What the lines of a model text are for, by their words.
use Rattle.std.specs.Prelude.{Bool, true, false, ◌&&◌, ◌||◌, ◌==◌, [], ◌∷◌, bytes_eq, codes, drop, slice_get, if◌then◌else◌}
use Rattle.std.specs.Option.{option_map_or}
use Rattle.fpga_text.specs.Bytes.{Bytes}
use Rattle.fpga_text.specs.Said.{begins}
use Rattle.fpga_text.specs.Words.{Words}
use Rattle.model_text.specs.declared.line_kind.LineKind.{LineKind}
use Rattle.model_text.specs.declared.line_kind.LineKind.TheVariants.{Passed, Denial, Values}

-- the first byte of the word is `c`
abbrev pub begins_with_c : Bytes → Bool
begins_with_c [] = false
begins_with_c (b ∷ more) = b == 99

-- the first word begins with `c`
abbrev pub is_comment : Words → Bool
is_comment words = option_map_or begins_with_c (slice_get words 0) false

-- the line is `SAT` or `s SATISFIABLE`
abbrev pub claims_model : Words → Bool
claims_model (word ∷ []) = bytes_eq word (codes "SAT")
claims_model (s ∷ word ∷ []) = bytes_eq s (codes "s") && bytes_eq word (codes "SATISFIABLE")
claims_model words = false

-- the word is one by which solvers begin to say what they have found, other than `SAT`
abbrev pub is_claim : Bytes → Bool
is_claim word =
    (bytes_eq word (codes "s") || bytes_eq word (codes "UNSAT")) || bytes_eq word (codes "INDET")

-- the first word is one of these
abbrev pub claims_none : Words → Bool
claims_none words = option_map_or is_claim (slice_get words 0) false

-- comments and lines that say that there is a model are passed over, other claims are denials, and
-- all other lines have literals
abbrev pub kind_of : Words → LineKind
kind_of words =
    if is_comment words || claims_model words then Passed
    else if claims_none words then Denial else Values

-- the words behind a `v`, if the line begins with one
abbrev pub behind_v : Words → Words
behind_v words = if begins (codes "v") words then drop 1 words else words

-- the words of a line of this kind that are to be numbers
abbrev pub number_words_of : LineKind → Words → Words
number_words_of Values words = behind_v words
number_words_of kind words = []

-- the words of a line that are to be numbers
abbrev pub number_words : Words → Words
number_words words = number_words_of (kind_of words) words

-- the line says that no model was found
abbrev pub is_denial_of : LineKind → Bool
is_denial_of Denial = true
is_denial_of kind = false
