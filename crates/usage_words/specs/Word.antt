-- The words of a command, by their bytes.
use Rattle.std.specs.Prelude.{ℕ, List, String, string_bytes, map}
use Rattle.std.specs.Global.{Global}

-- a word, by its bytes
abbrev pub Word : Type 0
Word = List ℕ

-- the bytes of each word
abbrev pub words_of : List (String Global) → List Word
words_of words = map string_bytes words
