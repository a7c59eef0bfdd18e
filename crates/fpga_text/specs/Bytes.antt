-- The bytes that the texts of VPR 4.30, DIMACS and LRAT give a meaning of their own.
use Rattle.std.specs.Prelude.{ℕ, Bool, true, false, List, [], ◌∷◌, ◌==◌, ◌||◌}

-- a text, a line and a word are rows of bytes
abbrev pub Bytes : Type 0
Bytes = List ℕ

-- the byte ends a line
abbrev pub is_newline : ℕ → Bool
is_newline b = b == 10

-- the byte is a space, a tab or a carriage return
abbrev pub is_blank : ℕ → Bool
is_blank b = b == 32 || b == 9 || b == 13

-- the byte is `#`, which begins a comment
abbrev pub is_hash : ℕ → Bool
is_hash b = b == 35

-- there is no element
abbrev pub is_empty : {X : Type 0} → List X → Bool
is_empty [] = true
is_empty (x ∷ xs) = false
