-- A block of words: what contracts see, and how it lies in memory.
use Rattle.std.specs.Prelude.{◌≡◌, ℕ, ◌+◌, ◌^◌, ◌<◌, ◌≤◌, pos, List, ◌++◌, length, map, take, drop, get_or, Option, Some}
use Rattle.std.specs.Global.{Global}
use Rattle.sat_clause.specs.declared.literal.Lit.{Lit}
use Rattle.sat_clause.specs.Literal.{lit}
use Rattle.sat_arena.specs.Places.{somes}
use Rattle.sat_arena.specs.Row.{AreRowOf, IsClaimOn}
use Rattle.sat_arena.specs.declared.places.Start.{Start}
use Rattle.sat_arena.specs.declared.places.Places.{Places}
use Rattle.sat_arena.specs.declared.places.Claim.{Claim}

-- the words that were written, and how many more there is room for
pub record Words : Type 0 where
  pub words : List Lit
  pub spare : ℕ

-- how many words there are and there is room for, in all
abbrev pub words_in_all : Words → ℕ
words_in_all b = length b.words + b.spare

-- the word that is read where there is none
abbrev pub no_word : Lit
no_word = lit (pos 0)

-- the word with this index
abbrev pub word_at : List Lit → ℕ → Lit
word_at words index = get_or words index no_word

-- the words after so many of them were copied from one index to another, each over what stood there
abbrev pub slid : List Lit → (from to count : ℕ) → List Lit
slid words from to count =
    take to words ++ (take count (drop from words) ++ drop (to + count) words)

-- the words that stand in the first places
abbrev pub words_in : Places Lit → ℕ → List Lit
words_in places len = somes (take len places.slots)

-- the parts are of one row, whose first places hold words and whose other ones are not looked at
pub record IsBlock (start : Start Lit) (places : Places Lit) (claim : Option (Claim Lit Global))
    (alloc : Global) (len capacity : ℕ) : Type 0 where
  pub row : AreRowOf start places capacity
  pub claimed : IsClaimOn start capacity alloc claim
  pub small : capacity < 2 ^ 63
  pub within : len ≤ capacity
  pub full : take len places.slots ≡ map Some (words_in places len)
