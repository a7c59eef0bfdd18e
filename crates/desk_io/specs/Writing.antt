-- What a writer with a block of waiting bytes leaves of a shelf.
use Rattle.std.specs.Prelude.{◌≡◌, ◌++◌, Result, MatchResult}
use Rattle.desk_io.specs.Files.{Bytes}
use Rattle.desk_io.specs.ShelfState.{ShelfState, after_append, FailsToAppend}
use Rattle.desk_io.specs.declared.desk.Failed.{Failed}

-- of what waited and a text behind it, a front part was appended and the others wait
pub record PassesOn
    (before : ShelfState) (waiting text : Bytes) (now : ShelfState) (still : Bytes)
    : Type 0 where
  pub sent : Bytes
  pub split : waiting ++ text ≡ sent ++ still
  pub passed : now ≡ after_append before sent

-- a text is written behind what waits: after a success it is passed on, after a failure a front
-- part of both was appended
abbrev pub Writes : {T : Type 0}
    → ShelfState → Bytes → Bytes → ShelfState → Bytes → Result T Failed → Type 0
Writes before waiting text now still result =
    MatchResult result
    (λ _. PassesOn before waiting text now still)
    (λ _. FailsToAppend before (waiting ++ text) now)
