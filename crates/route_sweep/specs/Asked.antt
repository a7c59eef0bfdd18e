-- How the files of a search are named, by value.
use Rattle.std.specs.Prelude.{Bool}
use Rattle.desk_io.specs.Files.{Bytes}
use Rattle.route_sweep.specs.declared.asking.Ask.{Ask}

-- what the names of written files begin with, and whether those of the clauses and the log have
-- the width in them
pub record Asked : Type 0 where
  pub prefix : Bytes
  pub numbered : Bool

-- what is asked for, with the bytes of the prefix
abbrev pub asked : Ask → Asked
asked ask = record { prefix = ask.prefix.now; numbered = ask.numbered }
