-- Which outcomes need no words.
use Rattle.std.specs.Prelude.{Bool, false, ◌==◌}
use Rattle.run_outcome.specs.Report.{status_of}
use Rattle.run_outcome.specs.declared.outcome.Outcome.{Outcome}
use Rattle.run_outcome.specs.declared.outcome.Outcome.TheVariants.{Bound, Narrowed}

-- whether the run came to what was asked for; of a bound it is said why that is one, and of a width
-- that was found how near the least it is
abbrev pub is_quiet : Outcome → Bool
is_quiet (Bound tracks cells nets) = false
is_quiet (Narrowed tracks width cut) = false
is_quiet outcome = status_of outcome == 0
