use Rattle.std.proofs.Common.{◌≡◌, ◌++◌, drop}
use Rattle.std.specs.Prelude.{option_to_list}
use Rattle.std.specs.Option.{ForSome}
use Rattle.sat_clause.specs.Literal.{IsWithin}
use Rattle.sat_clause.specs.Rup.{open_literals}
use Rattle.sat_clause.proofs.reading.read_clause.Given as goal

-- what was found, and the open literals of what is left, are the clause's open literals
abbrev pub invariant-loop-l : goal.invariant-loop-l
invariant-loop-l g l =
    (open_literals (g.F.FalseLiterals.falses l.literals) l.clause
    ≡ option_to_list l.open ++ open_literals
    (option_to_list l.open ++ g.F.FalseLiterals.falses l.literals) (drop l.l-index l.clause))
    × ForSome l.open (IsWithin (g.F.FalseLiterals.most l.literals))
