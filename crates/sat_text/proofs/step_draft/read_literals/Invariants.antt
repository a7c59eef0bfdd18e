-- the literals so far
use Rattle.std.proofs.Common.{◌≡◌, take}
use Rattle.std.specs.Prelude.{map}
use Rattle.sat_clause.specs.Literal.{lit}
use Rattle.sat_text.proofs.step_draft.read_literals.Given as goal

abbrev pub invariant-loop-n : goal.invariant-loop-n
invariant-loop-n l = l.lits.items ≡ map lit (take l.n-index l.numbers)
