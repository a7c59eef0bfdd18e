-- the literals so far stand in the line
use Rattle.std.proofs.Common.{◌≡◌, string_bytes, take}
use Rattle.std.specs.Prelude.{flat_map}
use Rattle.sat_text.specs.Printed.{literal_text}
use Rattle.rows.proofs.problems.encodings.clauses.clause_line.Given as goal

abbrev pub invariant-loop-lit : goal.invariant-loop-lit
invariant-loop-lit l = string_bytes l.line ≡ flat_map literal_text (take l.lit-index l.lits)
