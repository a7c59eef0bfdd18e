-- the values of the bytes so far
use Rattle.std.proofs.Common.{◌≡◌, take}
use Rattle.std.specs.Prelude.{◌==◌, map}
use Rattle.rows.proofs.problems.encodings.decoded.values_of.Given as goal

abbrev pub invariant-loop-byte : goal.invariant-loop-byte
invariant-loop-byte l =
    l.values.items ≡ map (λ byte. byte == 49) (take l.byte-index l.byte-items)
