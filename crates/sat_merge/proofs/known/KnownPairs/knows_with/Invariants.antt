use Rattle.std.proofs.Common.{◌≡◌, false, take, All}
use Rattle.sat_merge.specs.Known.{is_known, key_of}
use Rattle.sat_merge.proofs.known.KnownPairs.knows_with.Given as goal

-- none of those so far is known with the literal
abbrev pub invariant-loop-m : goal.invariant-loop-m
invariant-loop-m l =
    All (λ m. is_known l.self (key_of l.l m) ≡ false) (take l.m-index l.clause)
