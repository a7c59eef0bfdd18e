use Rattle.std.proofs.Common.{◌≡◌, false, take, All}
use Rattle.std.specs.Prelude.{IsTrue}
use Rattle.sat_merge.specs.Known.{is_asked, is_known, key_of}
use Rattle.sat_merge.proofs.known.KnownPairs.is_free.Given as goal

-- those so far are asked for, and none is known with another one
abbrev pub invariant-loop-l : goal.invariant-loop-l
invariant-loop-l l = record {
  asked : All (λ x. IsTrue (is_asked l.self.wanted x)) (take l.l-index l.clause);
  free : All (λ x. All (λ m. is_known l.self (key_of x m) ≡ false) l.clause)
      (take l.l-index l.clause);
}
