use Rattle.std.proofs.Common.{◌≡◌, ◌+◌, ◌*◌, ◌^◌, ◌≤◌, ℕ}
use Rattle.sat_order.specs.Luby.{IsLuby}
use Rattle.sat_order.proofs.luby.term.Given as goal

-- the rest has the term of the number, and lies below twice the half, which is a power of 2
abbrev pub invariant-terms : goal.invariant-terms
invariant-terms l = record {
  power : (k : ℕ) × (l.half ≡ 2 ^ k);
  small : l.half ≤ 2 ^ 32;
  first : 1 ≤ l.rest;
  last : l.rest + 1 ≤ 2 * l.half;
  same : (term : ℕ) → IsLuby l.rest term → IsLuby l.number term;
}

abbrev pub decreases-terms : goal.decreases-terms
decreases-terms l = l.half
