use Rattle.sat_core.specs.Inputs.{AreLeft, HasTaken, no_singles, pairs_below}
use Rattle.sat_core.proofs.inputs.attach_pairs.Given as goal

-- the pairs so far are attached, and the positions of others are listed
abbrev pub invariant-loop-i : goal.invariant-loop-i
invariant-loop-i l = record {
  taken : HasTaken l.formula.cnf (pairs_below l.i) (no_singles l.formula.cnf) l.watches;
  left : AreLeft l.formula.cnf 0 l.others.items l.i;
}
