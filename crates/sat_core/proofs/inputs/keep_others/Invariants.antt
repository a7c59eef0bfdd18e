use Rattle.std.proofs.Common.{ℕ, drop}
use Rattle.sat_core.proofs.LeftLaws.{IsTaking}
use Rattle.sat_core.proofs.inputs.keep_others.Given as goal

-- the clauses before some position are kept, and the next positions are left
abbrev pub invariant-loop-i : goal.invariant-loop-i
invariant-loop-i l = (n : ℕ)
    × IsTaking l.formula.cnf n (drop l.i-index l.others) l.singles l.watches
