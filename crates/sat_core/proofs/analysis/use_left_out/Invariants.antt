use Rattle.std.proofs.Common.{◌≤◌, ◌-◌, ◌⊎◌, ℕ, length}
use Rattle.sat_core.specs.Analysis.{AreUsed, GoesOn, IsPoint}
use Rattle.sat_core.specs.Implied.{IsLeftOut, IsWalked}
use Rattle.sat_core.specs.Marks.{IsMet}
use Rattle.sat_core.proofs.analysis.use_left_out.Given as goal

-- the first places are used where they need no literal, and no other place was met
abbrev pub invariant-loop-i : goal.invariant-loop-i
invariant-loop-i l = record {
  walked : IsWalked l.watches l.marks l.implied;
  goes_on : GoesOn l.watches l.initial.marks l.marks;
  point : (point : ℕ) → 1 ≤ l.watches.level → IsPoint l.watches l.initial.marks point →
      IsPoint l.watches l.marks point;
  used : AreUsed (IsLeftOut l.watches.trail l.implied.marks.used) l.i l.marks;
  no_more : (p : ℕ) → IsMet l.marks p →
      IsMet l.initial.marks p ⊎ IsLeftOut l.watches.trail l.implied.marks.used p;
}

abbrev pub decreases-loop-i : goal.decreases-loop-i
decreases-loop-i l = length l.marks.met - l.i
