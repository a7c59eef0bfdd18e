use Rattle.std.proofs.Common.{◌≡◌, ◌++◌, List, All, drop}
use Rattle.sat_clause.specs.declared.literal.Lit.{Lit}
use Rattle.sat_clause.specs.Literal.{IsWithin}
use Rattle.sat_clause.specs.Live.{Live}
use Rattle.sat_check.specs.Finder.{Finds}
use Rattle.sat_check.specs.LiveStore.{live_at}
use Rattle.sat_merge.specs.Needed.{AreRead}
use Rattle.sat_merge.proofs.needed.read_hints.Given as goal

-- whatever units the hints that are left have, all hints have them behind the units so far
abbrev pub invariant-loop-i : goal.invariant-loop-i
invariant-loop-i l = record {
  size : l.falses.size ≡ l.initial.falses.size;
  within : All (IsWithin l.live.vars) l.units.items;
  left : (clauses : Live) → Finds (live_at l.live) clauses → (rest : List Lit) →
      AreRead clauses l.falses.set (drop l.i l.hints) rest →
      AreRead clauses l.initial.falses.set l.hints (l.units.items ++ rest);
}
