-- the literals so far that had a lower number than the step are wanted
use Rattle.std.proofs.Common.{◌≡◌, length, take}
use Rattle.sat_clause.specs.declared.literal.Lit.{Lit}
use Rattle.sat_clause.specs.Literal.{is_among}
use Rattle.route_core.specs.Wanting.{told, wanted_by}
use Rattle.route_core.proofs.wanted.tell_wanted.Given as goal

abbrev pub invariant-loop-l : goal.invariant-loop-l
invariant-loop-l l = record {
  many : length l.table.items ≡ length l.initial.table.items;
  told : (m : Lit) → told l.table.items m
      ≡ wanted_by l.stamp (is_among (take l.l-index l.clause) m) (told l.initial.table.items m);
}
