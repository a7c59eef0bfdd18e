-- the literals so far have the number of the step
use Rattle.std.proofs.Common.{◌≡◌, length, take}
use Rattle.sat_clause.specs.declared.literal.Lit.{Lit}
use Rattle.sat_clause.specs.Literal.{is_among}
use Rattle.route_core.specs.Wanting.{own_by, told}
use Rattle.route_core.proofs.wanted.tell_own.Given as goal

abbrev pub invariant-loop-l : goal.invariant-loop-l
invariant-loop-l l = record {
  many : length l.table.items ≡ length l.initial.table.items;
  told : (m : Lit) → told l.table.items m
      ≡ own_by l.stamp (is_among (take l.l-index l.own) m) (told l.initial.table.items m);
}
