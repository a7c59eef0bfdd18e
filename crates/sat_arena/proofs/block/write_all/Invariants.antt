use Rattle.std.proofs.Common.{◌≡◌, ◌++◌, List, length, take}
use Rattle.sat_clause.specs.declared.literal.Lit.{Lit}
use Rattle.sat_arena.specs.Places.{Begins}
use Rattle.sat_arena.proofs.block.write_all.Given as goal

abbrev pub invariant-loop-k : goal.invariant-loop-k
invariant-loop-k l = record {
  row : l.places.start ≡ l.initial.places.start;
  size : length l.places.slots ≡ length l.initial.places.slots;
  behind : (front : List Lit) → l.from ≡ length front → Begins l.initial.places.slots front
      → Begins l.places.slots (front ++ take l.k l.words);
}
