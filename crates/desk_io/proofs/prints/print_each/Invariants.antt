use Rattle.std.proofs.Common.{◌≡◌, true, take}
use Rattle.std.specs.Prelude.{All, flat_map}
use Rattle.desk_io.specs.Writing.{PassesOn}
use Rattle.desk_io.proofs.prints.print_each.Given as goal

-- the texts of the first items are passed on
abbrev pub invariant-loop-item : goal.invariant-loop-item
invariant-loop-item g l = record {
  passed : PassesOn (g.S.Shelf.state l.initial.shelf) l.initial.writer
      (flat_map g.P.Prints.text (take l.item-index l.items)) (g.S.Shelf.state l.shelf) l.writer;
  known : All g.P.Prints.known (take l.item-index l.items);
  created : (g.S.Shelf.state l.shelf).is_created ≡ true;
}
