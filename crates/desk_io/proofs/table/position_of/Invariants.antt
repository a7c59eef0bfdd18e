use Rattle.std.proofs.Common.{◌≡◌, take, None}
use Rattle.std.specs.Ordering.{nat_cmp}
use Rattle.std.specs.Cmp.Lexicographic.{slice_cmp}
use Rattle.std.specs.FinMap.{find}
use Rattle.desk_io.specs.Table.{entries_of}
use Rattle.desk_io.proofs.table.position_of.Given as goal

abbrev pub invariant-loop-i : goal.invariant-loop-i
invariant-loop-i l = find (slice_cmp nat_cmp) l.name (take l.i (entries_of l.files)) ≡ None
