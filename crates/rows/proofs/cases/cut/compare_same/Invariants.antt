use Rattle.std.proofs.Common.{take}
use Rattle.rows.specs.Cut.{AreSame}
use Rattle.rows.proofs.cases.cut.compare_same.Given as goal

-- the first files are as they must be
abbrev pub invariant-loop-name : goal.invariant-loop-name
invariant-loop-name l = AreSame (take l.name-index l.names) l.whole.files l.shelf.files
