use Rattle.std.proofs.Common.{take}
use Rattle.rows.specs.Cut.{AreGone}
use Rattle.rows.proofs.cases.cut.compare_gone.Given as goal

-- the first files are as they must be
abbrev pub invariant-loop-name : goal.invariant-loop-name
invariant-loop-name l = AreGone (take l.name-index l.names) l.shelf.files
