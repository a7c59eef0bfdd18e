use Rattle.std.proofs.Common.{take}
use Rattle.std.specs.Prelude.{All}
use Rattle.rows.specs.Wanted.{IsMetBy}
use Rattle.rows.proofs.cases.compare.compare_files.Given as goal

-- the first files are as they must be
abbrev pub invariant-loop-file : goal.invariant-loop-file
invariant-loop-file l = All (IsMetBy l.shelf.files) (take l.file-index l.files)
