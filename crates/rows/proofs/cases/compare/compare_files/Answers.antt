use Rattle.std.proofs.Common.{rules}
use Rattle.list_laws.proofs.FrontParts.{all-next, all-whole}
use Rattle.list_laws.proofs.Places.{get-there}
use Rattle.rows.specs.Wanted.{IsMetBy}
use Rattle.rows.proofs.cases.compare.compare_files.Goals as goal

pub loop-file-preserved : goal.loop-file-preserved
loop-file-preserved c =
    let at = get-there c.args.files.now c.loop-file.file-index c.file-item.result c.file-item.result
    (search rules) (search rules) in
    all-next (IsMetBy c.args.shelf.now.files) c.args.files.now c.loop-file.file-index
    c.file-item.result at c.loop-file.invariant (search rules)

pub returns : goal.returns
returns c =
    all-whole (IsMetBy c.args.shelf.now.files) c.args.files.now c.loop-file.file-index
    (search rules) c.loop-file.invariant
