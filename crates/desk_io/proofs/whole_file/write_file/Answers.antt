use Rattle.desk_io.proofs.WholeFileLemmas.{append-fails, file-written, finish-fails}
use Rattle.desk_io.proofs.whole_file.write_file.Goals as goal

pub returns-clause-ok : goal.returns-clause-ok
returns-clause-ok g c =
    file-written (g.S.Shelf.state c.args.shelf.now) c.args.name.now
    (g.P.Prints.text c.args.item.now) c.in_ok-create.ensures.ok c.in-Ok.ensures.ok
    c.in-Ok-finish.ensures.ok

pub returns-in_default-clause-err : goal.returns-in_default-clause-err
returns-in_default-clause-err g c =
    append-fails (g.S.Shelf.state c.args.shelf.now) c.args.name.now
    (g.P.Prints.text c.args.item.now) c.in_ok-create.ensures.ok c.in_default.ensures.err

pub returns-in_default-finish-clause-err : goal.returns-in_default-finish-clause-err
returns-in_default-finish-clause-err g c =
    finish-fails (g.S.Shelf.state c.args.shelf.now) c.args.name.now
    (g.P.Prints.text c.args.item.now) c.in_ok-create.ensures.ok c.in-Ok.ensures.ok
    c.in_default-finish.ensures.err
