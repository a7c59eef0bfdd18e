use Rattle.desk_io.specs.Memory.{desk_state}
use Rattle.rows.proofs.CopyLemmas.{same_map}
use Rattle.rows.proofs.cases.row.Row.run.Goals as goal

pub returns : goal.returns
returns c =
    let same = same_map c.args.self.now.files.items c.in_ok-clone.field-0.items
    c.in_ok-clone.ensures.cases.0 in (
      desk_state c.run-outcome.new.desk,
      rw (c.deref.ensures.value, c.new-desk.ensures, same, c.new-shelf.ensures)
          at c.run-outcome.ensures.runs,
    )
