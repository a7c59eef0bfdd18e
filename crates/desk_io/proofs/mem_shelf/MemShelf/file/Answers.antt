use Rattle.std.proofs.Common.{◌∙◌, ap, sym, Some}
use Rattle.desk_io.proofs.TableLemmas.{at_index, found_at}
use Rattle.desk_io.proofs.mem_shelf.MemShelf.file.Goals as goal

pub returns-in-Some : goal.returns-in-Some
returns-in-Some c =
    let h = rw c.deref.ensures.value at c.in-Some.ensures in
    let at = at_index c.self.inside.files.items c.in-Some.p c.index.result.now h.inside
    c.index.ensures in
    rw (← c.self.view_is) (ap Some c.as_slice.ensures.value
    ∙ sym (found_at c.self.inside.files.items c.in-Some.p c.args.name.now _ at h.name h.first))
