use Rattle.std.proofs.Common.{◌∙◌, ap, sym, refl, Some, is_some}
use Rattle.desk_io.specs.Table.{name_at}
use Rattle.desk_io.proofs.TableLemmas.{same_map_of}
use Rattle.desk_io.proofs.WritingLaws.{fails_at_once}
use Rattle.desk_io.proofs.mem_shelf.MemShelfShelf.append.Goals as goal

pub returns-then-next_fails-clause-err : goal.returns-then-next_fails-clause-err
returns-then-next_fails-clause-err c =
    rw (← c.self.view_is) (fails_at_once c.args.piece.now (record {
      files = refl;
      said = refl;
      is_created = refl;
      created = refl;
      risen = c.add.ensures.risen;
      say_failed = c.add.ensures.in_say;
    }))

pub returns-in_default-append_at-clause-err : goal.returns-in_default-append_at-clause-err
returns-in_default-append_at-clause-err c =
    let created = ap (name_at c.append_at.new.files.items) c.in-Some.is
    ∙ c.append_at.ensures.name ∙ sym (ap (name_at c.self.inside.files.items) c.in-Some.is) in
    rw (← c.self.view_is) (fails_at_once c.args.piece.now (record {
      files = ap Some (same_map_of _ _ c.in_default-append_at.ensures.err);
      said = refl;
      is_created = ap is_some created;
      created = created;
      risen = c.add-in_default-append_at.ensures.risen;
      say_failed = c.add-in_default-append_at.ensures.in_say;
    }))
