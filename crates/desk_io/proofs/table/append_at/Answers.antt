use Rattle.std.proofs.Common.{rules, refl}
use Rattle.desk_io.proofs.TableLemmas.{at_index, map-first, name_there, written-entries, written-first, written-map, written-name}
use Rattle.desk_io.proofs.table.append_at.Goals as goal

pub returns-in_default-clause-err : goal.returns-in_default-clause-err
returns-in_default-clause-err c =
    let at = at_index c.args.files.now.items c.args.at c.index_mut.result.now
    (search rules) c.index_mut.ensures.value in
    written-entries c.args.files.now.items c.args.at _ c.extend_from_slice.new.self at
    c.in_default.ensures.items

pub returns-in_default-clause-name : goal.returns-in_default-clause-name
returns-in_default-clause-name c =
    let at = at_index c.args.files.now.items c.args.at c.index_mut.result.now
    (search rules) c.index_mut.ensures.value in
    written-name c.args.files.now.items c.args.at _ c.extend_from_slice.new.self at

pub returns-in_default-clause-first : goal.returns-in_default-clause-first
returns-in_default-clause-first c =
    let at = at_index c.args.files.now.items c.args.at c.index_mut.result.now
    (search rules) c.index_mut.ensures.value in
    written-first c.args.files.now.items c.args.at _ c.extend_from_slice.new.self at
    c.requires.first

pub returns-clause-ok : goal.returns-clause-ok
returns-clause-ok c =
    let at = at_index c.args.files.now.items c.args.at c.index_mut.result.now
    (search rules) c.index_mut.ensures.value in (
      _,
      _,
      name_there c.args.files.now.items c.args.at _ at,
      map-first c.args.files.now.items c.args.at _ at (c.requires.first c.args.at refl _ at),
      rw (← c.in-Ok.ensures.items) (written-map c.args.files.now.items c.args.at _
          c.extend_from_slice.new.self at c.requires.first),
    )

pub returns-clause-name : goal.returns-clause-name
returns-clause-name c =
    let at = at_index c.args.files.now.items c.args.at c.index_mut.result.now
    (search rules) c.index_mut.ensures.value in
    written-name c.args.files.now.items c.args.at _ c.extend_from_slice.new.self at

pub returns-clause-first : goal.returns-clause-first
returns-clause-first c =
    let at = at_index c.args.files.now.items c.args.at c.index_mut.result.now
    (search rules) c.index_mut.ensures.value in
    written-first c.args.files.now.items c.args.at _ c.extend_from_slice.new.self at
    c.requires.first
