use Rattle.std.proofs.Common.{rules, ◌≡◌, ◌∙◌, None, string_bytes, length}
use Rattle.std.specs.FinMap as map
use Rattle.desk_io.specs.Table.{Named, table_map}
use Rattle.desk_io.proofs.TableLemmas.{at_index, pushed-first, pushed-map, pushed-name, written-first, written-map, written-name, name_is}
use Rattle.desk_io.proofs.table.empty_file.Goals as goal

pub returns-in-Some-clause-ok : goal.returns-in-Some-clause-ok
returns-in-Some-clause-ok c =
    let files = c.args.files.now.items in
    let h = rw c.deref.ensures.value at c.in-Some.ensures in
    let at = at_index files c.in-Some.p c.index_mut.result.now h.inside c.index_mut.ensures.value in
    let name = name_is files c.in-Some.p _ c.args.name.now at h.name in (
      search rules,
      rw (← name, ← c.clear.ensures.items)
          (written-map files c.in-Some.p _ c.clear.new.self at h.first),
      written-name files c.in-Some.p _ c.clear.new.self at ∙ h.name,
      written-first files c.in-Some.p _ c.clear.new.self at h.first,
    )

pub returns-in_ok-push-in-None-clause-ok : goal.returns-in_ok-push-in-None-clause-ok
returns-in_ok-push-in-None-clause-ok c =
    let files = c.args.files.now.items in
    let h = rw c.deref.ensures.value at c.in-None.ensures in
    let items = c.in_ok-push-in-None.ensures.items in
    let name = c.in_ok-from_str-in-None.ensures.ok in
    let f : Named = (c.in_ok-from_str-in-None.field-0, c.new.result) in
    let absent : map.get (table_map files) (string_bytes c.in_ok-from_str-in-None.field-0) ≡ None =
    rw name h.none in
    let end : c.len-p.result ≡ length files = search rules in (
      search rules,
      rw (items, ← name, ← c.new.ensures.items) (pushed-map files f absent),
      rw (items, end, ← name) (pushed-name files f),
      rw (items, end) (pushed-first files f absent),
    )
