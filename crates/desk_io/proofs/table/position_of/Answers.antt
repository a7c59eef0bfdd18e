use Rattle.std.proofs.Common.{rules, ◌≡◌, ◌∙◌, sym, ap, is_some, length, arith}
use Rattle.desk_io.proofs.TableLemmas.{at_index, bytes_there, found_at, map-absent, none_yet, same_bytes, the_first, the_name}
use Rattle.desk_io.proofs.table.position_of.Goals as goal

pub returns-then-eq : goal.returns-then-eq
returns-then-eq c =
    let at = at_index c.args.files.now c.loop-i.i c.index-files-i.result
    (search rules) c.index-files-i.is in
    let same = same_bytes c.args.name.now c.as_str.result.now (sym c.eq.ensures ∙ c.if-eq.true)
    ∙ c.as_str.ensures.value in
    let name = the_name c.args.files.now c.loop-i.i _ _ at same in
    let first = the_first c.args.files.now c.loop-i.i c.args.name.now _ at same c.loop-i.invariant
    in
    let found = found_at c.args.files.now c.loop-i.i c.args.name.now _ at name first in
    record {
      none = tt;
      inside = search rules;
      name = name;
      first = first;
      bytes = bytes_there c.args.files.now c.loop-i.i _ at ∙ sym found;
      there = ap is_some found;
    }

pub loop-i-preserved : goal.loop-i-preserved
loop-i-preserved c =
    let at = at_index c.args.files.now c.loop-i.i c.index-files-i.result
    (search rules) c.index-files-i.is in
    none_yet c.args.files.now c.loop-i.i c.args.name.now c.index-files-i.result at
    c.loop-i.invariant (rw (← c.as_str.ensures.value) (sym c.eq.ensures ∙ c.if-eq.false))

pub returns-clause-none : goal.returns-clause-none
returns-clause-none c =
    let end : c.loop-i.i ≡ length c.args.files.now =
    omega arith in map-absent _ _ (rw (← end) c.loop-i.invariant)
