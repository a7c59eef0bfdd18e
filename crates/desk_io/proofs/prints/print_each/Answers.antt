use Rattle.std.proofs.Common.{rules, refl}
use Rattle.list_laws.proofs.FrontParts.{all-front, all-next, all-whole}
use Rattle.list_laws.proofs.Places.{get-there}
use Rattle.desk_io.proofs.WritingLaws.{passes-none}
use Rattle.desk_io.proofs.RowLemmas.{row-ends, row-fails, row-passes}
use Rattle.desk_io.proofs.prints.print_each.Goals as goal

pub loop-item-init : goal.loop-item-init
loop-item-init g c = record {
  passed = passes-none _ _;
  known = all-front g.P.Prints.known c.args.items.now;
  created = c.requires;
}

pub returns-in_default-clause-written : goal.returns-in_default-clause-written
returns-in_default-clause-written g c =
    let at = get-there c.args.items.now c.loop-item.item-index c.item-item.result c.item-item.result
    (search rules) (search rules) in
    row-fails g.P.Prints.text c.args.items.now c.loop-item.item-index _ at
    c.loop-item.invariant.passed c.in_default.ensures.written

pub loop-item-preserved : goal.loop-item-preserved
loop-item-preserved g c =
    let at = get-there c.args.items.now c.loop-item.item-index c.item-item.result c.item-item.result
    (search rules) (search rules) in
    record {
      passed = row-passes g.P.Prints.text c.args.items.now c.loop-item.item-index _ at
          c.loop-item.invariant.passed c.in-Ok.ensures.written;
      known = all-next g.P.Prints.known c.args.items.now c.loop-item.item-index _ at
          c.loop-item.invariant.known (c.in-Ok.ensures.known refl);
      created = search rules;
    }

pub returns-clause-written : goal.returns-clause-written
returns-clause-written g c =
    row-ends g.P.Prints.text c.args.items.now c.loop-item.item-index
    (search rules) c.loop-item.invariant.passed

pub returns-clause-known : goal.returns-clause-known
returns-clause-known g c _ =
    all-whole g.P.Prints.known c.args.items.now c.loop-item.item-index
    (search rules) c.loop-item.invariant.known
