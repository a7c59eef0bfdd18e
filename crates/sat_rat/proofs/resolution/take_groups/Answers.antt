use Rattle.std.proofs.Common.{◌∙◌, ap, arith, refl}
use Rattle.sat_rat.specs.Counts.{times_in}
use Rattle.sat_rat.specs.Groups.{Group, groups_of}
use Rattle.sat_rat.proofs.GroupLaws.{counted_off, good_group, none_is_missing, one_is_missing}
use Rattle.sat_rat.proofs.resolution.take_groups.Goals as goal

pub loop-group-preserved : goal.loop-group-preserved
loop-group-preserved c =
    let group : Group = record { id = c.in-Some.group.id; hints = c.in-Some.group.hints.now } in
    let counted = rw c.in-Good.is at c.in-Ok.ensures.counted in
    record {
      size = c.take_group.ensures.size ∙ c.loop-group.invariant.size;
      empty = c.take_group.ensures.empty;
      left = λ clauses finds.
          let good = rw c.in-Good.is at (c.in-Ok.ensures.fault clauses finds) in
          rw c.in-Ok-add.ensures (good_group clauses c.args.lower.now.set c.args.l c.loop-group.had
          group (groups_of c.loop-group.rest.now) (groups_of c.in-Some.group.behind.now)
          c.in-Some.ensures.group good ∙ c.loop-group.invariant.left clauses finds);
      count = λ clauses finds is.
          rw (c.in-Ok-add.ensures, c.saturating_sub-left.ensures)
          (counted_off clauses c.args.lower.now.set c.args.l c.loop-group.had group
          c.loop-group.left c.in-Good.count (c.loop-group.invariant.count clauses finds is)
          counted.0 (counted.1 ∙ ap (times_in c.args.l) (finds c.in-Some.group.id)));
    }

pub returns-then-left-gt0-clause-ok : goal.returns-then-left-gt0-clause-ok
returns-then-left-gt0-clause-ok c = λ clauses finds is.
    one_is_missing clauses c.args.lower.now.set c.args.l c.loop-group.had c.loop-group.left
    (c.loop-group.invariant.count clauses finds is) (groups_of c.loop-group.rest.now)
    (groups_of c.args.hints.now) (c.in_default.ensures.none refl)
    (c.loop-group.invariant.left clauses finds) (omega (arith, c.if-left-gt0.true))

pub returns-clause-ok : goal.returns-clause-ok
returns-clause-ok c = λ clauses finds is.
    none_is_missing clauses c.args.lower.now.set c.args.l c.loop-group.had c.loop-group.left
    (c.loop-group.invariant.count clauses finds is) (groups_of c.loop-group.rest.now)
    (groups_of c.args.hints.now) (c.in_default.ensures.none refl)
    (c.loop-group.invariant.left clauses finds) (omega (arith, c.if-left-gt0.false))
