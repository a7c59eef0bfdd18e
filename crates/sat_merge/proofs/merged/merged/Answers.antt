use Rattle.std.proofs.Common.{ℕ, Option, arith, subst}
use Rattle.std.specs.Prelude.{IfSome}
use Rattle.sat_merge.specs.Merging.{Adds}
use Rattle.sat_merge.specs.Representatives.{keeps}
use Rattle.sat_merge.proofs.MergedLaws.{merged-next, merged-whole}
use Rattle.sat_merge.proofs.merged.merged.Goals as goal

pub loop-at-preserved : goal.loop-at-preserved
loop-at-preserved c =
    let was = c.loop-at.invariant in
    let added = subst (λ (o : Option ℕ). IfSome o (λ room.
    Adds (keeps c.args.representatives.now) c.clause-clause.result.now c.loop-at.merged
    c.add_image.new.merged room)) c.in-Some.is c.in_ok-found.ensures in
    record {
      so_far =
          merged-next (keeps c.args.representatives.now) c.args.formula.now.cnf
          c.loop-at.merged.cnf c.loop-at.at was.so_far c.add_image.new.merged.cnf
          c.clause-clause.result.now added.own added.vars added.clauses
          c.clause-clause.ensures.value added.stays;
      clause_room = omega (
        arith,
        was.clause_room,
        added.clause_room,
        c.loop-at-test.true,
        c.len-at-end.ensures,
      );
      lit_room = added.lit_room;
    }

pub returns : goal.returns
returns c =
    merged-whole (keeps c.args.representatives.now) c.args.formula.now.cnf c.loop-at.merged.cnf
    c.loop-at.at c.loop-at.invariant.so_far (omega arith)
