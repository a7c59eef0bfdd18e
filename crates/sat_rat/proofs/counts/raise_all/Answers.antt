use Rattle.std.proofs.Common.{add-one, arith, pos, ◌∙◌}
use Rattle.std.specs.Prelude.{slice_index_or}
use Rattle.sat_clause.specs.Literal.{lit}
use Rattle.sat_rat.proofs.CountLaws.{one_same, times_more, times_next}
use Rattle.sat_rat.proofs.counts.raise_all.Goals as goal

pub raise-requires-clause-room : goal.raise-requires-clause-room
raise-requires-clause-room c =
    let l = slice_index_or c.args.clause.now c.loop-l.l-index (lit (pos 0)) in
    let next = times_next l c.args.clause.now c.loop-l.l-index (lit (pos 0)) c.loop-l-test.true in
    let room = c.requires.room c.loop-l.l-index (lit (pos 0)) c.loop-l-test.true in
    omega (arith, next, one_same l, c.loop-l.invariant.counts l, room)

pub loop-l-preserved : goal.loop-l-preserved
loop-l-preserved c = record {
  many = c.raise.ensures.many ∙ c.loop-l.invariant.many;
  counts = λ m.
      let more = times_more m c.args.clause.now c.loop-l.l-index (lit (pos 0)) c.loop-l-test.true in
      rw add-one (omega (arith, more, c.raise.ensures.counts m, c.loop-l.invariant.counts m));
}
