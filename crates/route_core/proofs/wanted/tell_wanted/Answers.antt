use Rattle.std.proofs.Common.{◌≡◌, ◌≤◌, ◌<◌, ◌∙◌, ap, arith, get_or, pos, subst}
use Rattle.std.specs.Prelude.{slice_index_or}
use Rattle.std.proofs.lemmas.List.{get_or_default}
use Rattle.sat_clause.specs.Literal.{lit}
use Rattle.route_core.specs.Wanting.{told}
use Rattle.route_core.proofs.WantedLemmas.{wanted-left, wanted-next}
use Rattle.route_core.proofs.wanted.tell_wanted.Goals as goal
use Rattle.route_core.proofs.wanted.tell_wanted.Goals.{After-index}

-- the number that was read is that of the literal
read : (c : After-index) → c.index.result.now
    ≡ told c.loop-l.table.items (get_or c.args.clause.now c.loop-l.l-index (lit (pos 0)))
read c =
    c.index.ensures
    ∙ get_or_default c.loop-l.table.items c.slot.result c.index.result.now 0
    (omega (arith, c.slot.ensures.small, c.requires.many, c.loop-l.invariant.many))
    ∙ ap (λ k. slice_index_or c.loop-l.table.items k 0) c.slot.ensures.value

pub loop-l-preserved-then-index-stamp : goal.loop-l-preserved-then-index-stamp
loop-l-preserved-then-index-stamp c = record {
  many = c.loop-l.invariant.many;
  told = wanted-left c.args.clause.now c.loop-l.l-index c.loop-l-test.true c.args.stamp
      c.args.table.now.items c.loop-l.table.items
      (subst (λ n. c.args.stamp ≤ n)
      (read (goal.at.loop-l-preserved-then-index-stamp c).After-index) c.if-index-stamp.true)
      c.loop-l.invariant.told;
}

pub loop-l-preserved : goal.loop-l-preserved
loop-l-preserved c = record {
  many = c.tell.ensures.many ∙ c.loop-l.invariant.many;
  told = wanted-next c.args.clause.now c.loop-l.l-index c.loop-l-test.true c.args.stamp
      c.args.table.now.items c.loop-l.table.items c.tell.new.table.items
      (subst (λ n. n < c.args.stamp) (read (goal.at.loop-l-preserved c).After-index)
      c.if-index-stamp.false)
      c.tell.ensures.here c.tell.ensures.others c.loop-l.invariant.told;
}
