use Rattle.std.proofs.Common.{◌<◌, Bool, [], List, length, get_or, ap, ◌∙◌, arith}
use Rattle.std.specs.Prelude.{◌||◌, ◌&&◌}
use Rattle.std.proofs.lemmas.Option.{get_or_from_slice_get}
use Rattle.sat_clause.specs.Literal.{Clause}
use Rattle.route_core.specs.Blamed.{speaks_of}
use Rattle.route_core.specs.Blaming.{blames_at}
use Rattle.route_core.proofs.BlameLemmas.{any-left, any-more}
use Rattle.route_core.proofs.blaming.mark_nets.Goals as goal

pub loop-at-preserved-then-not-used-at : goal.loop-at-preserved-then-not-used-at
loop-at-preserved-then-not-used-at c = λ net low.
    let clauses : List Clause = c.args.formula.now.cnf.clauses in
    c.loop-at.invariant net low
    ∙ any-left (blames_at c.args.used.now clauses c.args.width c.args.slots.now net) c.loop-at.at
    (ap (λ (b : Bool). b && speaks_of c.args.width c.args.slots.now net
    (get_or clauses c.loop-at.at [])) c.if-not-used-at.true)

pub loop-at-preserved : goal.loop-at-preserved
loop-at-preserved c = λ net low.
    let clauses : List Clause = c.args.formula.now.cnf.clauses in
    let there : net < length c.loop-at.marks = omega (arith, low, c.loop-at.auto.marks) in
    c.mark_clause.ensures net there
    ∙ ap (λ (b : Bool). b
    || speaks_of c.args.width c.args.slots.now net c.clause.result.now)
    (c.loop-at.invariant net low)
    ∙ any-more (blames_at c.args.used.now clauses c.args.width c.args.slots.now net) c.loop-at.at
    (speaks_of c.args.width c.args.slots.now net c.clause.result.now)
    (ap (λ (b : Bool). b && speaks_of c.args.width c.args.slots.now net
    (get_or clauses c.loop-at.at [])) c.if-not-used-at.false
    ∙ ap (speaks_of c.args.width c.args.slots.now net)
    (get_or_from_slice_get clauses c.loop-at.at c.clause.result.now [] c.clause.ensures.value))
