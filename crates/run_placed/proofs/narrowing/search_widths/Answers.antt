use Rattle.std.proofs.Common.{rules}
use Rattle.router_words.specs.Job.{least_said}
use Rattle.run_placed.proofs.LeastLaws.{raised-leaves}
use Rattle.run_placed.proofs.ReasonLaws.{gives-why, lacks-why}
use Rattle.run_placed.proofs.narrowing.search_widths.Goals as goal

pub returns-clause-leaves : goal.returns-clause-leaves
returns-clause-leaves g c = raised-leaves (least_said c.args.job.now) c.args.begun.now.placed
    c.args.cut.now c.in-Ok.raised (g.S.Shelf.state c.args.shelf.now)
    (g.S.Shelf.state c.search_from-outcome.new.shelf) c.search_from-outcome.result
    (rw c.in-Ok.is at c.raised_bound.ensures) (search rules) c.search_from-outcome.ensures.leaves

pub returns-clause-why : goal.returns-clause-why
returns-clause-why g c =
    rw c.given_why.ensures (gives-why (least_said c.args.job.now) c.args.begun.now.placed
    c.args.cut.now.tracks c.in-Ok.raised (rw c.in-Ok.is at c.raised_bound.ensures)
    (g.S.Shelf.state c.args.shelf.now) (g.S.Shelf.state c.search_from-outcome.new.shelf)
    c.search_from-outcome.result c.search_from-outcome.ensures.leaves)

pub returns-clause-none : goal.returns-clause-none
returns-clause-none g c none =
    lacks-why (least_said c.args.job.now) c.args.begun.now.placed c.args.cut.now.tracks
    c.in-Ok.raised (rw c.in-Ok.is at c.raised_bound.ensures) (g.S.Shelf.state c.args.shelf.now)
    (g.S.Shelf.state c.search_from-outcome.new.shelf) c.search_from-outcome.result
    c.search_from-outcome.ensures.leaves (rw c.given_why.ensures at none)
