use Rattle.std.proofs.Common.{◌≤◌, ◌+◌, true}
use Rattle.route_sweep.proofs.ClimbLemmas.{HasClimbed}
use Rattle.route_sweep.proofs.climbing.climb.Given as goal

-- the widths below this one were refuted
abbrev pub invariant-loop-width : goal.invariant-loop-width
invariant-loop-width g l =
    (1 ≤ l.width) × (l.width ≤ l.most + 1)
    × HasClimbed (g.W.Searcher.copies l.way)
    (λ width. g.W.Searcher.refutes l.way l.problem width
    (g.E.Encoder.formula_of l.encoder l.problem width))
    (λ width. g.W.Searcher.leaves_open l.way l.problem width
    (g.E.Encoder.formula_of l.encoder l.problem width))
    (record { prefix = l.ask.prefix.now; numbered = true })
    (g.E.Encoder.formula_of l.encoder l.problem) (g.E.Encoder.is_good l.encoder l.problem)
    (g.S.Shelf.state l.initial.shelf) (g.S.Shelf.state l.shelf) l.width
