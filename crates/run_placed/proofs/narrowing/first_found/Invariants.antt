-- no more rounds were made at any width so far than were asked for, and the shelf is as it was
use Rattle.std.proofs.Common.{◌≡◌, ◌≤◌}
use Rattle.run_placed.proofs.narrowing.first_found.Given as goal

abbrev pub invariant-loop-width : goal.invariant-loop-width
invariant-loop-width g l = (l.most ≤ l.job.rounds)
    × (g.S.Shelf.state l.shelf ≡ g.S.Shelf.state l.initial.shelf)
