-- the sinks of the nets so far
use Rattle.std.specs.Prelude.{◌≡◌, flat_map, take}
use Rattle.std.specs.List.{enumerate_from}
use Rattle.cell_clauses.specs.Frames.{arrivals_of}
use Rattle.cell_clauses.specs.Held.{placed_of}
use Rattle.cell_clauses.proofs.placed.Placed.arrivals.Given as goal

abbrev pub invariant-loop-place : goal.invariant-loop-place
invariant-loop-place l = l.arrivals.items ≡ flat_map (arrivals_of (placed_of l.self)) (take l.place (enumerate_from 0 l.nets))
