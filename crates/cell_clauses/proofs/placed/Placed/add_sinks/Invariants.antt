-- the sinks at the pins so far
use Rattle.std.specs.Prelude.{◌≡◌, ◌++◌, filter_map, map, take}
use Rattle.fpga_types.specs.Terminals.{terminal_in}
use Rattle.fpga_types.specs.declared.problem.Terminal.{Terminal}
use Rattle.cell_clauses.specs.Held.{placed_of}
use Rattle.cell_clauses.proofs.placed.Placed.add_sinks.Given as goal

abbrev pub invariant-loop-pin : goal.invariant-loop-pin
invariant-loop-pin l = l.arrivals.items ≡ l.initial.arrivals.items
    ++ map (λ (at : Terminal). record { net = l.place; at = at })
    (filter_map (terminal_in (placed_of l.self)) (take l.pin-index l.sinks))
