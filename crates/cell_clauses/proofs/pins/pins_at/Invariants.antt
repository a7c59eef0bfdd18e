-- the pins so far that are of the terminal
use Rattle.std.specs.Prelude.{◌≡◌, [], ◌∷◌, ◌++◌, filter, map}
use Rattle.std.specs.List.{range_with_len}
use Rattle.fpga_types.specs.Placed.{is_terminal_pin}
use Rattle.fpga_types.specs.declared.grid.PinAt.TheVariants.{Pad as PadAt, Pin as PinOf}
use Rattle.cell_clauses.proofs.pins.pins_at.Given as goal

abbrev pub invariant-loop-pin : goal.invariant-loop-pin
invariant-loop-pin l = l.pins.items
    ≡ filter (is_terminal_pin l.arch l.at) (PadAt l.at.x l.at.y l.at.number ∷ [])
    ++ filter (is_terminal_pin l.arch l.at)
    (map (λ pin. PinOf l.at.x l.at.y pin) (range_with_len 0 l.pin))
