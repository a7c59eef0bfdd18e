-- The clauses of sinks, by numbers of wires.
use Rattle.std.specs.Prelude.{ℕ, Bool, false, List, filter, flat_map, map, option_map, slice_index_or}
use Rattle.std.specs.Option.{option_to_list}
use Rattle.fpga_graph.specs.GraphOf.{GraphOf}
use Rattle.fpga_graph.specs.Wires.{opened_tracks}
use Rattle.fpga_types.specs.Slots.{adjacent}
use Rattle.fpga_types.specs.declared.grid.PinAt.{PinAt}
use Rattle.fpga_types.specs.declared.problem.Slot.{Slot}
use Rattle.fpga_types.specs.declared.route.Elem.{Elem}
use Rattle.sat_clause.specs.Literal.{Clause}
use Rattle.sat_clause.specs.declared.literal.Lit.{Lit}
use Rattle.route_encode.specs.Encoding.{below, place_of}
use Rattle.route_reach.specs.Ends.{sink_pin}
use Rattle.route_reach.specs.Near.{touched_slots}
use Rattle.route_reach.specs.WireClauses.{wire_reached}

-- for each marked track: the wire of slot s is reached
abbrev pub slot_lits : (wires reach width : ℕ) → List Bool → (s : ℕ) → List Lit
slot_lits wires reach width marks s = map (λ t. wire_reached wires reach (place_of width s t) reach)
    (filter (λ t. slice_index_or marks t false) (below width))

-- the pin is reached over a wire of a slot of the net at this position
abbrev pub sink_lits : (wires reach : ℕ) → GraphOf → List Slot → (n : ℕ) → PinAt → Clause
sink_lits wires reach g all n pin = flat_map
    (λ s. map (λ t. wire_reached wires reach (place_of g.width s t) reach) (opened_tracks g pin))
    (touched_slots g all n pin)

-- of two lines that stand next to each other: the SINK is reached, if the second is one
abbrev pub line_clauses : (wires reach : ℕ) → GraphOf → List Slot → (n : ℕ) → Elem × Elem
    → List Clause
line_clauses wires reach g all n lines =
    option_to_list (option_map (sink_lits wires reach g all n) (sink_pin lines))

-- of all lines of a net
abbrev pub lines_clauses : (wires reach : ℕ) → GraphOf → List Slot → (n : ℕ) → List Elem
    → List Clause
lines_clauses wires reach g all n elems =
    flat_map (line_clauses wires reach g all n) (adjacent elems)
