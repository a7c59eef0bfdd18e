-- The clauses about each wire, by the wire's number: wires are numbered slot by slot, and in each
-- slot by track.
use Rattle.std.specs.Prelude.{ℕ, suc, ◌+◌, ◌*◌, ◌≤◌, Bool, false, not, pos, negsuc, List, [], ◌∷◌, filter, filter_map, flat_map, map, option_map, slice_index_or, Option}
use Rattle.fpga_graph.specs.GraphOf.{GraphOf}
use Rattle.fpga_types.specs.Slots.{slot_at}
use Rattle.fpga_types.specs.Tracks.{mapped_track, track_across}
use Rattle.fpga_types.specs.declared.problem.Slot.{Slot}
use Rattle.sat_clause.specs.FormulaStore.{FormulaState}
use Rattle.sat_clause.specs.Literal.{Clause, lit}
use Rattle.sat_clause.specs.declared.literal.Lit.{Lit}
use Rattle.route_encode.specs.Encoding.{below, place_of}
use Rattle.route_reach.specs.declared.each_wire.WireRule.{WireRule}
use Rattle.route_reach.specs.declared.each_wire.WireRule.TheVariants.{Stays, Used}

-- the wire is used
abbrev pub wire_used : (w : ℕ) → Lit
wire_used w = lit (pos (suc w))

-- of so many wires, for a reach, the wire is reached within d joins
abbrev pub wire_reached : (wires reach w d : ℕ) → Lit
wire_reached wires reach w d = lit (pos (suc (wires + w * (reach + 1) + d)))

-- it is not
abbrev pub wire_unreached : (wires reach w d : ℕ) → Lit
wire_unreached wires reach w d = lit (negsuc (wires + w * (reach + 1) + d))

-- where the wire is reached it is used
abbrev pub used_clauses : (wires reach w : ℕ) → List Clause
used_clauses wires reach w =
    map (λ d. wire_unreached wires reach w d ∷ wire_used w ∷ []) (below (reach + 1))

-- where it is reached within some joins it is so within one more
abbrev pub stays_clauses : (wires reach w : ℕ) → List Clause
stays_clauses wires reach w =
    map (λ d. wire_unreached wires reach w d ∷ wire_reached wires reach w (d + 1) ∷ [])
    (below reach)

-- what a rule says of the wire
abbrev pub rule_clauses : (wires reach : ℕ) → WireRule → (w : ℕ) → List Clause
rule_clauses wires reach Used = used_clauses wires reach
rule_clauses wires reach Stays = stays_clauses wires reach

-- where it is reached within one join more than d it is so within d, or one of these is
abbrev pub comes_clause : (wires reach w : ℕ) → List ℕ → ℕ → Clause
comes_clause wires reach w beside d = wire_unreached wires reach w (d + 1)
    ∷ wire_reached wires reach w d ∷ map (λ b. wire_reached wires reach b d) beside

abbrev pub comes_clauses : (wires reach w : ℕ) → List ℕ → List Clause
comes_clauses wires reach w beside = map (comes_clause wires reach w beside) (below reach)

-- the formula has the variables of so many wires for a reach
abbrev pub HasWires : (wires reach : ℕ) → FormulaState → Type 0
HasWires wires reach state = wires * (reach + 2) ≤ state.cnf.vars

-- no wire of slot s whose track is not marked is reached without joins
abbrev pub unmarked_clauses : (wires reach width s : ℕ) → List Bool → List Clause
unmarked_clauses wires reach width s marks =
    map (λ t. wire_unreached wires reach (place_of width s t) 0 ∷ [])
    (filter (λ t. not (slice_index_or marks t false)) (below width))

-- the number of the wire of slot r that the wire of slot s and track t is joined to, if their cells
-- meet
abbrev pub wire_beside : GraphOf → List Slot → (s t r : ℕ) → Option ℕ
wire_beside g all s t r = option_map (place_of g.width r)
    (track_across (mapped_track g.arch.pattern g.width) g.grid (slot_at all s).cell
    (slot_at all r).cell t)

-- the numbers of the wires of some slots that the wire of slot s and track t is joined to
abbrev pub wires_beside : GraphOf → List Slot → List ℕ → (s t : ℕ) → List ℕ
wires_beside g all near s t = filter_map (wire_beside g all s t) near

-- the wires of slot s, of which these are the slots near it, are reached from themselves and from
-- the wires that they are joined to
abbrev pub slot_comes : (wires reach : ℕ) → GraphOf → List Slot → List ℕ → (s : ℕ) → List Clause
slot_comes wires reach g all near s = flat_map
    (λ t. comes_clauses wires reach (place_of g.width s t) (wires_beside g all near s t))
    (below g.width)
