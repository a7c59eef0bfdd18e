-- How large a log and a route are, and how full a cell.
use Rattle.std.specs.Prelude.{ℕ, zero, suc, ◌+◌, ◌-◌, ◌^◌, ◌==◌, min, Bool, false, not, ◌&&◌, List, [], ◌∷◌, length, filter, if◌then◌else◌}
use Rattle.std.specs.List.{list_any, sum_by}
use Rattle.fpga_types.specs.CellNumbers.{number_of_cell}
use Rattle.fpga_types.specs.Kinds.{is_channel, is_sink}
use Rattle.fpga_types.specs.Size.{Size}
use Rattle.fpga_types.specs.declared.limits.TheConstants.{WIDTH_LIMIT}
use Rattle.fpga_types.specs.declared.problem.Slot.{Slot}
use Rattle.fpga_types.specs.declared.route.Elem.{Elem}
use Rattle.fpga_types.specs.declared.route.ElemKind.{ElemKind}
use Rattle.fpga_types.specs.declared.route.RouteNet.{RouteNet}
use Rattle.sat_clause.specs.declared.log.StepView.{StepView}
use Rattle.sat_clause.specs.Step.{Step, Added, Erased}

-- the number of 64 bits that is told for this one: the greatest for all that are greater
abbrev pub capped : ℕ → ℕ
capped n = min n (2 ^ 64 - 1)

-- the slots that take the cell with this number
abbrev pub slots_of_cell : Size → (number : ℕ) → List Slot → List Slot
slots_of_cell grid number all = filter (λ slot. number_of_cell grid slot.cell == number) all

-- the step that is seen
abbrev pub step_said : StepView → Step
step_said step =
    if step.erase then Erased step.id step.hints.now else Added step.id step.lits.now step.hints.now

-- how many clauses a step adds
abbrev pub added_by : Step → ℕ
added_by (Added id clause hints) = 1
added_by (Erased id ids) = 0

-- how many clauses a step deletes
abbrev pub deleted_by : Step → ℕ
deleted_by (Added id clause hints) = 0
deleted_by (Erased id ids) = length ids

-- how many hints the clause has that a step adds
abbrev pub hinted_by : Step → ℕ
hinted_by (Added id clause hints) = length hints
hinted_by (Erased id ids) = 0

-- how many clauses the steps delete
abbrev pub deleted_count : List Step → ℕ
deleted_count steps = sum_by deleted_by steps

-- how many hints the clauses have that the steps add
abbrev pub hint_count : List Step → ℕ
hint_count steps = sum_by hinted_by steps

-- how many wires a line of this kind names anew: a channel does, but where a branch begins, which
-- says again where that is
abbrev pub named_wires : (branches : Bool) → ElemKind → ℕ
named_wires branches kind = if is_channel kind && not branches then 1 else 0

-- how many wires the lines name anew; a branch begins right behind a sink
abbrev pub wires_from : (branches : Bool) → List Elem → ℕ
wires_from branches [] = 0
wires_from branches (e ∷ es) = named_wires branches e.kind + wires_from (is_sink e.kind) es

-- how many wires the lines of a net name
abbrev pub wire_count : List Elem → ℕ
wire_count elems = wires_from false elems

-- how many wires the nets take, each net for itself
abbrev pub wire_length : List RouteNet → ℕ
wire_length nets = sum_by (λ net. wire_count net.elems) nets

-- the line names a wire on the track
abbrev pub is_wire_on : (track : ℕ) → Elem → Bool
is_wire_on track e = is_channel e.kind && (e.number == track)

-- some line of the net does
abbrev pub has_wire_on : (track : ℕ) → RouteNet → Bool
has_wire_on track net = list_any (is_wire_on track) net.elems

-- some wire is on the track
abbrev pub is_track_used : List RouteNet → (track : ℕ) → Bool
is_track_used nets track = list_any (has_wire_on track) nets

-- how many tracks with this number some wire is on
abbrev pub on_track : List RouteNet → (track : ℕ) → ℕ
on_track nets track = if is_track_used nets track then 1 else 0

-- how many of the first n tracks some wire is on
abbrev pub used_before : List RouteNet → ℕ → ℕ
used_before nets zero = 0
used_before nets (suc n) = used_before nets n + on_track nets n

-- how many of all tracks that may be some wire is on
abbrev pub tracks_used : List RouteNet → ℕ
tracks_used nets = used_before nets WIDTH_LIMIT
