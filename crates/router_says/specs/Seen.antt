-- What is said of a width by what is seen without a search: which nets want more tracks than there
-- are, which net no track serves, and which option helps.
use Rattle.std.specs.Prelude.{◌≡◌, ◌⊎◌, ℕ, ◌++◌, ◌-◌, ◌&&◌, not, Bool, true, false, nat_le, List, [], length, take, flat_map, codes, decimal, slice_get, Option, Some, None, is_some, if◌then◌else◌}
use Rattle.std.specs.Option.{option_map_or}
use Rattle.fpga_types.specs.Problem.{RoutingProblem}
use Rattle.fpga_types.specs.Slots.{slots}
use Rattle.fpga_types.specs.declared.grid.Axis.{Axis}
use Rattle.fpga_types.specs.declared.grid.Axis.TheVariants.{X, Y}
use Rattle.fpga_types.specs.declared.grid.Cell.{Cell as AnyCell}
use Rattle.fpga_types.specs.declared.limits.TheConstants.{WIDTH_LIMIT}
use Rattle.fpga_types.specs.declared.problem.PinStep.{PinStep}
use Rattle.fpga_types.specs.declared.problem.Slot.{Slot}
use Rattle.fpga_types.specs.declared.grid.PinAt.{PinAt}
use Rattle.fpga_types.specs.declared.grid.PinAt.TheVariants.{Pad as PadAt, Pin as PinOf}
use Rattle.problem_facts.specs.Alone.{HasTrackless, IsTracklessTree}
use Rattle.problem_facts.specs.Crowd.{IsCrowd}
use Rattle.problem_facts.specs.Groups.{is_exchangeable}
use Rattle.problem_facts.specs.declared.closed_tree.ClosedTree.{ClosedTree}
use Rattle.route_count.specs.Crowded.{IsCrowded, IsCrowding}
use Rattle.route_count.specs.declared.crowded.Crowding.{Crowding}
use Rattle.route_count.specs.declared.crowded.Crowding.TheVariants.{Cell, Crowd}
use Rattle.fault_names.specs.NameBytes.{name_said}
use Rattle.router_says.specs.Names.{reach_of}
use Rattle.router_says.specs.declared.places.TheConstants.{NAME_LIMIT}
use Rattle.router_says.specs.declared.phrases.TheConstants.{AND, SEEN_ALONE, SEEN_APART, SEEN_CELL, SEEN_CHANNEL, SEEN_COUNT, SEEN_CROWD, SEEN_MORE, SEEN_ORDER, SEEN_TRACKLESS}
use Rattle.router_says.specs.declared.seen.Hints.{Hints}
use Rattle.route_sweep.specs.NetNames.{name_at}
use Rattle.router_words.specs.Job.{Blames, JobAsked, Routes, Sweeps}
use Rattle.router_words.specs.declared.method.Method.{Method}
use Rattle.router_words.specs.declared.method.Method.TheVariants.{Strictly}

-- ---- the words

-- a blank, and the name of the net of the slot with this number
abbrev pub net_said : RoutingProblem → (slot : ℕ) → List ℕ
net_said p slot = option_map_or
    (λ (s : Slot). codes " " ++ name_said (name_at p.route s.net))
    (slice_get (slots p.route) slot) []

-- the first of these, and how many more there are
abbrev pub listed : {X : Type 0} → (said_of : X → List ℕ) → (row : List X) → List ℕ
listed said_of row =
    if nat_le (length row) NAME_LIMIT then flat_map said_of row
    else flat_map said_of (take NAME_LIMIT row)
    ++ (AND.now ++ (decimal (length row - NAME_LIMIT) ++ SEEN_MORE.now))

-- the nets of slots, the first by name, and how many more there are
abbrev pub nets_said : RoutingProblem → (row : List ℕ) → List ℕ
nets_said p row = listed (net_said p) row

-- a channel, by its kind
abbrev pub axis_said : Axis → List ℕ
axis_said X = codes "X"
axis_said Y = codes "Y"

-- a cell, behind a blank
abbrev pub cell_said : AnyCell → List ℕ
cell_said cell =
    SEEN_CHANNEL.now ++ (axis_said cell.axis ++ (codes " (" ++ (decimal cell.x ++ (codes ","
    ++ (decimal cell.y ++ codes ")")))))

-- the cell of the slot with this number
abbrev pub slot_cell_said : RoutingProblem → (slot : ℕ) → List ℕ
slot_cell_said p slot =
    option_map_or (λ (s : Slot). cell_said s.cell) (slice_get (slots p.route) slot) []

-- the cell of the first of these slots
abbrev pub first_cell_said : RoutingProblem → (row : List ℕ) → List ℕ
first_cell_said p row = option_map_or (slot_cell_said p) (slice_get row 0) []

-- which slots want different tracks, and are more than there are
abbrev pub crowding_said : RoutingProblem → Crowding → List ℕ
crowding_said p (Cell row) =
    SEEN_CELL.now
    ++ (first_cell_said p row.items ++ (codes ":" ++ nets_said p row.items))
crowding_said p (Crowd row) = SEEN_CROWD.now ++ nets_said p row.items

-- a place, behind a blank
abbrev pub place_said : (x y : ℕ) → List ℕ
place_said x y =
    codes " (" ++ (decimal x ++ (codes "," ++ (decimal y ++ codes ")")))

-- the place of a pin
abbrev pub pin_said : PinAt → List ℕ
pin_said (PadAt x y sub) = place_said x y
pin_said (PinOf x y pin) = place_said x y

-- the places of the pins of pin steps, which open no track in common
abbrev pub apart_said : (row : List PinStep) → List ℕ
apart_said row =
    SEEN_ALONE.now ++ (listed (λ step. pin_said step.pin) row ++ SEEN_APART.now)

-- a net that no track serves, and the places of the pins that a tree of it joins
abbrev pub trackless_said : RoutingProblem → ClosedTree → List ℕ
trackless_said p found =
    SEEN_TRACKLESS.now ++ (net_said p found.tree ++ apart_said found.pins.items)

-- that counting shows it, where that may help
abbrev pub count_said : Hints → List ℕ
count_said hints = if hints.count then SEEN_COUNT.now else []

-- that keeping tracks in order may help, where they may change places
abbrev pub order_said : (width : ℕ) → Hints → RoutingProblem → List ℕ
order_said width hints p =
    if hints.order && is_exchangeable width p then SEEN_ORDER.now else []

-- ---- which options may help

-- counting can be asked for, and was not
abbrev pub may_count : Option JobAsked → Bool
may_count (Some (Routes ask)) = not ask.search.count
may_count (Some (Sweeps ask)) = not ask.search.count
may_count _ = false

-- routings are said by clauses and nothing else
abbrev pub is_strict : Method → Bool
is_strict Strictly = true
is_strict _ = false

-- tracks in order can be asked for, and nothing of that kind was
abbrev pub may_order : Option JobAsked → Bool
may_order (Some (Routes ask)) = is_strict ask.search.method
may_order (Some (Sweeps ask)) = is_strict ask.search.method
may_order (Some (Blames ask)) = is_strict ask.method
may_order _ = false

-- counting, and where the width is open tracks in order
abbrev pub hints_of : Option JobAsked → (is_open : Bool) → Hints
hints_of asked is_open =
    record { count = may_count asked; order = is_open && may_order asked }

-- ---- what is seen

-- where some tree has no track, such a one is said; where not, what else may help
abbrev pub SaysAlone : (width : ℕ) → Hints → RoutingProblem → List ℕ → Type 0
SaysAlone width hints p said =
    ((¬ HasTrackless width p) × (said ≡ order_said width hints p))
    ⊎ ((found : ClosedTree) × IsTracklessTree width p found × (said ≡ trackless_said p found))

-- where numbers alone forbid the width, of a cell or of this crowd, slots that do are said; where
-- not, what is seen of each net alone
abbrev pub SaysSeenBy : (width : ℕ) → Hints → RoutingProblem → (crowd : List ℕ) → List ℕ → Type 0
SaysSeenBy width hints p crowd said =
    ((¬ IsCrowded width p crowd) × SaysAlone width hints p said)
    ⊎ ((crowding : Crowding) × IsCrowding width p crowd crowding
    × (said ≡ crowding_said p crowding ++ count_said hints))

-- so by some crowd of the problem
abbrev pub SaysSeenOf : (width : ℕ) → Hints → RoutingProblem → List ℕ → Type 0
SaysSeenOf width hints p said =
    (crowd : List ℕ) × IsCrowd p crowd × SaysSeenBy width hints p crowd said

-- of a problem that was worked on, what is seen of it; else nothing
abbrev pub SaysSeen : (width : ℕ) → Hints → Option RoutingProblem → List ℕ → Type 0
SaysSeen width hints None said = said ≡ []
SaysSeen width hints (Some p) said = SaysSeenOf width hints p said

-- numbers speak of a width within the limits, and of a search without a reach
abbrev pub is_looked_at : (width : ℕ) → Option JobAsked → Bool
is_looked_at width asked =
    if is_some (reach_of asked) then false else nat_le 1 width && nat_le width WIDTH_LIMIT

-- what is said of a width that has no routing or is open, by what is seen of the problem without a
-- search
abbrev pub Sees : Option RoutingProblem → Option JobAsked → (width : ℕ) → (is_open : Bool)
    → List ℕ → Type 0
Sees problem asked width is_open said =
    ((is_looked_at width asked ≡ false) × (said ≡ []))
    ⊎ ((is_looked_at width asked ≡ true)
    × SaysSeen width (hints_of asked is_open) problem said)
