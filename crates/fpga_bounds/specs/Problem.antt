-- A routing problem that is set up to be solved: its four values fit, and the slots, the steps and
-- the pin steps of its route are at hand.
use Rattle.std.specs.Prelude.{◌≡◌, ℕ, ◌*◌, ◌<◌, ◌≤◌, List, length}
use Rattle.fpga_types.specs.Fabric.{Meets}
use Rattle.fpga_types.specs.Fits.{Fits}
use Rattle.fpga_types.specs.Given.{IsGiven}
use Rattle.fpga_types.specs.Pins.{HasPin}
use Rattle.fpga_types.specs.Problem.{RoutingProblem}
use Rattle.fpga_types.specs.Size.{Size}
use Rattle.fpga_types.specs.Slots.{pairs, pin_steps, slot_at, slots, steps}
use Rattle.fpga_types.specs.Touching.{Touches}
use Rattle.fpga_types.specs.declared.limits.TheConstants.{SLOT_LIMIT, STEP_LIMIT}
use Rattle.fpga_types.specs.declared.problem.PinStep.{PinStep}
use Rattle.fpga_types.specs.declared.problem.RouteStep.{RouteStep}
use Rattle.fpga_types.specs.declared.problem.Slot.{Slot}
use Rattle.fpga_types.specs.declared.route.RouteText.{RouteText}

-- these are the slots, the steps and the pin steps of the route, and so many are the pairs of its
-- slots that take one cell
pub record AreListed (route : RouteText) (all : List Slot) (found : List RouteStep)
    (pins : List PinStep) (count : ℕ) : Type 0 where
  pub slots_are : all ≡ slots route
  pub steps_are : found ≡ steps route
  pub pins_are : pins ≡ pin_steps route
  pub pairs_are : count ≡ length (pairs (slots route))
  pub few_steps : length found ≤ STEP_LIMIT
  pub few_pins : length pins ≤ STEP_LIMIT
  pub few_pairs : count ≤ SLOT_LIMIT * SLOT_LIMIT

-- the values are given and fit, and what the route lists is at hand
pub record IsPosed (p : RoutingProblem) (all : List Slot) (found : List RouteStep)
    (pins : List PinStep) (count : ℕ) : Type 0 where
  pub given : IsGiven p
  pub fits : Fits p
  pub listed : AreListed p.route all found pins count

-- both slots of the step are some of these
abbrev pub IsStepWithin : List Slot → RouteStep → Type 0
IsStepWithin all s = (s.from < length all) × (s.to < length all)

-- the cells of the step's slots meet
abbrev pub IsStepMeeting : Size → List Slot → RouteStep → Type 0
IsStepMeeting grid all s = Meets grid (slot_at all s.from).cell (slot_at all s.to).cell

-- the pin is one of the architecture, the slot is one of the route, and the pin touches its cell
pub record IsPinStepTouching (p : RoutingProblem) (step : PinStep) : Type 0 where
  pub within : step.slot < length (slots p.route)
  pub has_pin : HasPin p.arch step.pin
  pub touches : Touches p.arch p.route.grid step.pin (slot_at (slots p.route) step.slot).cell
