-- Which straight lines of a kind a net can cross, by the places of its terminals.
use Rattle.std.specs.Prelude.{◌≡◌, ℕ, ◌+◌, ◌-◌, ◌<◌, ◌≤◌, ◌⊎◌, nat_lt, Bool, true, false, ◌&&◌, ◌||◌, List, Some, if◌then◌else◌}
use Rattle.std.specs.List.{list_any}
use Rattle.std.specs.Option.{option_map_or}
use Rattle.fpga_types.specs.Problem.{PlacedNetlist}
use Rattle.fpga_types.specs.Terminals.{terminal_in}
use Rattle.fpga_types.specs.declared.arch.SideSet.{SideSet}
use Rattle.fpga_types.specs.declared.netlist.Net.{Net}
use Rattle.fpga_types.specs.declared.netlist.PinRef.{PinRef}
use Rattle.fpga_types.specs.declared.problem.Terminal.{Terminal}
use Rattle.route_bound.specs.Lines.{crosses_line}
use Rattle.route_bound.specs.Ranges.{corners_of, line_count, line_range}
use Rattle.route_bound.specs.Reaches.{reach_of}
use Rattle.route_bound.specs.Standings.{standing_of}
use Rattle.route_bound.specs.declared.range.LineKind.{LineKind}
use Rattle.route_bound.specs.declared.range.LineKind.TheVariants.{Column, Row}
use Rattle.route_bound.specs.declared.range.Standing.{Standing}
use Rattle.route_bound.specs.declared.reach.Reach.{Reach}
use Rattle.route_bound.specs.declared.span.Span.{Span}
use Rattle.route_bound.specs.declared.span.Spans.{Spans}

-- the column of a place, or its row
abbrev pub place_along : LineKind → Reach → ℕ
place_along Column r = r.x
place_along Row r = r.y

-- a cell lies along one of the sides
abbrev pub has_some : SideSet → Bool
has_some sides = sides.left || sides.right || sides.bottom || sides.top

-- the lines beside the place of what is reached, and all of so many where no cell is reached
abbrev pub span_of : LineKind → (limit : ℕ) → Reach → Span
span_of kind limit r = if has_some r.sides
    then record { low = place_along kind r - 1; high = place_along kind r }
    else record { low = 0; high = limit }

-- on which sides of a straight line a terminal lies
abbrev pub line_standing : PlacedNetlist → LineKind → (line : ℕ) → Terminal → Standing
line_standing placed kind line at =
    standing_of (corners_of (line_range placed.placement.grid kind line))
    (reach_of placed.arch placed.placement.grid at)

-- the terminal at the pin is inside of no line before the span, and outside of none behind it
pub record Covers (placed : PlacedNetlist) (kind : LineKind) (pin : PinRef) (span : Span)
    : Type 0 where
  pub before : (at : Terminal) (line : ℕ) → terminal_in placed pin ≡ Some at → line < span.low
      → (line_standing placed kind line at).inside ≡ false
  pub behind : (at : Terminal) (line : ℕ) → terminal_in placed pin ≡ Some at
      → line < line_count placed.placement.grid kind → span.high ≤ line
      → (line_standing placed kind line at).outside ≡ false

-- the terminal at the pin is there and inside of the line, or outside of it
abbrev pub is_pin_inside : PlacedNetlist → LineKind → (line : ℕ) → PinRef → Bool
is_pin_inside placed kind line pin =
    option_map_or (λ (at : Terminal). (line_standing placed kind line at).inside)
    (terminal_in placed pin) false

abbrev pub is_pin_outside : PlacedNetlist → LineKind → (line : ℕ) → PinRef → Bool
is_pin_outside placed kind line pin =
    option_map_or (λ (at : Terminal). (line_standing placed kind line at).outside)
    (terminal_in placed pin) false

-- a line behind the first of the wider span is behind that of the other too, or the terminal at the
-- pin is inside of it; one before its last is before that of the other, or the terminal is outside
pub record Widens (placed : PlacedNetlist) (kind : LineKind) (pin : PinRef) (span wider : Span)
    : Type 0 where
  pub inside : (line : ℕ) → line < line_count placed.placement.grid kind → wider.low < line
      → (span.low < line) ⊎ (is_pin_inside placed kind line pin ≡ true)
  pub outside : (line : ℕ) → line + 1 < wider.high
      → (line + 1 < span.high) ⊎ (is_pin_outside placed kind line pin ≡ true)

-- so is it of some of these pins
pub record WidensByAny
    (placed : PlacedNetlist) (kind : LineKind) (pins : List PinRef) (span wider : Span)
    : Type 0 where
  pub inside : (line : ℕ) → line < line_count placed.placement.grid kind → wider.low < line
      → (span.low < line) ⊎ (list_any (is_pin_inside placed kind line) pins ≡ true)
  pub outside : (line : ℕ) → line + 1 < wider.high
      → (line + 1 < span.high) ⊎ (list_any (is_pin_outside placed kind line) pins ≡ true)

-- the line is behind the first one beside a sink and before the last one beside the driver, or the
-- other way round
abbrev pub is_between : Spans → (line : ℕ) → Bool
is_between spans line = nat_lt spans.sinks.low line && nat_lt (line + 1) spans.driver.high
    || nat_lt spans.driver.low line && nat_lt (line + 1) spans.sinks.high

-- the net crosses each such line
abbrev pub AreBetween : PlacedNetlist → LineKind → Net → Spans → Type 0
AreBetween placed kind net spans = (line : ℕ) → line < line_count placed.placement.grid kind
    → is_between spans line ≡ true → crosses_line placed kind net line ≡ true

-- the net crosses no line before the span, and none behind it
abbrev pub IsOffSpan : PlacedNetlist → LineKind → Net → Span → Type 0
IsOffSpan placed kind net span = (line : ℕ) → line < line_count placed.placement.grid kind
    → (line < span.low) ⊎ (span.high ≤ line) → crosses_line placed kind net line ≡ false
