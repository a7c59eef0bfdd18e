use Rattle.std.proofs.Common.{◌≡◌, ◌+◌, ◌<◌, ℕ, [], ◌∷◌, ◌++◌, All, List, length, sym, ap, ◌∙◌, subst, arith}
use Rattle.std.specs.Prelude.{filter, map}
use Rattle.std.specs.List.{range_with_len}
use Rattle.std.proofs.lemmas.List.Elements.{filter-append}
use Rattle.fpga_types.specs.Placed.{is_terminal_pin}
use Rattle.fpga_types.specs.declared.arch.Arch.{Arch}
use Rattle.fpga_types.specs.declared.grid.PinAt.{PinAt}
use Rattle.fpga_types.specs.declared.grid.PinAt.TheVariants.{Pad as PadAt, Pin as PinOf}
use Rattle.fpga_types.specs.declared.problem.Terminal.{Terminal}
use Rattle.route_bound.specs.Lying.{pins_at}
use Rattle.cell_clauses.specs.Places.{pin_number}
use Rattle.cell_clauses.proofs.FindingLemmas.{passing-behind, pins-low}
use Rattle.cell_clauses.proofs.pins.pins_at.Goals as goal

abbrev pin_of : Terminal → ℕ → PinAt
pin_of at pin = PinOf at.x at.y pin

abbrev pad_of : Terminal → List PinAt
pad_of at = PadAt at.x at.y at.number ∷ []

whole : (arch : Arch) (at : Terminal) (pins : List PinAt) (n : ℕ) → n ≡ length arch.pins
    → pins ≡ filter (is_terminal_pin arch at) (pad_of at)
    ++ filter (is_terminal_pin arch at) (map (pin_of at) (range_with_len 0 n))
    → pins ≡ pins_at arch at
whole arch at pins n e h =
    h ∙ ap (λ (k : ℕ). filter (is_terminal_pin arch at) (pad_of at)
    ++ filter (is_terminal_pin arch at) (map (pin_of at) (range_with_len 0 k))) e
    ∙ sym (filter-append (is_terminal_pin arch at) (pad_of at)
    (map (pin_of at) (range_with_len 0 (length arch.pins))))

all-pins : (c : goal.After-loop-pin) → c.loop-pin.pins.items ≡ pins_at c.args.arch.now c.args.at
all-pins c =
    let e : length c.as_slice.result.now ≡ length c.args.arch.now.pins =
    ap length c.as_slice.ensures in
    whole c.args.arch.now c.args.at c.loop-pin.pins.items c.loop-pin.pin (omega (arith, e))
    c.loop-pin.invariant

pub loop-pin-preserved : goal.loop-pin-preserved
loop-pin-preserved c =
    passing-behind (is_terminal_pin c.args.arch.now c.args.at) (pin_of c.args.at) 0 c.loop-pin.pin
    c.loop-pin.pin (filter (is_terminal_pin c.args.arch.now c.args.at) (pad_of c.args.at))
    c.loop-pin.pins.items c.add_pin-in-loop-pin.new.pins.items (omega arith) c.loop-pin.invariant
    c.in_ok-add_pin-2.ensures

pub returns-clause-pins : goal.returns-clause-pins
returns-clause-pins c = all-pins c

pub returns-clause-low : goal.returns-clause-low
returns-clause-low c =
    subst (λ (pins : List PinAt). All (λ pin. pin_number pin < length c.args.arch.now.pins + 1) pins)
    (sym (all-pins c)) (pins-low c.args.arch.now c.args.at)
