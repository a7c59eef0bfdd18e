use Rattle.std.proofs.Common.{List, sym, subst}
use Rattle.std.specs.Prelude.{All}
use Rattle.std.proofs.lemmas.Result.{IfOk-weaker}
use Rattle.fpga_types.specs.Pins.{HasPin}
use Rattle.fpga_types.specs.declared.grid.PinAt.{PinAt}
use Rattle.fpga_types.specs.declared.route.Label.TheVariants.{Class}
use Rattle.route_parts.proofs.PinLemmas.{pins-there}
use Rattle.route_parts.proofs.pins.terminal_pins.Goals as goal

pub returns-in-Class-clause-there : goal.returns-in-Class-clause-there
returns-in-Class-clause-there c = IfOk-weaker c.class_pins.result _ _
    (λ pins h. subst (λ (xs : List PinAt). All (HasPin c.args.arch.now) xs) (sym h)
    (pins-there c.args.arch.now c.args.at.x c.args.at.y Class c.args.at.number))
    c.class_pins.ensures
