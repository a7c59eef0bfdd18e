use Rattle.std.proofs.Common.{rules, ◌≡◌, false}
use Rattle.fpga_text.specs.Words.{text_lines}
use Rattle.fpga_text.specs.declared.style.Style.TheVariants.{Joined}
use Rattle.fpga_net.specs.Globals.{some_globals}
use Rattle.fpga_net.proofs.GlobalLemmas.{finds-none}
use Rattle.fpga_net.proofs.globals.global_nets.Goals as goal

pub returns-then-not-names_globals : goal.returns-then-not-names_globals
returns-then-not-names_globals c =
    let none : some_globals (text_lines Joined c.args.text.now) ≡ false = search rules in
    rw c.new.ensures (finds-none c.args.pins (text_lines Joined c.args.text.now) none)
