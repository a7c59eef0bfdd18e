use Rattle.std.proofs.Common.{◌∙◌, sym, ap}
use Rattle.std.specs.Prelude.{◌||◌}
use Rattle.std.proofs.Math.Bool.{or-false}
use Rattle.fpga_text.specs.Said.{has_text}
use Rattle.fpga_text.proofs.ReadingLemmas.{next_line-past}
use Rattle.fpga_net.specs.Codes.{forms_of}
use Rattle.fpga_net.specs.Forms.{globals_in}
use Rattle.fpga_net.proofs.GlobalLemmas.{globals-all}
use Rattle.fpga_net.proofs.globals.found_names.Goals as goal

pub returns : goal.returns
returns c = λ name is.
    let past = next_line-past c.loop-line.lines c.next_line.new.self c.in_default.ensures.line
    c.in_default.ensures.after in
    sym (or-false (has_text c.loop-line.found name))
    ∙ ap (λ ls. has_text c.loop-line.found name || has_text (globals_in (forms_of ls)) name)
    (sym past.ahead)
    ∙ c.loop-line.invariant name is
    ∙ globals-all _ c.args.text.now name (ap (λ l. l.ahead) c.new-lines.ensures)
