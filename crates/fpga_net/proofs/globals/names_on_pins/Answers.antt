use Rattle.std.proofs.Common.{arith}
use Rattle.fpga_text.proofs.ReadingLemmas.{next_line-taken}
use Rattle.fpga_net.proofs.GlobalLemmas.{looks-next}
use Rattle.fpga_net.proofs.globals.names_on_pins.Goals as goal

pub loop-lines-preserved : goal.loop-lines-preserved
loop-lines-preserved c =
    let line = next_line-taken c.loop-lines.lines c.next_line.new.self c.in-Some.line
    c.in-Some.ensures.line c.in-Some.ensures.after in
    record {
      looked = looks-next c.args.pins c.new-lines.result.ahead c.loop-lines.lines.ahead
          c.next_line.new.self.ahead c.in-Some.line c.loop-lines.names c.add_pinlist.new.names
          line.ahead c.in_ok-add_pinlist.ensures.nets c.loop-lines.invariant.looked;
      few = omega (
        arith,
        c.in_ok-add_pinlist.ensures.few,
        c.loop-lines-test.true,
        c.len.ensures.count,
      );
    }
