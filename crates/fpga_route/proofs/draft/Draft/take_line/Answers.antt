use Rattle.std.proofs.lemmas.Result.{on_ok_weaker}
use Rattle.fpga_route.specs.Lines.{net_said, elem_said}
use Rattle.fpga_route.proofs.DraftLemmas.{takes_line-net, takes_line-elem, takes_line-block}
use Rattle.fpga_route.proofs.draft.Draft.take_line.Goals as goal

pub returns-in-Net-clause-ok : goal.returns-in-Net-clause-ok
returns-in-Net-clause-ok c = on_ok_weaker c.begin_net.result
    (takes_line-net c.args.self.now c.begin_net.new.self c.args.line.now
    (net_said c.in-Net.net) c.in-Net.ensures)
    (rw c.number-number.ensures at c.begin_net.ensures.ok)

pub returns-in-Net-clause-err : goal.returns-in-Net-clause-err
returns-in-Net-clause-err c =
    rw (← c.in-Net.ensures, ← c.number-number.ensures) c.begin_net.ensures.err

pub returns-in-Elem-clause-ok : goal.returns-in-Elem-clause-ok
returns-in-Elem-clause-ok c = on_ok_weaker c.add_elem.result
    (takes_line-elem c.args.self.now c.add_elem.new.self c.args.line.now
    (elem_said c.in-Elem.elem) c.in-Elem.ensures)
    (rw c.number-number.ensures at c.add_elem.ensures.ok)

pub returns-in-Elem-clause-err : goal.returns-in-Elem-clause-err
returns-in-Elem-clause-err c =
    rw (← c.in-Elem.ensures, ← c.number-number.ensures) c.add_elem.ensures.err

pub returns-in-Block-clause-ok : goal.returns-in-Block-clause-ok
returns-in-Block-clause-ok c = on_ok_weaker c.keep_line.result
    (takes_line-block c.args.self.now c.keep_line.new.self c.args.line.now c.in-Block.ensures)
    (rw (c.raw-raw.ensures, c.number-number.ensures) at c.keep_line.ensures.ok)

pub returns-in-Block-clause-err : goal.returns-in-Block-clause-err
returns-in-Block-clause-err c =
    rw (← c.in-Block.ensures, ← c.number-number.ensures) c.keep_line.ensures.err
