use Rattle.fpga_bounds.proofs.EndLemmas.{gains-terminal}
use Rattle.fpga_bounds.proofs.net_ends.add_terminal.Goals as goal

pub returns : goal.returns
returns c =
    gains-terminal c.args.terminals.now c.see.new.seen c.args.terminal c.in-Some.at
    c.sink_line.result c.in-Some.is c.sink_line.ensures c.in_ok-see.ensures
