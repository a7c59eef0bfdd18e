use Rattle.route_gen.proofs.NetlistLemmas.{netlist-blocks, netlist-nets, netlist-reads}
use Rattle.route_gen.proofs.laws.netlist_reads.Goals as goal

pub returns-clause-value : goal.returns-clause-value
returns-clause-value c = netlist-reads

pub returns-clause-blocks : goal.returns-clause-blocks
returns-clause-blocks c = netlist-blocks

pub returns-clause-nets : goal.returns-clause-nets
returns-clause-nets c = netlist-nets
