use Rattle.std.proofs.Common.{rules}
use Rattle.fpga_net.proofs.GlobalLemmas.{finds-other, finds-sought}
use Rattle.fpga_net.proofs.globals.find_word.Goals as goal

pub returns-then-contains : goal.returns-then-contains
returns-then-contains c = search (rules, finds-sought)

pub returns : goal.returns
returns c = search (rules, finds-other)
