use Rattle.std.proofs.Common.{ap, ◌∙◌}
use Rattle.std.specs.Prelude.{is_some}
use Rattle.fpga_net.proofs.NameLemmas.{number_of-there}
use Rattle.fpga_net.proofs.names.NameTable.contains.Goals as goal

pub returns : goal.returns
returns c =
    c.is_some.ensures ∙ ap is_some c.number_of.ensures.number
    ∙ number_of-there c.args.self.now c.args.name.now
