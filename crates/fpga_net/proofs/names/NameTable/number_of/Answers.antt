use Rattle.std.proofs.Common.{◌∙◌}
use Rattle.fpga_net.specs.Names.{bytes_of}
use Rattle.fpga_net.proofs.NameLemmas.{number_of-within}
use Rattle.fpga_net.proofs.names.NameTable.number_of.Goals as goal

pub returns-clause-number : goal.returns-clause-number
returns-clause-number c = rw (← c.self.view_is)
    (c.copied.ensures ∙ c.get.ensures.value ∙ c.self.invariant.found c.args.name.now)

pub returns-clause-within : goal.returns-clause-within
returns-clause-within c = rw (← c.self.view_is)
    (number_of-within (bytes_of c.self.inside.names.items) c.args.name.now c.copied.result
    (c.copied.ensures ∙ c.get.ensures.value ∙ c.self.invariant.found c.args.name.now))
