use Rattle.std.proofs.Common.{◌∙◌}
use Rattle.fpga_types.specs.Terminals.{is_net_named}
use Rattle.list_laws.proofs.Searches.{if-position-within}
use Rattle.fpga_bounds.proofs.net_table.NetTable.number_of.Goals as goal

pub returns-clause-within : goal.returns-clause-within
returns-clause-within c = rw (← c.self.view_is)
    (if-position-within (is_net_named c.args.name.now) c.self.inside.nets.now c.copied.result
    (c.copied.ensures ∙ c.get.ensures.value ∙ c.self.invariant.found c.args.name.now))
