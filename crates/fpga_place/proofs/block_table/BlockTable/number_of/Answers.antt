use Rattle.std.proofs.Common.{sym, ◌∙◌}
use Rattle.fpga_types.proofs.NameLaws.{same_name}
use Rattle.fpga_place.proofs.RowLemmas.{found-guess}
use Rattle.fpga_place.proofs.block_table.BlockTable.number_of.Goals as goal

pub returns-then-eq-clause-number : goal.returns-then-eq-clause-number
returns-then-eq-clause-number c = rw (← c.self.view_is)
    (found-guess c.self.inside.blocks.now c.args.name.now c.args.guess
    (c.self.invariant.own c.if-self.true) c.if-guess-self.true
    (sym c.name_at.ensures
    ∙ same_name c.name_at.result.now c.args.name.now (sym c.eq.ensures ∙ c.if-eq.true)))
