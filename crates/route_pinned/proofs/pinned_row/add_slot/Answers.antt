use Rattle.std.proofs.Common.{sym, ◌∙◌, arith}
use Rattle.std.proofs.lemmas.Bool.Decides.{Decides-eqb}
use Rattle.fpga_types.specs.CellNumbers.{number_of_cell}
use Rattle.fpga_types.specs.Slots.{slot_at}
use Rattle.route_encode.proofs.CompeteLemmas.{differs}
use Rattle.problem_facts.proofs.CellCountLemmas.{row-full, row-left, row-taken, takes}
use Rattle.route_pinned.proofs.pinned_row.add_slot.Goals as goal

pub returns-then-width-len-clause-row : goal.returns-then-width-len-clause-row
returns-then-width-len-clause-row c =
    row-full (takes c.args.grid c.args.slots.now c.args.number) c.args.width c.args.slot
    c.args.row.now.items c.requires.row (omega (arith, c.if-width-len.true, c.len.ensures.value))

pub returns-then-cell_number-number-clause-row : goal.returns-then-cell_number-number-clause-row
returns-then-cell_number-number-clause-row c =
    row-left (takes c.args.grid c.args.slots.now c.args.number) c.args.width c.args.slot
    c.args.row.now.items c.requires.row
    (differs (number_of_cell c.args.grid (slot_at c.args.slots.now c.args.slot).cell)
    c.args.number
    (λ e. c.if-cell_number-number.true (c.cell_number.ensures.number ∙ e)))

pub returns-clause-row : goal.returns-clause-row
returns-clause-row c =
    c.push.ensures.items ∙
    row-taken (takes c.args.grid c.args.slots.now c.args.number) c.args.width c.args.slot
    c.args.row.now.items c.requires.row
    (omega (arith, c.if-width-len.false, c.len.ensures.value))
    ((Decides-eqb (number_of_cell c.args.grid (slot_at c.args.slots.now c.args.slot).cell)
    c.args.number).1 (sym c.cell_number.ensures.number ∙ c.if-cell_number-number.false))
