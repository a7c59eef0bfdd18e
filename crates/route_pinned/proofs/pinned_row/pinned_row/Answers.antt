use Rattle.std.proofs.Common.{◌≡◌, ◌<◌, ◌∙◌, ℕ, List, length, subst, sym, All}
use Rattle.fpga_types.specs.Slots.{slots}
use Rattle.route_pinned.specs.Pinned.{pinned_row}
use Rattle.route_pinned.proofs.EncodeLemmas.{row-is, row-none, row-there}
use Rattle.problem_facts.proofs.SlotCells.{all-there}
use Rattle.route_pinned.proofs.pinned_row.pinned_row.Goals as goal

pub returns-then-not-is_symmetric-clause-row : goal.returns-then-not-is_symmetric-clause-row
returns-then-not-is_symmetric-clause-row c =
    c.new.ensures
    ∙ row-none c.args.width c.args.problem.now
    (sym c.is_symmetric.ensures ∙ c.if-not-is_symmetric.true)

pub fullest_cell-requires-clause-there : goal.fullest_cell-requires-clause-there
fullest_cell-requires-clause-there c =
    rw (c.slots-slots.ensures.value, c.route.ensures.value)
    (all-there c.args.problem.now.route c.route.ensures.given.route)

pub slots_in_cell-requires-clause-there : goal.slots_in_cell-requires-clause-there
slots_in_cell-requires-clause-there c =
    rw (c.slots-slots.ensures.value, c.route.ensures.value)
    (all-there c.args.problem.now.route c.route.ensures.given.route)

pub returns-clause-row : goal.returns-clause-row
returns-clause-row c =
    row-is c.args.width c.args.problem.now c.fullest_cell.result _
    (sym c.is_symmetric.ensures ∙ c.if-not-is_symmetric.false)
    (rw (c.slots-slots.ensures.value, c.route.ensures.value) at c.fullest_cell.ensures.first)
    (rw (c.slots-slots.ensures.value, c.route.ensures.value) at c.slots_in_cell.ensures.row)

pub returns-clause-slots : goal.returns-clause-slots
returns-clause-slots c =
    let is : c.slots_in_cell.result.items ≡ pinned_row c.args.width c.args.problem.now =
    row-is c.args.width c.args.problem.now c.fullest_cell.result _
    (sym c.is_symmetric.ensures ∙ c.if-not-is_symmetric.false)
    (rw (c.slots-slots.ensures.value, c.route.ensures.value) at c.fullest_cell.ensures.first)
    (rw (c.slots-slots.ensures.value, c.route.ensures.value) at c.slots_in_cell.ensures.row) in
    subst (λ (row : List ℕ). All (λ s. s < length (slots c.args.problem.now.route)) row) (sym is)
    (row-there c.args.width c.args.problem.now c.route.ensures.given)
