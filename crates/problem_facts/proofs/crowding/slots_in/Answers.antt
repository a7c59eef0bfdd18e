use Rattle.std.proofs.Common.{◌++◌, ◌∷◌, [], ◌∙◌, ℕ, List, ap, sym}
use Rattle.std.proofs.lemmas.Bool.Decides.{Decides-eqb}
use Rattle.fpga_types.specs.CellNumbers.{number_of_cell}
use Rattle.fpga_types.specs.Slots.{slot_at}
use Rattle.route_encode.proofs.CompeteLemmas.{differs}
use Rattle.problem_facts.proofs.CellCountLemmas.{passing-left, passing-taken, takes}
use Rattle.problem_facts.proofs.crowding.slots_in.Goals as goal

pub loop-s-preserved-then-cell-number : goal.loop-s-preserved-then-cell-number
loop-s-preserved-then-cell-number c =
    c.loop-s.invariant
    ∙ sym (passing-left (takes c.args.trees.now.grid c.args.trees.now.slots.now c.args.number)
    c.loop-s.s (differs (number_of_cell c.args.trees.now.grid
    (slot_at c.args.trees.now.slots.now c.loop-s.s).cell) c.args.number
    (λ e. c.if-cell-number.true (c.cell.ensures.number ∙ e))))

pub loop-s-preserved : goal.loop-s-preserved
loop-s-preserved c =
    c.in_ok-push.ensures.items
    ∙ ap (λ (xs : List ℕ). xs ++ c.loop-s.s ∷ []) c.loop-s.invariant
    ∙ sym (passing-taken (takes c.args.trees.now.grid c.args.trees.now.slots.now c.args.number)
    c.loop-s.s ((Decides-eqb (number_of_cell c.args.trees.now.grid
    (slot_at c.args.trees.now.slots.now c.loop-s.s).cell) c.args.number).1
    (sym c.cell.ensures.number ∙ c.if-cell-number.false)))
