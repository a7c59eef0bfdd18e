use Rattle.std.proofs.Common.{◌+◌, ◌∙◌, ℕ, Some, arith, set, subst, sym}
use Rattle.route_count.specs.Meetings.{AreTaken}
use Rattle.route_count.proofs.MeetingLemmas.{taken-more, taken-other}
use Rattle.route_count.proofs.meetings.note_cell.Goals as goal

pub returns-then-root-clause-taken : goal.returns-then-root-clause-taken
returns-then-root-clause-taken c =
    taken-other c.args.grid c.args.slots.now c.args.trees.now c.args.root c.args.slot
    c.args.taken.now c.requires.taken
    (λ e. c.if-root.true (c.root.ensures.value ∙ e))

pub returns-clause-taken : goal.returns-clause-taken
returns-clause-taken c =
    subst (λ (n : ℕ). AreTaken c.args.grid c.args.slots.now c.args.trees.now c.args.root
    (c.args.slot + 1) (set c.args.taken.now n (Some c.args.slot)))
    (sym c.cell_number-number.ensures.number)
    (taken-more c.args.grid c.args.slots.now c.args.trees.now c.args.root c.args.slot
    c.args.taken.now c.requires.taken (sym c.root.ensures.value ∙ c.if-root.false)
    (omega (
      arith,
      c.cell_number-number.ensures.number,
      c.cell_number-number.ensures.within,
      c.requires.each,
    )))
