use Rattle.std.proofs.Common.{[], ◌∷◌, ◌++◌, sym, ◌∙◌, add-one, zero-add}
use Rattle.list_laws.proofs.Ranges.{range-push}
use Rattle.fpga_place.proofs.block_table.numbers_below.Goals as goal

pub loop-number-preserved : goal.loop-number-preserved
loop-number-preserved c =
    rw add-one
    (c.in_ok-push.ensures.items
    ∙ (λ i. c.loop-number.invariant i ++ sym (zero-add c.loop-number.number) i ∷ [])
    ∙ sym (range-push 0 c.loop-number.number))
