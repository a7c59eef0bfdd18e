use Rattle.fpga_bounds.proofs.elem_context.leaps.Goals as goal

pub returns : goal.returns
returns c =
    rw (c.in-Some.is, ← c.in-Some-cell.ensures, ← c.in-Some-cell-2.ensures) c.are_apart.ensures
