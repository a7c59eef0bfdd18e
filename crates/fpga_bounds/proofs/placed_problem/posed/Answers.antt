use Rattle.fpga_bounds.proofs.placed_problem.posed.Goals as goal

pub invariant_of-result : goal.invariant_of-result
invariant_of-result c = record {
  given = c.requires.given;
  fits = c.requires.fits;
  listed = c.in-Ok.ensures;
}
