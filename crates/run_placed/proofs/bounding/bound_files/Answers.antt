use Rattle.std.proofs.Common.{inl, inr, refl}
use Rattle.run_outcome.specs.declared.text_file.TextFile.TheVariants.{Problem}
use Rattle.run_outcome.proofs.StopLaws.{desk-fault}
use Rattle.run_placed.proofs.bounding.bound_files.Goals as goal

pub returns-in-Err-clause-bounds : goal.returns-in-Err-clause-bounds
returns-in-Err-clause-bounds g c =
    inl ((c.in-Err.stop, c.in-Err.ensures.stop, c.unread_outcome.ensures), refl)

pub returns-in-Err-clause-quiet : goal.returns-in-Err-clause-quiet
returns-in-Err-clause-quiet g c told =
    c.in-Err.ensures.quiet (λ fails. told (desk-fault (Problem c.in-Err.stop.file)
    c.in-Err.stop.fault c.unread_outcome.result c.unread_outcome.ensures fails))

pub returns-clause-bounds : goal.returns-clause-bounds
returns-clause-bounds g c = inr (c.in-Ok.placed, c.in-Ok.ensures.poses, c.bound_placed.ensures)
