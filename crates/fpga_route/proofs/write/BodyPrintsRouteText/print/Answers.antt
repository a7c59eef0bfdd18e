use Rattle.std.specs.Prelude.{codes}
use Rattle.desk_io.proofs.WritingLaws.{passes-then-writes}
use Rattle.fpga_route.proofs.write.BodyPrintsRouteText.print.Goals as goal

pub returns-clause-written : goal.returns-clause-written
returns-clause-written g c =
    passes-then-writes (codes "\n") _ _ _
    (rw c.as_slice.ensures at c.in-Ok.ensures.written) c.write.ensures
