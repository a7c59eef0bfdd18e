use Rattle.sat_core.proofs.ImpliedLaws.{taken_walking}
use Rattle.sat_core.proofs.analysis.Analysis.look_behind.Goals as goal

pub go_on-requires-clause-walking : goal.go_on-requires-clause-walking
go_on-requires-clause-walking c =
    taken_walking c.args.self.now.watches.now c.args.self.now.marks.now c.loop-visit.implied
    c.take.new.self
    c.in-Some.visit c.loop-visit.invariant c.in-Some.ensures.marks c.in-Some.ensures.some
