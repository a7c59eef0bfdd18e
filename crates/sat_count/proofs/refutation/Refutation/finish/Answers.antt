use Rattle.std.proofs.Common.{subst}
use Rattle.sat_count.specs.Refuting.{IsRefutation}
use Rattle.sat_count.proofs.RefutingLemmas.{finish-refutes}
use Rattle.sat_count.proofs.refutation.Refutation.finish.Goals as goal

pub returns-clause-sound : goal.returns-clause-sound
returns-clause-sound c =
    finish-refutes c.args.self (subst IsRefutation c.self.view_is c.self.invariant)
    c.args.hints.now 0 c.requires
