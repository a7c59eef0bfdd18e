use Rattle.std.proofs.Common.{arith}
use Rattle.router_top.proofs.encoding.EncodeJobProblemWork.work.Goals as goal

pub returns-clause-stopped : goal.returns-clause-stopped
returns-clause-stopped g c early = absurd (omega (arith, early.fewer))
