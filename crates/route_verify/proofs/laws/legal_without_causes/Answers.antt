use Rattle.fpga_text.specs.FirstFault.{first_fault}
use Rattle.route_verify.specs.Judged.{causes}
use Rattle.std.proofs.Common.{None}
use Rattle.route_verify.proofs.LimitLemmas.{first-is-cause, legal-exactly}
use Rattle.route_verify.proofs.laws.legal_without_causes.Goals as goal

pub returns : goal.returns
returns c = λ width problem found.
    legal-exactly (first_fault (causes width problem found))
    (first-is-cause None width problem found)
