-- so many parts were passed, each of which goes on
use Rattle.std.proofs.Common.{length}
use Rattle.fpga_text.proofs.JoinedLemmas.{IsPassed}
use Rattle.fpga_text.proofs.joined.behind_parts.Given as goal

abbrev pub invariant-loop-rest : goal.invariant-loop-rest
invariant-loop-rest l = IsPassed l.text l.taken l.rest

abbrev pub decreases-loop-rest : goal.decreases-loop-rest
decreases-loop-rest l = length l.rest
