-- no line so far has a fault, the steps so far were taken, and with those that are left they are
-- all steps
use Rattle.std.proofs.Common.{◌≡◌, ◌++◌, List, length}
use Rattle.fpga_text.specs.FirstFault.{first_fault}
use Rattle.sat_clause.specs.Step.{Step}
use Rattle.sat_check.specs.Replaying.{HasReplayed}
use Rattle.sat_rat.specs.CountedStore.{Tracks}
use Rattle.sat_rat.specs.FullJudge.{full_fault}
use Rattle.sat_text.specs.LratText.{full_lrat_faults, lrat_said}
use Rattle.run_checks.proofs.checking.replay_text.Given as goal

abbrev pub invariant-loop-more : goal.invariant-loop-more
invariant-loop-more l = record {
  past : first_fault (full_lrat_faults (length l.formula.cnf.clauses) l.text)
      ≡ first_fault l.lines.faults;
  taken : (steps : List Step) × HasReplayed full_fault Tracks l.formula.cnf steps l.replay
      × (steps ++ l.lines.steps ≡ lrat_said l.text);
}

abbrev pub decreases-loop-more : goal.decreases-loop-more
decreases-loop-more l = length l.lines.steps
