use Rattle.std.proofs.Common.{◌∙◌}
use Rattle.fpga_text.proofs.ReadingLemmas.{IsTaken, next_line-taken}
use Rattle.fpga_arch.proofs.FaultLemmas.{arch-line, past_line, refused_line, whole-line}
use Rattle.fpga_arch.proofs.read.read_lines.Goals as goal
use Rattle.fpga_arch.proofs.read.read_lines.Goals.{In-Some}

-- the line was taken
taken : (c : In-Some) → IsTaken c.loop-line.lines c.next_line.new.self c.in-Some.line
taken c = next_line-taken c.loop-line.lines c.next_line.new.self c.in-Some.line
    c.in-Some.ensures.line c.in-Some.ensures.after

pub returns-in-Err-clause-err : goal.returns-in-Err-clause-err
returns-in-Err-clause-err c =
    refused_line c.loop-line.draft c.loop-line.lines c.next_line.new.self c.in-Some.line
    c.in-Err.fault (taken (goal.at.returns-in-Err-clause-err c).In-Some)
    c.loop-line.invariant.past c.in-Err.ensures

pub loop-line-preserved : goal.loop-line-preserved
loop-line-preserved c =
    let line = taken (goal.at.loop-line-preserved c).In-Some in
    let takes = c.in_default-take_text.ensures in
    record {
      past = past_line c.loop-line.draft c.take_text.new.self c.loop-line.lines
          c.next_line.new.self c.in-Some.line c.loop-line.invariant.whole line takes.0 takes.1
          c.loop-line.invariant.past;
      arch = arch-line c.loop-line.draft c.take_text.new.self c.loop-line.lines
          c.next_line.new.self c.in-Some.line line takes.1 ∙ c.loop-line.invariant.arch;
      total = line.total ∙ c.loop-line.invariant.total;
      whole = whole-line c.loop-line.draft c.take_text.new.self _ c.loop-line.invariant.whole
          takes.1;
    }
