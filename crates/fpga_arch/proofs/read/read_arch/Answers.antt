use Rattle.fpga_arch.proofs.ReadLemmas.{reads, refused}
use Rattle.fpga_arch.proofs.read.read_arch.Goals as goal

pub returns-in-Ok-clause-answers : goal.returns-in-Ok-clause-answers
returns-in-Ok-clause-answers c =
    reads c.args.bytes.now c.new-lines.result c.read_lines.new.lines c.new-draft.result
    c.read_lines.new.draft
    c.line_count.result c.finished.result c.new-lines.ensures c.new-draft.ensures c.in-Ok.ensures.ok
    c.line_count.ensures.count c.finished.ensures.answers

pub returns-in-Err-clause-answers : goal.returns-in-Err-clause-answers
returns-in-Err-clause-answers c =
    refused c.args.bytes.now c.new-lines.result c.new-draft.result c.in-Err.fault
    c.new-lines.ensures
    c.new-draft.ensures c.in-Err.ensures.err
