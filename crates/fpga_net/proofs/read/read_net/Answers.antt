use Rattle.std.proofs.Common.{◌+◌, ap}
use Rattle.fpga_net.proofs.ReadLemmas.{read, read_sound, refused}
use Rattle.fpga_net.proofs.read.read_net.Goals as goal

pub returns-in-Err-clause-answers : goal.returns-in-Err-clause-answers
returns-in-Err-clause-answers c =
    refused c.args.arch.now c.args.bytes.now c.in-Ok.globals c.new-lines.result
    c.read_lines.new.lines c.new-draft.result c.read_lines.new.draft
    (rw c.as_slice.ensures at c.in-Ok.ensures)
    c.new-lines.ensures c.new-draft.ensures c.in-Err.fault c.in-Err.ensures.err

pub returns-clause-answers : goal.returns-clause-answers
returns-clause-answers c =
    read c.args.arch.now c.args.bytes.now c.in-Ok.globals c.new-lines.result
    c.read_lines.new.lines c.new-draft.result c.read_lines.new.draft
    (rw c.as_slice.ensures at c.in-Ok.ensures)
    c.new-lines.ensures c.new-draft.ensures
    c.in-Ok-read_lines.ensures.ok _ c.finish.result (ap (λ n. n + 1) c.line_count.ensures.count)
    c.finish.ensures

pub returns-clause-sound : goal.returns-clause-sound
returns-clause-sound c =
    read_sound c.args.arch.now c.args.bytes.now c.in-Ok.globals c.new-lines.result
    c.read_lines.new.lines c.new-draft.result c.read_lines.new.draft
    (rw c.as_slice.ensures at c.in-Ok.ensures)
    c.new-lines.ensures c.new-draft.ensures
    c.in-Ok-read_lines.ensures.ok _ c.finish.result c.finish.ensures
